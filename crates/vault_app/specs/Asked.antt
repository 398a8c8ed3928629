-- What words ask for, and the lines of those that ask for no vault.
use Rattle.std.specs.Prelude.{◌≡◌, ◌⊎◌, ℕ, ◌++◌, List, codes, decimal}
use Rattle.std.specs.Fmt.{signed_decimal}
use Rattle.clap.specs.Words.{IsAmong, Text, fault_of}
use Rattle.clap.specs.declared.error.kind.ErrorKind.TheVariants.{DisplayHelp, DisplayVersion}
use Rattle.vault_schema.specs.Versions.{newest, number_of}
use Rattle.vault_core.specs.Name.{IsName}
use Rattle.vault_core.specs.Words.{right_word}
use Rattle.vault_core.specs.declared.right.Right.{Right as RightOf}
use Rattle.vault_store.specs.declared.vault.Fault.TheVariants as vault
use Rattle.vault_verdict.specs.declared.sizes.Sizes.{Sizes}
use Rattle.vault_words.specs.Commands.{program_app}
use Rattle.vault_words.specs.Jobs.{IsAsked}
use Rattle.vault_words.specs.declared.commands.batch.BatchJob.{BatchJob}
use Rattle.vault_words.specs.declared.commands.rights.RightJob.{RightJob}
use Rattle.vault_words.specs.declared.jobs.Job.{Job}
use Rattle.vault_words.specs.declared.jobs.Job.TheVariants.{Batch}
use Rattle.vault_jobs.specs.declared.stop.Stop.TheVariants.{Vault}
use Rattle.vault_app.specs.declared.ending.Ending.{Ending}
use Rattle.vault_app.specs.declared.ending.Ending.TheVariants.{Done, Version}
use Rattle.vault_app.specs.declared.ending.Ending.TheVariants.{BadWords, Stopped}
use Rattle.vault_app.specs.declared.placeholder.Placeholder.{Placeholder}
use Rattle.vault_app.specs.declared.placeholder.Placeholder.TheVariants.{Caller, Merchant, Right}

-- the line of a file that is sound
abbrev pub sound_line : Sizes → List ℕ
sound_line sizes = codes "sound " ++ decimal sizes.merchants ++ codes " " ++ decimal sizes.entries
    ++ codes " " ++ decimal sizes.records ++ codes "\n"

-- the line of a file that is in the newest schema
abbrev pub schema_line : List ℕ
schema_line = codes "schema " ++ signed_decimal (number_of newest) ++ codes "\n"

-- both names of a right are names
abbrev pub AreNames : RightJob → Type 0
AreNames j = IsName j.caller.now × IsName j.merchant.now

-- and its word is a right's
abbrev pub IsRight : RightJob → Type 0
IsRight j = (right : RightOf) × (j.right.now ≡ right_word right)

-- the first of a caller and a merchant that is no name
abbrev pub MisnamesAsker : List ℕ → List ℕ → Placeholder → Type 0
MisnamesAsker caller m placeholder = (placeholder ≡ Caller) × ¬ (IsName caller)
    ⊎ (placeholder ≡ Merchant) × IsName caller × ¬ (IsName m)

-- the first of a right's words that is no name; and then the one that is no right
abbrev pub MisnamesRight : RightJob → Placeholder → Type 0
MisnamesRight j placeholder = MisnamesAsker j.caller.now j.merchant.now placeholder
    ⊎ (placeholder ≡ Right) × (AreNames j × ¬ (IsRight j))

-- it is a batch
abbrev pub IsBatch : Job → Type 0
IsBatch job = (j : BatchJob) × (job ≡ Batch j)

-- the words ask for a job of which P holds
abbrev pub AsksFor : List Text → (Job → Type 0) → Type 0
AsksFor words P = (job : Job) × IsAsked program_app words job × P job

-- the words ask for help
abbrev pub AsksHelp : List Text → Type 0
AsksHelp words = IsAmong DisplayHelp (fault_of program_app words)

-- the words ask for the version
abbrev pub AsksVersion : List Text → Type 0
AsksVersion words = IsAmong DisplayVersion (fault_of program_app words)

-- How the program ends without a job: with help, which is done; with its version; with words that ask for no
-- job; or for want of memory before there is a job.
abbrev pub Unasked : List Text → Ending → Type 0 → Type 0 → Type 0
Unasked words ending unread unsent =
    (AsksHelp words × (ending ≡ Done) ⊎ AsksVersion words × (ending ≡ Version) × unsent) × unread
    ⊎ (((job : Job) → ¬ (IsAsked program_app words job)) × (ending ≡ BadWords) × unread × unsent
    ⊎ (ending ≡ Stopped (Vault vault.Memory)) × unread × unsent)
