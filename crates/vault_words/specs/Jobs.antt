-- The job that words ask for.
use Rattle.std.specs.Prelude.{◌≡◌, ◌≢◌, ◌⊎◌, List, [], ◌∷◌, Option, Some, string_bytes}
use Rattle.clap.specs.Words.{App, Row, Text, IsAmong, fault_of, subcommand_of}
use Rattle.clap.specs.declared.error.kind.ErrorKind.{ErrorKind}
use Rattle.clap.specs.declared.error.kind.ErrorKind.TheVariants.{DisplayHelp, DisplayVersion, OutOfMemory}
use Rattle.vault_words.specs.Commands.{Asks}
use Rattle.vault_words.specs.Why.{HasFewDigits}
use Rattle.vault_words.specs.declared.jobs.Job.{Job}
use Rattle.vault_words.specs.declared.jobs.JobFault.{JobFault}
use Rattle.vault_words.specs.declared.jobs.JobFault.TheVariants.{Help, Version, BadWords, Memory}

-- the subcommand that was met, with its values, asks for the job
abbrev pub AsksBy : Option (Text × List Row) → Job → Type 0
AsksBy met job =
    (name : Text) × (rows : List Row) × (met ≡ Some (name, rows)) × Asks name rows job

-- the words are without fault, and the subcommand that they name asks for the job
pub record IsAsked (app : App) (words : List Text) (job : Job) : Type 0 where
  pub taken : fault_of app words ≡ []
  pub asks : AsksBy (subcommand_of app words) job

-- Why words give no job. Help is only given where it is a fault of the words that they ask for it, and is
-- given where that is their only fault; so with the version. Bad words ask for no job, and what is said of
-- them shows few digits. A want of memory says nothing of the words.
abbrev pub Explains : App → List Text → JobFault → Type 0
Explains app words (Help text) = IsAmong DisplayHelp (fault_of app words)
Explains app words Version = IsAmong DisplayVersion (fault_of app words)
Explains app words (BadWords why) = ((fault_of app words ≢ DisplayHelp ∷ [])
    × (fault_of app words ≢ DisplayVersion ∷ []) × ((job : Job) → ¬ (IsAsked app words job)))
    × HasFewDigits (string_bytes why)
Explains app words Memory = Unit {0}

-- What a refusal of this kind comes to. The text of help may find no memory.
abbrev pub StandsFor : ErrorKind → JobFault → Type 0
StandsFor kind (Help text) = kind ≡ DisplayHelp
StandsFor kind Version = kind ≡ DisplayVersion
StandsFor kind (BadWords why) =
    ((kind ≢ DisplayHelp) × (kind ≢ DisplayVersion) × (kind ≢ OutOfMemory))
    × HasFewDigits (string_bytes why)
StandsFor kind Memory = (kind ≡ DisplayHelp) ⊎ (kind ≡ OutOfMemory)
