-- What a parse of the words gives.
use Rattle.std.proofs.Common.{◌≡◌, codes, List, [], Option, Some, None, Result, Ok, Err, true, false}
use Rattle.std.proofs.Common.{sym, ◌∙◌, ap, refl, subst, inl, inr}
use Rattle.std.specs.Prelude.{String, string_bytes}
use Rattle.std.specs.Option.{option_map}
use Rattle.std.specs.declared.alloc.Global.{Global}
use Rattle.std.specs.Box.{box_value}
use Rattle.std.specs.Str.{bytes_eq}
use Rattle.clap.specs.Words.{App, HasKind, HasMatchesOf, IsAmong, Row, Text, fault_of, found_of, is_simple}
use Rattle.clap.specs.Words.{is_simple_and_free, kind_of, rows_of, subcommand_name_of, subcommand_of}
use Rattle.clap.specs.Words.{subcommand_rows_of}
use Rattle.clap.specs.declared.error.Error.{Error}
use Rattle.clap.specs.declared.error.kind.ErrorKind.{ErrorKind}
use Rattle.clap.specs.declared.parser.matches.ArgMatches.{ArgMatches}
use Rattle.clap.specs.declared.parser.matches.ArgMatches.TheViews.{out-ArgMatches, out-SubCommand}
use Rattle.vault_words.specs.Commands.Batch.{AsksBatch}
use Rattle.vault_words.specs.Commands.Pipe.{AsksPipe}
use Rattle.vault_words.specs.Commands.Trial.{AsksTrial}
use Rattle.vault_words.specs.Jobs.{AsksBy, Explains, StandsFor}
use Rattle.vault_words.specs.Commands.{Asks, program_app}
use Rattle.vault_words.specs.WordValues.{Finds}
use Rattle.vault_words.specs.declared.commands.batch.BatchJob.{BatchJob}
use Rattle.vault_words.specs.declared.commands.pipe.PipeJob.{PipeJob}
use Rattle.vault_words.specs.declared.commands.trial.TrialJob.{TrialJob}
use Rattle.vault_words.specs.Why.{HasFewDigits}
use Rattle.vault_words.specs.declared.jobs.Job.{Job}
use Rattle.vault_words.specs.declared.jobs.Job.TheVariants.{Trial, Pipe, Batch}
use Rattle.vault_words.specs.declared.jobs.JobFault.{JobFault}
use Rattle.vault_words.specs.declared.jobs.JobFault.TheVariants.{Help, Version, BadWords, Memory}

-- a name with values, as the parse met a subcommand
abbrev Met : Type 0
Met = Text × List Row

-- the name and the values of a subcommand, by the two getters
met_both : {A : Type 0} (name_of : A → Text) (rows_in : A → List Row) (o : Option A) (name : Text)
    (rows : List Row) → Some name ≡ option_map name_of o
    → Some rows ≡ option_map (λ (p : Met). p.1)
    (option_map {T = A} {U = Met} (λ a. (name_of a, rows_in a)) o)
    → option_map {T = A} {U = Met} (λ a. (name_of a, rows_in a)) o ≡ Some (name, rows)
met_both name_of rows_in None name rows e f = absurd (cc e)
met_both name_of rows_in (Some a) name rows e f = cc

pub met : (m : ArgMatches) (name : Text) (rows : List Row) → Some name ≡ subcommand_name_of m
    → Some rows ≡ option_map (λ (p : Met). p.1) (subcommand_rows_of m)
    → subcommand_rows_of m ≡ Some (name, rows)
met m name rows e f = met_both (λ b. (out-SubCommand (box_value b)).name.now)
    (λ b. rows_of (found_of (out-SubCommand (box_value b)).matches)) (out-ArgMatches m).subcommand
    name rows e f

-- the job of the subcommand that was met
pub by_met : {E : Type 0} (met : Option Met) (name : Text) (rows : List Row) (r : Result Job E)
    → met ≡ Some (name, rows) → Finds r (Asks name rows) → Finds r (AsksBy met)
by_met met name rows (Err fault) e h = λ job asked.
    let same : (asked.0, asked.1) ≡ (name, rows) = cc (asked.2, e) in
    h job (subst (λ (p : Met). Asks p.0 p.1 job) same asked.3)
by_met met name rows (Ok job) e h = (name, rows, e, h)

-- one text isn't two
differ : (name a b : Text) → name ≡ a → name ≡ b → bytes_eq a a ≡ true → bytes_eq a b ≡ false → ⊥
differ name a b is also one two =
    let same : bytes_eq a a ≡ bytes_eq a b = ap (bytes_eq a) (sym is ∙ also) in
    absurd (cc (same, one, two))

-- the name of one subcommand, whose values ask for no job
pub no_trial : (name : Text) (rows : List Row) → name ≡ codes "trial"
    → ((job : TrialJob) → ¬ (AsksTrial rows job)) → (job : Job) → ¬ (Asks name rows job)
no_trial name rows is never (Trial job) h = never job h.1
no_trial name rows is never job h = differ name (codes "trial") _ is h.0 refl refl

pub no_pipe : (name : Text) (rows : List Row) → name ≡ codes "pipe"
    → ((job : PipeJob) → ¬ (AsksPipe rows job)) → (job : Job) → ¬ (Asks name rows job)
no_pipe name rows is never (Pipe job) h = never job h.1
no_pipe name rows is never job h = differ name (codes "pipe") _ is h.0 refl refl

pub no_batch : (name : Text) (rows : List Row) → name ≡ codes "batch"
    → ((job : BatchJob) → ¬ (AsksBatch rows job)) → (job : Job) → ¬ (Asks name rows job)
no_batch name rows is never (Batch job) h = never job h.1
no_batch name rows is never job h = differ name (codes "batch") _ is h.0 refl refl

-- the program's commands are plain enough for clap to say all of a parse
is_plain : is_simple_and_free program_app ≡ true
is_plain = refl

is_simple_app : is_simple program_app ≡ true
is_simple_app = refl

-- a parse that succeeds
pub parsed : (a : App) (words : List Text) (m : ArgMatches) → a ≡ program_app
    → (is_simple_and_free a ≡ true → fault_of a words ≡ []) → HasMatchesOf a words m
    → (fault_of program_app words ≡ []) × (subcommand_rows_of m ≡ subcommand_of program_app words)
parsed a words m same kinds has =
    let plain : is_simple_and_free a ≡ true = rw same is_plain in
    let simple : is_simple a ≡ true = rw same is_simple_app in
    let here = ap (λ (x : App). fault_of x words) (sym same) in
    (here ∙ kinds plain, (has simple).1 ∙ ap (λ (x : App). subcommand_of x words) same)

-- a parse that fails
refused : (words : List Text) (e : Error) (fault : JobFault) → HasKind (fault_of program_app words) e
    → StandsFor (kind_of e) fault → Explains program_app words fault
refused words e (Help text) (inl h) stands = absurd (cc)
refused words e (Help text) (inr h) stands =
    subst (λ (k : ErrorKind). IsAmong k (fault_of program_app words)) stands h
refused words e Version (inl h) stands = absurd (cc)
refused words e Version (inr h) stands =
    subst (λ (k : ErrorKind). IsAmong k (fault_of program_app words)) stands h
refused words e (BadWords why) (inl h) stands = absurd (stands.0.2 h)
refused words e (BadWords why) (inr h) stands = (
  (
    λ is. elim (subst (IsAmong (kind_of e)) is h) [ inl k ↦ stands.0.0 k | inr never ↦ never ],
    λ is. elim (subst (IsAmong (kind_of e)) is h) [ inl k ↦ stands.0.1 k | inr never ↦ never ],
    λ job asked. subst (IsAmong (kind_of e)) asked.taken h,
  ),
  stands.1,
)
refused words e Memory h stands = tt

pub explained : (a : App) (words : List Text) (e : Error) (fault : JobFault) → a ≡ program_app
    → (is_simple_and_free a ≡ true → HasKind (fault_of a words) e) → StandsFor (kind_of e) fault
    → Explains program_app words fault
explained a words e fault same kinds stands =
    let plain : is_simple_and_free a ≡ true = rw same is_plain in
    let has = subst (λ (x : App). HasKind (fault_of x words) e) same (kinds plain) in
    refused words e fault has stands

-- a parse that succeeds, of words that ask for no job
pub unasked : (words : List Text) (met : Option Met) → fault_of program_app words ≡ []
    → met ≡ subcommand_of program_app words → ((job : Job) → ¬ (AsksBy met job))
    → (why : String Global) → HasFewDigits (string_bytes why) → Explains program_app words (BadWords why)
unasked words met none is nothing why few = (
  (
    λ help. absurd (cc (none, help)),
    λ version. absurd (cc (none, version)),
    λ job asked. nothing job (subst (λ (m : Option Met). AsksBy m job) (sym is) asked.asks),
  ),
  few,
)
