-- How a job ends, and what the program says of it.
use Rattle.std.specs.Prelude.{◌≡◌, ◌⊎◌, ℕ, ◌++◌, List, [], codes, decimal}
use Rattle.std.specs.declared.io.ErrorKind.TheVariants as kind
use Rattle.std.specs.Fmt.{signed_decimal}
use Rattle.vault_schema.specs.Versions.{newest, number_of as version_number}
use Rattle.vault_refusal.specs.Refusal.{number_of}
use Rattle.vault_refusal.specs.declared.refusal.Refusal.TheVariants.{BadName, NotToml, UnknownRight}
use Rattle.vault_file.specs.Faults as file
use Rattle.vault_file.specs.declared.fault.NotOpened.{NotOpened as FileFault}
use Rattle.vault_file.specs.declared.fault.NotOpened.TheVariants as opening
use Rattle.vault_jobs.specs.Causes.{refusal_of}
use Rattle.vault_jobs.specs.declared.stop.Stop.{Stop}
use Rattle.vault_jobs.specs.declared.stop.Stop.TheVariants.{Unread}
use Rattle.vault_jobs.specs.declared.note.Note.TheVariants.{NoMerchant, ClockAhead, NothingWithdrawn}
use Rattle.vault_app.specs.declared.ending.Ending.{Ending}
use Rattle.vault_app.specs.declared.ending.Ending.TheVariants.{Done, Noted, Version, Refused, Misnamed}
use Rattle.vault_app.specs.declared.ending.Ending.TheVariants.{Unfinished, SomeRefused, BadWords, NotOpened, Stopped}
use Rattle.vault_app.specs.declared.note.Note.{Note}
use Rattle.vault_app.specs.declared.note.Note.TheVariants.{Log, Made, Task}
use Rattle.vault_app.specs.declared.placeholder.Placeholder.{Placeholder}
use Rattle.vault_app.specs.declared.placeholder.Placeholder.TheVariants.{Caller, Merchant, Name, Right}
use Rattle.vault_jobs.specs.Streams.{Known}
use Rattle.vault_live.specs.Told.{Tells}
use Rattle.vault_live.specs.declared.subject.Subject.{Subject}
use Rattle.vault_live.specs.declared.subject.Subject.TheVariants as subject
use Rattle.vault_recover.specs.declared.unopened.Unopened.TheVariants.{Missing, Elsewhere, Damaged, Memory, Host}
use Rattle.vault_wire.specs.Watching.{inner_of, is_stopped}
use Rattle.vault_wire.specs.declared.watched.Watched.{Watched}

-- the exit status
abbrev pub status_of : Ending → ℕ
status_of Done = 0
status_of (Noted note) = 0
status_of Version = 0
status_of (Refused n) = 1
status_of (Misnamed placeholder) = 1
status_of (Unfinished about) = 1
status_of SomeRefused = 1
status_of BadWords = 2
status_of (NotOpened f) = 3
status_of (Stopped s) = 4

-- it is done, whatever is noted of it
abbrev pub IsDone : Ending → Type 0
IsDone Done = Unit {0}
IsDone (Noted note) = Unit {0}
IsDone ending = ⊥

-- the line of the program's version and of the newest schema, on the output
abbrev pub version_line : List ℕ
version_line = codes "vault 0.4.0, schema " ++ signed_decimal (version_number newest) ++ codes "\n"

-- the line of a refusal, on the output
abbrev pub refusal_line : ℕ → List ℕ
refusal_line n = codes "refused " ++ decimal n ++ codes "\n"

-- the line on the errors of a check whose file has a log
abbrev pub log_line : List ℕ
log_line = codes "vault: the file has a log, FILE-wal, and a copy needs both\n"

-- the line on the errors of what is noted of a job that is done
abbrev pub note_line : Note → List ℕ
note_line Log = log_line
note_line Made = codes "vault: there was no vault in FILE, and an empty one is made\n"
note_line (Task NoMerchant) = codes "vault: there is no such merchant\n"
note_line (Task ClockAhead) =
    codes "vault: the clock is more than 31 days ahead of the merchant's last moment\n"
note_line (Task NothingWithdrawn) = codes "vault: there was nothing to withdraw\n"

-- by which number the word at a placeholder is refused that is none: 71 a right, and 4 a name
abbrev pub number_at : Placeholder → ℕ
number_at Right = number_of UnknownRight
number_at placeholder = number_of BadName

-- the line on the errors that says which word is none; the word itself isn't said
abbrev pub placeholder_line : Placeholder → List ℕ
placeholder_line Caller = codes "vault: CALLER is no name\n"
placeholder_line Merchant = codes "vault: MERCHANT is no name\n"
placeholder_line Name = codes "vault: NAME is no name\n"
placeholder_line Right = codes "vault: RIGHT is no right\n"

-- the line on the errors that says which list isn't whole
abbrev pub unfinished_line : Subject → List ℕ
unfinished_line subject.Rights = codes "vault: the last line of RIGHTS is not # end\n"
unfinished_line subject.Merchants = codes "vault: the last line of LIST is not # end\n"

-- the lines on the errors: the words ask for no job
abbrev pub bad_words_line : List ℕ
bad_words_line = codes "vault: bad words\n"

-- the line behind 34, which says the cause, as far as the host and the database tell it
abbrev pub cause_line : FileFault → List ℕ
cause_line (opening.Refused Missing) = codes "vault: there is no vault in FILE\n"
cause_line (opening.Refused Elsewhere) = codes "vault: another program has FILE open\n"
cause_line (opening.Refused Damaged) = codes "vault: FILE is damaged, or is no database\n"
cause_line (opening.Refused Memory) = codes "vault: memory was refused\n"
cause_line (opening.Refused Host) = codes "vault: FILE or its log can't be opened\n"
cause_line (opening.Fault fault) = []

-- a file isn't opened
abbrev pub not_opened_lines : FileFault → List ℕ
not_opened_lines f =
    codes "vault: file not opened " ++ decimal (number_of (file.refusal_of f))
    ++ file.detail_text (file.detail_of f) ++ codes "\n" ++ cause_line f

-- the program stopped by the fault of this number
abbrev pub stop_line : ℕ → List ℕ
stop_line n = codes "vault: stopped " ++ decimal n ++ codes "\n"

-- the line behind it that says which list can't be read, if one can't
abbrev pub unread_line : Stop → List ℕ
unread_line (Unread about kind.OutOfMemory) = []
unread_line (Unread subject.Rights why) = codes "vault: RIGHTS can't be read\n"
unread_line (Unread subject.Merchants why) = codes "vault: LIST can't be read\n"
unread_line stop = []

-- What is said on a stream as a run ends: nothing, so that it is as it was, or these bytes, unless it fails.
pub record Said : Type 1 where
  pub nothing : Type 0
  pub bytes : List ℕ → Type 0

abbrev pub said_on : {W : Type 0} → (W → Known) → Watched W → Watched W → Said
said_on contents w w' = record {
  nothing = w' ≡ w;
  bytes = Tells (contents (inner_of w)) (contents (inner_of w')) (is_stopped w');
}

-- nothing is said, or the line of something that this is so of
abbrev pub SaysAtMost : {X : Type 0} → Said → (X → Type 0) → (X → List ℕ) → Type 0
SaysAtMost said Is line_of = said.nothing ⊎ ((x : _) × Is x × said.bytes (line_of x))

-- A version and a refusal are said on the output, and what else stands in the way of a job on the errors; the
-- other stream stays as it was, and at the end of a job, and of a batch with refused rows, both do. Beside a
-- job's line it is said what is to be noted, and beside a refusal which word is no name or no right, or which
-- list isn't whole. Behind the line of bad words it is said why they are, behind 34 its cause, and behind the
-- stop of a list that can't be read which one it is.
abbrev pub Says : List ℕ → Ending → Said → Said → Type 0
Says why Done output errors = output.nothing × errors.nothing
Says why (Noted note) output errors = output.nothing × errors.bytes (note_line note)
Says why Version output errors = output.bytes version_line × errors.nothing
Says why (Refused n) output errors = output.bytes (refusal_line n) × errors.nothing
Says why (Misnamed placeholder) output errors =
    output.bytes (refusal_line (number_at placeholder)) × errors.bytes (placeholder_line placeholder)
Says why (Unfinished about) output errors =
    output.bytes (refusal_line (number_of NotToml)) × errors.bytes (unfinished_line about)
Says why SomeRefused output errors = output.nothing × errors.nothing
Says why BadWords output errors = output.nothing × errors.bytes (bad_words_line ++ why)
Says why (NotOpened f) output errors = output.nothing × errors.bytes (not_opened_lines f)
Says why (Stopped s) output errors =
    output.nothing × errors.bytes (stop_line (number_of (refusal_of s)) ++ unread_line s)
