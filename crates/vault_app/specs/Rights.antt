-- The list of a rights file.
use Rattle.std.specs.Prelude.{◌≡◌, ◌≢◌, ℕ, List}
use Rattle.std.specs.declared.io.ErrorKind.{ErrorKind}
use Rattle.toml.specs.Data.{Members}
use Rattle.vault_refusal.specs.Refusal.{number_of}
use Rattle.vault_refusal.specs.declared.refusal.Refusal.TheVariants.{RightsMemory}
use Rattle.vault_rights.specs.Faults.{IsDocument, IsFault, refusal_of}
use Rattle.vault_rights.specs.Named.{IsListOf, Names, Row}
use Rattle.vault_rights.specs.Proper.{IsProper}
use Rattle.vault_rights.specs.declared.fault.RightsFault.{RightsFault}
use Rattle.vault_jobs.specs.declared.stop.Stop.TheVariants as stop
use Rattle.vault_live.specs.declared.subject.Subject.TheVariants as subject
use Rattle.vault_app.specs.Endings.{EndsSo, no_ending}
use Rattle.vault_app.specs.declared.ending.Ending.{Ending}

-- the rows are the rights that the document of this text names, which is said, in order and each once, with
-- the latest of its ends
abbrev pub IsListedIn : (List ℕ → Type 0) → List ℕ → List Row → Type 0
IsListedIn says text rows = (document : Members) × says text × IsDocument text document × IsProper document
    × IsListOf (Names document) rows

-- they are those of some text that is said
abbrev pub IsListed : (List ℕ → Type 0) → List Row → Type 0
IsListed says rows = (text : List ℕ) × IsListedIn says text rows

-- a text that is said names no rights by a fault of this number, which isn't want of memory
abbrev pub IsRefusedText : (List ℕ → Type 0) → ℕ → Type 0
IsRefusedText says n = (text : List ℕ) × (fault : RightsFault) × says text
    × IsFault text fault × (n ≡ number_of (refusal_of fault)) × (n ≢ number_of RightsMemory)

-- a job ends without a list: a text that is said is refused, or none is read
abbrev pub IsUnlisted : (List ℕ → Type 0) → Ending → Type 0
IsUnlisted says ending = EndsSo (record no_ending {
  refused = IsRefusedText says;
  stopped = λ s. (why : ErrorKind) × (s ≡ stop.Unread subject.Rights why);
}) ending
