-- What holds by how a job ends.
use Rattle.std.specs.Prelude.{◌≡◌, ℕ, List, Bool, true, false}
use Rattle.std.specs.Io.KnownBytes.{Appends}
use Rattle.vault_file.specs.declared.fault.NotOpened.{NotOpened as FileFault}
use Rattle.vault_engine.specs.declared.stop.Stop.TheVariants as service
use Rattle.vault_jobs.specs.Doing.{AppendsPart}
use Rattle.vault_jobs.specs.Streams.{Output}
use Rattle.vault_jobs.specs.declared.stop.Stop.{Stop}
use Rattle.vault_jobs.specs.declared.stop.Stop.TheVariants as stop
use Rattle.vault_live.specs.declared.subject.Subject.{Subject}
use Rattle.vault_app.specs.declared.ending.Ending.{Ending}
use Rattle.vault_app.specs.declared.ending.Ending.TheVariants.{Done, Noted, Version, Refused, Misnamed}
use Rattle.vault_app.specs.declared.ending.Ending.TheVariants.{Unfinished, SomeRefused, BadWords, NotOpened, Stopped}
use Rattle.vault_app.specs.declared.note.Note.{Note}
use Rattle.vault_app.specs.declared.placeholder.Placeholder.{Placeholder}

-- what holds with each ending
pub record Endings : Type 1 where
  pub done : Type 0
  pub noted : Note → Type 0
  pub version : Type 0
  pub refused : ℕ → Type 0
  pub misnamed : Placeholder → Type 0
  pub unfinished : Subject → Type 0
  pub some_refused : Type 0
  pub bad_words : Type 0
  pub not_opened : FileFault → Type 0
  pub stopped : Stop → Type 0

-- no ending comes
abbrev pub no_ending : Endings
no_ending = record {
  done = ⊥;
  noted = λ note. ⊥;
  version = ⊥;
  refused = λ n. ⊥;
  misnamed = λ placeholder. ⊥;
  unfinished = λ about. ⊥;
  some_refused = ⊥;
  bad_words = ⊥;
  not_opened = λ f. ⊥;
  stopped = λ s. ⊥;
}

-- the ending comes, and what holds with it
abbrev pub EndsSo : Endings → Ending → Type 0
EndsSo it Done = it.done
EndsSo it (Noted note) = it.noted note
EndsSo it Version = it.version
EndsSo it (Refused n) = it.refused n
EndsSo it (Misnamed placeholder) = it.misnamed placeholder
EndsSo it (Unfinished about) = it.unfinished about
EndsSo it SomeRefused = it.some_refused
EndsSo it BadWords = it.bad_words
EndsSo it (NotOpened f) = it.not_opened f
EndsSo it (Stopped s) = it.stopped s

-- a job that is done wrote this line; or the writer failed, and it wrote a beginning of it
abbrev pub LineEnds : List ℕ → Ending → Output → Type 0
LineEnds line ending out = EndsSo (record no_ending {
  done = (out.writer ≡ false) × Appends out.sent_old out.sent_new line;
  stopped = λ why. (why ≡ stop.Service service.Write) × (out.writer ≡ true)
      × AppendsPart out.sent_old out.sent_new line;
}) ending

-- the end of a job whose line ended so: where it is done and there is this to note, it tells of that
abbrev pub beside : Bool → Note → Ending → Ending
beside true note Done = Noted note
beside noted note ending = ending

-- so a job ends that is done and wrote this line, with this note, or none; or the writer failed
abbrev pub NotedLineEnds : List ℕ → Bool → Note → Ending → Output → Type 0
NotedLineEnds text noted note ending out =
    (line : Ending) × LineEnds text line out × (ending ≡ beside noted note line)
