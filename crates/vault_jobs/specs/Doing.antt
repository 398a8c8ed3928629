-- What a task does with a vault, by how it ends.
use Rattle.std.specs.Prelude.{◌≡◌, ◌≢◌, ◌⊎◌, ℕ, ◌≤◌, List, [], IfErr, Option, Bool, true, false, Result, Ok}
use Rattle.std.specs.Prelude.{Err, IsSome, codes, length, take}
use Rattle.std.specs.Io.KnownBytes.{Appends, IsAtEnd}
use Rattle.vault_core.specs.Runs.{run}
use Rattle.vault_core.specs.Vault.{Vault as Content}
use Rattle.vault_core.specs.declared.command.Command.{Command}
use Rattle.vault_listen.specs.Live.{AreGiven, Turns}
use Rattle.vault_listen.specs.Peers.{Event}
use Rattle.vault_engine.specs.Asking.{Pair}
use Rattle.vault_engine.specs.Passing.{IsBefore, Passage, passage}
use Rattle.vault_engine.specs.declared.stop.Stop.TheVariants as service
use Rattle.vault_batch.specs.Stops.{IsBatched}
use Rattle.vault_batch.specs.declared.asker.Asker.{Asker}
use Rattle.vault_batch.specs.declared.row_counts.Counts.{Counts}
use Rattle.vault_batch.specs.declared.fault.BatchFault.TheVariants as row
use Rattle.vault_live.specs.Turns.{AreSaid, Asking, Leaves, SomeTurns, Turn}
use Rattle.vault_live.specs.Following.{Looks}
use Rattle.vault_listen.specs.declared.fault.ListenFault.TheVariants as listener
use Rattle.vault_merchants.specs.ListedMerchants.{Wanted}
use Rattle.vault_rights.specs.Named.{Row}
use Rattle.vault_store.specs.Listed.{merchant_rows}
use Rattle.vault_store.specs.declared.tables.Tables.{Ghosts}
use Rattle.vault_store.specs.declared.vault.Fault.{Fault}
use Rattle.vault_store.specs.declared.vault.Vault.{Vault as Holder}
use Rattle.vault_wire.specs.declared.watched.Watched.{Watched}
use Rattle.vault_changes.specs.Settings.{settings_at}
use Rattle.vault_changes.specs.Settling.{FailsToRead, IsUntouched}
use Rattle.vault_changes.specs.Moments.{is_merchant_ahead}
use Rattle.vault_jobs.specs.Ahead.{moment_ahead}
use Rattle.vault_jobs.specs.Batched.{StopsBatch}
use Rattle.vault_jobs.specs.Beginning.{CarriesOut}
use Rattle.vault_jobs.specs.Lists.{asked_at, asked_of, begin_of, follows}
use Rattle.vault_changes.specs.Carried.{Carries}
use Rattle.vault_jobs.specs.Causes.{IsCauseOf}
use Rattle.vault_changes.specs.Grants.{AreDone, CarriesAll, grants_at}
use Rattle.vault_jobs.specs.Notes.{IsNoted, withdrawn_by}
use Rattle.vault_jobs.specs.Outcomes.{ComesTo, no_outcome}
use Rattle.vault_jobs.specs.Outside.{Outside, outside}
use Rattle.vault_jobs.specs.Piped.{IsPiped, StopsPiping}
use Rattle.vault_jobs.specs.Streams.{Known, Output, Seen, Streams, output_in, output_of}
use Rattle.vault_jobs.specs.Streams.{WhereSeen}
use Rattle.vault_jobs.specs.Sweeps.{Sweeps}
use Rattle.vault_jobs.specs.Tasks.{BreaksBy, HasNoTurns, IsTaskBegun, granted_line}
use Rattle.vault_jobs.specs.Tasks.{listening_line, merchants_line, purged_line}
use Rattle.vault_jobs.specs.declared.clock.Giver.{Giver}
use Rattle.vault_jobs.specs.declared.clock.Giver.TheVariants.{Words, Clock}
use Rattle.vault_jobs.specs.declared.note.Note.{Note}
use Rattle.vault_changes.specs.Carried.{Verdict}
use Rattle.vault_jobs.specs.declared.stop.Stop.{Stop}
use Rattle.vault_jobs.specs.declared.stop.Stop.TheVariants.{Vault}
use Rattle.vault_jobs.specs.declared.task.Outcome.{Outcome}
use Rattle.vault_jobs.specs.declared.task.Outcome.TheVariants as outcome
use Rattle.vault_jobs.specs.declared.task.Task.{Task}
use Rattle.vault_jobs.specs.declared.task.Task.TheVariants.{Change, Give, Settle, SetMerchants, Sweep, Batch}
use Rattle.vault_jobs.specs.declared.task.Task.TheVariants.{Pipe, Serve, Show}
use Rattle.vault_jobs.specs.declared.lists.Lists.{Lists}
use Rattle.vault_jobs.specs.declared.serve_task.ServeTask.{ServeTask}
use Rattle.vault_changes.specs.declared.changes.Changes.{Changes}
use Rattle.vault_changes.specs.Changes.{AreChangesOf, settled_line}
use Rattle.vault_jobs.specs.ListingLines.{shown_text}
use Rattle.vault_listen.specs.declared.fault.ListenFault.{ListenFault}

-- the same passage of a vault, in which a writer took bytes too and a source gave these pairs
abbrev pub along : Passage → Streams → List Pair → Passage
along w s pairs = record w {
  given_old = [];
  given_new = pairs;
  sent_old = s.sent_old;
  sent_new = s.sent_new;
}

-- in a passage along so many pairs at most, each of its own
abbrev pub Along : (List Pair → Type 0) → ℕ → Passage → Streams → (Passage → Type 0) → Type 0
Along Own most w s P = (pairs : List Pair) × (length pairs ≤ most) × Own pairs × P (along w s pairs)

-- a beginning of this text went out, perhaps all of it
abbrev pub AppendsPart : Known → Known → List ℕ → Type 0
AppendsPart old new text = (n : ℕ) × Appends old new (take n text)

-- How commands end that come to a verdict. Done: they came to done, and the line went out. Refused: they came
-- to this refusal, and nothing went out. Stopped: by the vault, and nothing went out; or by the writer, and
-- they came to done, and a beginning of the line went out.
abbrev pub CommandsEnd : (Result Verdict Fault → Type 0) → List ℕ → Result Outcome Stop → Output → Type 0
CommandsEnd Carried line result out = ComesTo (record no_outcome {
  done = (out.writer ≡ false) × Appends out.sent_old out.sent_new line × Carried (Ok (Ok tt));
  refused = λ n. out.unsent × Carried (Ok (Err n));
  vault = λ f. out.unsent × Carried (Err f);
  service = λ f. (f ≡ service.Write) × (out.writer ≡ true) × Carried (Ok (Ok tt))
      × AppendsPart out.sent_old out.sent_new line;
}) result

-- How one command ends: as commands do that come to a verdict. Or it takes a right away, and before that the
-- rights weren't read, which tell whether it is there.
abbrev pub ChangeEnds : Command → Passage → Result Outcome Stop → Output → Type 0
ChangeEnds c w result out = CommandsEnd (Carries c w) (codes "done\n") result out
    ⊎ ((f : Fault) × (result ≡ Err (Vault f)) × out.unsent × FailsToRead w f × IsSome (withdrawn_by c))

-- how a sweep ends: with Done its line says how many were purged, and went out; with a refusal of a purge
-- nothing went out; where the writer failed all were purged, and a beginning of the line went out
abbrev pub SweepEnds : Asker → ℕ → Passage → Result Outcome Stop → Output → Type 0
SweepEnds who now w result out = ComesTo (record no_outcome {
  done = (out.writer ≡ false) × ((count : ℕ) × Sweeps who now w (Ok (Ok count))
      × Appends out.sent_old out.sent_new (purged_line count));
  refused = λ n. out.unsent × Sweeps who now w (Ok (Err n));
  vault = λ f. out.unsent × Sweeps who now w (Err f);
  service = λ f. (f ≡ service.Write) × (out.writer ≡ true)
      × ((count : ℕ) × Sweeps who now w (Ok (Ok count))
      × AppendsPart out.sent_old out.sent_new (purged_line count));
}) result

-- How a sweep ends whose moment the words or the clock gave. At one of the words it ends as above. At one of
-- the clock it does too, and then the merchant's moment isn't far ahead; or that is, and it is refused by 81:
-- nothing changed, and nothing went out; or the vault wasn't read.
abbrev pub TimedSweepEnds : Giver → Asker → ℕ → Passage → Result Outcome Stop → Output → Type 0
TimedSweepEnds Words who now w result out = SweepEnds who now w result out
TimedSweepEnds Clock who now w result out =
    ((V : Content) → IsBefore w V → is_merchant_ahead V who.merchant now ≡ false)
    × SweepEnds who now w result out
    ⊎ (result ≡ Ok (outcome.Refused moment_ahead)) × out.unsent × IsUntouched w
    × ((V : Content) → IsBefore w V → is_merchant_ahead V who.merchant now ≡ true)
    ⊎ ((f : Fault) × (result ≡ Err (Vault f)) × out.unsent × FailsToRead w f)

-- how a batch ends: its rows are answered, by nobody else and with pairs of its own; or it wasn't begun
abbrev pub BatchEnds : (List Pair → Type 0) → Asker → Passage → Result Outcome Stop → Seen → Type 0
BatchEnds Own who w result v =
    let s : Streams = v.streams in
    let batched : Counts → Type 0 = λ counts. Along Own 100000 w s (λ p. IsBatched s.left_old p who counts) in
    ComesTo (record no_outcome {
      done = (s.writer ≡ false) × (counts : Counts) × (counts.refused ≡ 0) × IsAtEnd s.left_new
          × batched counts;
      some_refused = (s.writer ≡ false) × (counts : Counts) × (counts.refused ≢ 0) × IsAtEnd s.left_new
          × batched counts;
      batch = λ f. (f ≡ row.Source) × v.unread × v.unsent × IsUntouched w
          ⊎ Along Own 100000 w s (λ p. StopsBatch s.left_old p who f);
    }) result

-- how messages end: they are served with pairs of their own; or it wasn't begun
abbrev pub PipeEnds : (List Pair → Type 0) → Passage → Result Outcome Stop → Seen → Type 0
PipeEnds Own w result v =
    let s : Streams = v.streams in
    ComesTo (record no_outcome {
      done = (s.writer ≡ false) × Along Own 1000 w s (IsPiped s.left_old s.left_new);
      service = λ f. (f ≡ service.Source) × v.unread × v.unsent × IsUntouched w
          ⊎ Along Own 1000 w s (λ p. StopsPiping s.left_old s.left_new p f);
    }) result

-- The service said on which port it listens: the one that was asked for, or any where that is 0. Then it said
-- what was done in its turns.
abbrev pub IsListening : ℕ → Known → Known → List Turn → Type 0
IsListening port old new turns = (bound : ℕ) × (port ≢ 0 → bound ≡ port)
    × ((middle : Known) × Appends old middle (listening_line bound) × AreSaid middle new turns)

-- of the line that says so a beginning went out
abbrev pub BeginsToListen : ℕ → Known → Known → Type 0
BeginsToListen port old new = (bound : ℕ) × (port ≢ 0 → bound ≡ port)
    × AppendsPart old new (listening_line bound)

-- a service: the moments that it is told, what is asked for between two connections, its port, and how many
-- connections it takes
pub record Serving : Type 1 where
  pub tells : Turns
  pub asks : Asking
  pub port : ℕ
  pub most : ℕ

abbrev pub serving_of : Turns → Asking → ℕ → ℕ → Serving
serving_of tells asks port most = record { tells = tells; asks = asks; port = port; most = most }

-- the service that a task asks for, by what is told while it is done
abbrev pub serving_by : Outside → ServeTask → Serving
serving_by at it = serving_of at.tells (asked_of at it.lists) it.port it.connections

-- How a service on a port ends: it said where it listens, and in its turns each connection that came was
-- answered, and what was asked for between two was done; or it wasn't begun, for want of digits or of a port,
-- or since the writer failed, so that a beginning of that line went out; and there was no turn.
abbrev pub ServeEnds : Serving → Passage → Result Outcome Stop → Output → List Turn → Type 0
ServeEnds it w result out turns =
    let left : Result Unit ListenFault → Type 0 =
    λ r. IsListening it.port out.sent_old out.sent_new turns × Leaves it.tells it.asks it.most turns w r in
    ComesTo (record no_outcome {
      done = left (Ok tt);
      service = λ f. IsUntouched w × (turns ≡ [])
          × ((f ≡ service.Source) × out.unsent ⊎ (f ≡ service.Write) × (out.writer ≡ true)
          × BeginsToListen it.port out.sent_old out.sent_new);
      listener = λ f. (f ≡ listener.Accept) × out.unsent × IsUntouched w × (turns ≡ []) ⊎ left (Err f);
    }) result

-- How a task ends that makes the rights exactly those of a list: its changes end as commands do, with a line
-- that counts them; or the rights that are held weren't read, or there was no memory for the changes.
abbrev pub SettleEnds : ℕ → List Row → Passage → Result Outcome Stop → Output → Type 0
SettleEnds now rows w result out =
    ((changes : Changes) × ((V : Content) → IsBefore w V → AreChangesOf true now rows V changes)
    × CommandsEnd (CarriesAll changes.commands.items w) (settled_line changes) result out)
    ⊎ ((f : Fault) × (result ≡ Err (Vault f)) × out.unsent × FailsToRead w f)

-- How a task ends that sets the merchants of a list: the settings that the vault lacks end as commands do,
-- with a line that counts them; or the merchants that are held weren't read, or there was no memory for the
-- settings.
abbrev pub SetEnds : ℕ → List Wanted → Passage → Result Outcome Stop → Output → Type 0
SetEnds now rows w result out =
    ((cs : List Command) × ((V : Content) → IsBefore w V → cs ≡ settings_at now rows (merchant_rows V))
    × CommandsEnd (CarriesAll cs w) (merchants_line (length cs)) result out)
    ⊎ ((f : Fault) × (result ≡ Err (Vault f)) × out.unsent × FailsToRead w f)

-- How a task ends that says what the vault holds: with Done the text went out, which is one function of the
-- vault; where the writer failed, a beginning of it did. Nothing is changed.
abbrev pub ShowEnds : (Content → List ℕ) → Passage → Result Outcome Stop → Output → Type 0
ShowEnds text w result out = ComesTo (record no_outcome {
  done = (out.writer ≡ false) × IsUntouched w
      × ((V : Content) → IsBefore w V → Appends out.sent_old out.sent_new (text V));
  vault = λ f. out.unsent × FailsToRead w f;
  service = λ f. (f ≡ service.Write) × (out.writer ≡ true) × IsUntouched w
      × ((V : Content) → IsBefore w V → (n : ℕ) × Appends out.sent_old out.sent_new (take n (text V)));
}) result

-- the passage from the vault that its commands leave
abbrev pub behind : (Content → List Command) → Passage → Passage
behind wants w = record w { held_old = λ U. (V : Content) × w.held_old V × (U ≡ run (wants V) V) }

-- How what the lists of a service ask for ends before it listens, where it isn't all done: refused, or
-- stopped by the vault. Nothing goes out.
abbrev pub BeginEnds : Lists → Passage → Result Outcome Stop → Type 0 → Type 0
BeginEnds lists w result unsent = ComesTo (record no_outcome {
  refused = λ n. unsent × CarriesOut (begin_of lists) w (Ok (Err n));
  vault = λ f. unsent × CarriesOut (begin_of lists) w (Err f);
}) result

-- with Done the writer hasn't failed
abbrev pub EndsUnfailed : Result Outcome Stop → Bool → Type 0
EndsUnfailed result writer = result ≡ Ok outcome.Done → writer ≡ false

-- How a service ends that may follow lists. What they ask for before it listens isn't all done, and there is
-- no turn. Or it is, and then it ends as a service does, from the vault that this leaves.
abbrev pub ListedServeEnds : Serving → Lists → Passage → Result Outcome Stop → Output → List Turn → Type 0
ListedServeEnds it lists w result out turns =
    (follows lists ≡ true) × (turns ≡ []) × BeginEnds lists w result out.unsent
    ⊎ ((V : Content) → IsBefore w V → AreDone (length (begin_of lists V)) (begin_of lists V) V)
    × ServeEnds it (behind (begin_of lists) w) result out turns
    × (follows lists ≡ false → EndsUnfailed result out.writer)

-- How a service on a port ends, by the network, the vault and the output before it and after it: in turns of
-- which the network tells. It is told these moments, may be asked so by them, and is to serve so many
-- connections on this port.
abbrev pub PortServed : {N T W : Type 0} → (N → List Event → Type 0) × Ghosts T × (W → Known)
    → N × Holder T × Watched W → N × Holder T × Watched W → Turns × (Turns → Asking) × ℕ × ℕ
    → Result Outcome Stop → Type 0
PortServed over old new it result = SomeTurns over.0 old.0 new.0
    (ServeEnds (serving_of it.0 (it.1 it.0) it.2 it.3) (passage over.1 old.1 new.1) result
    (output_of over.2 old.2 new.2))

-- The same of the service that a task asks for, whose lists have these texts at these looks.
abbrev pub TaskServed : {N T W : Type 0} → (N → List Event → Type 0) × Ghosts T × (W → Known)
    → N × Holder T × Watched W → N × Holder T × Watched W → Turns × (List ℕ → Looks) × ServeTask
    → Result Outcome Stop → Type 0
TaskServed over old new (tells, looks, it) result =
    PortServed over old new (tells, asked_at looks it.lists, it.port, it.connections) result

-- The same, with what its lists ask for before it listens.
abbrev pub ListsServed : {N T W : Type 0} → (N → List Event → Type 0) × Ghosts T × (W → Known)
    → N × Holder T × Watched W → N × Holder T × Watched W → Turns × (List ℕ → Looks) × ServeTask
    → Result Outcome Stop → Type 0
ListsServed over old new (tells, looks, it) result = SomeTurns over.0 old.0 new.0
    (ListedServeEnds (serving_by (outside tells looks) it) it.lists
    (passage over.1 old.1 new.1) result (output_of over.2 old.2 new.2))

-- what a task does with a vault, and what goes out, by how it ends
abbrev pub Works : Outside → Task → Passage → Result Outcome Stop → Seen → Type 0
Works at (Change c) w result v = ChangeEnds c w result (output_in v)
Works at (Give rows now) w result v = CommandsEnd (CarriesAll (grants_at now rows.items) w)
    (granted_line (length rows.items)) result (output_in v)
Works at (Settle rows now) w result v = SettleEnds now rows.items w result (output_in v)
Works at (SetMerchants rows now) w result v = SetEnds now rows.items w result (output_in v)
Works at (Sweep who now giver) w result v = TimedSweepEnds giver who now w result (output_in v)
Works at (Batch who now digits) w result v = BatchEnds (AreGiven at.tells now digits) who w result v
Works at (Pipe now digits) w result v = PipeEnds (AreGiven at.tells now digits) w result v
Works at (Serve it) w result v =
    ListedServeEnds (serving_by at it) it.lists w result (output_in v) v.streams.turns
Works at (Show it) w result v = ShowEnds (shown_text it) w result (output_in v)

-- What a task does: it works so; what is noted of it is exactly what is to be; the input is unread, but by a
-- batch and messages; there are no turns, but of a service; a reader or a writer stops it only where that
-- failed; and the vault is broken by a store that fails.
pub record Does (at : Outside) (task : Task) (w : Passage) (result : Result Outcome Stop)
    (note : Option Note) (v : Seen) : Type 0 where
  pub works : Works at task w result v
  pub noted : IsNoted task w result note
  pub begun : IsTaskBegun task v.unread
  pub alone : HasNoTurns task v.streams
  pub caused : IfErr result (λ stop. IsCauseOf stop v.streams)
  pub breaks : BreaksBy task result w.broken

-- What a task does, by the network, the vault, the input and the output before it and after it, in turns of
-- which the network tells. It is told these moments, and files have these texts at these looks.
abbrev pub TaskDone : {N T R W : Type 0} → (N → List Event → Type 0) × Ghosts T × (R → Known) × (W → Known)
    → N × Holder T × Watched R × Watched W → N × Holder T × Watched R × Watched W
    → Turns × (List ℕ → Looks) → Task → Result Outcome Stop × Option Note → Type 0
TaskDone over old new at task ended =
    WhereSeen (over.0, over.2, over.3) (old.0, old.2, old.3) (new.0, new.2, new.3)
    (Does (outside at.0 at.1) task (passage over.1 old.1 new.1) ended.0 ended.1)
