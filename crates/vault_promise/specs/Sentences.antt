-- The sentences of the headline, of any list of runs: each follows from the promise.
use Rattle.std.proofs.Common.{inl, inr}
use Rattle.std.specs.Prelude.{◌≡◌, ◌⊎◌, ◌≤◌, ◌<◌, ◌+◌, ℕ, Bool, List, [], ◌∷◌, ◌++◌, Ok, Option, Some, None, take}
use Rattle.std.specs.Prelude.{length, All, IfSome}
use Rattle.std.specs.List.{Contains}
use Rattle.std.specs.Io.KnownBytes.{Appends}
use Rattle.sqlite_wal.specs.Recovery.{Image}
use Rattle.vault_core.specs.Keys.{Bytes}
use Rattle.vault_core.specs.Proper.{AllProper}
use Rattle.vault_core.specs.Runs.{run}
use Rattle.vault_core.specs.Sound.{Sound}
use Rattle.vault_core.specs.Table.{after, reply}
use Rattle.vault_core.specs.Vault.{Vault as Content, empty_vault, entry_at}
use Rattle.vault_core.specs.Yields.{answered_so, given_by, gives_number}
use Rattle.vault_core.specs.declared.command.Command.{Command}
use Rattle.vault_core.specs.declared.command.Command.TheVariants.{Detokenize as Redeem}
use Rattle.vault_core.specs.declared.limit.TheConstants.{MOST_COUNT}
use Rattle.vault_core.specs.declared.reply.Reply.TheVariants.{Number}
use Rattle.vault_core.specs.declared.row.Entry.{Entry}
use Rattle.vault_recover.specs.Histories.{AnswersToken, IsHistory, Step, answers_number, how_many, last}
use Rattle.vault_recover.specs.Histories.{leaves_number}
use Rattle.vault_batch.specs.Asking.{Asks}
use Rattle.vault_batch.specs.Rows.{Row}
use Rattle.vault_batch.specs.Batched.{lines}
use Rattle.vault_batch.specs.Lines.{first_line}
use Rattle.vault_http.specs.Exchanges.{answer_for, fault_text, last_text}
use Rattle.vault_wire.specs.declared.fault.WireFault.{WireFault}
use Rattle.vault_wire.specs.Parts.{Parts, closes}
use Rattle.vault_engine.specs.Asking.{Asked, text_at, texts, vault_after}
use Rattle.vault_listen.specs.Live.{Turns}
use Rattle.vault_live.specs.Turns.{Turn}
use Rattle.vault_live.specs.Turns.Turn.{Lost, Served, Attended}
use Rattle.vault_changes.specs.Grants.{AreDone}
use Rattle.vault_jobs.specs.Lists.{begin_of}
use Rattle.vault_jobs.specs.Outside.{Outside}
use Rattle.vault_jobs.specs.Streams.{Streams}
use Rattle.vault_app.specs.Asked.{AsksFor, AsksHelp}
use Rattle.vault_app.specs.Ending.{IsDone}
use Rattle.vault_app.specs.Plans.{IsTaskOf}
use Rattle.vault_promise.specs.DueNumbers.{AsksForDue, IsAskedWhereDue, IsDue, number_text}
use Rattle.vault_promise.specs.ListedRights.{FollowsIts}
use Rattle.vault_promise.specs.Runs.{AreNew, AreOf, AsksMove, AsksTask, Bear, Come, EndsSaid, IsAside, IsAsideRun}
use Rattle.vault_promise.specs.Runs.{Each, IsSpared, MakesNew, OfRun, Run, Runs, Work, around, before, history, kept_by}
use Rattle.vault_promise.specs.Runs.{outside_of, undecided_by}
use Rattle.vault_promise.specs.Shapes.{Shape, shape_of}
use Rattle.vault_promise.specs.Shapes.Shape.{Rows, Messages, Connections}
use Rattle.vault_promise.specs.SoundHistories.{LiveTokensYieldIn, TokensFailIn}
use Rattle.vault_promise.specs.Standing.{Stand}
use Rattle.vault_promise.specs.Told.{AllDone, AreHeard, AreRead, IsNext, IsQuiet, IsSaid, SaysTurns, Tells}
use Rattle.vault_promise.specs.Told.{streams_of}

-- Of whatever runs there are, from bytes that are of a sound vault: they come to something of which this
-- holds.
abbrev pub OfAnyRuns : ((V : Content) (rs : List Run) (end : Image) → Come V None rs end → Type 0) → Type 0
OfAnyRuns Holds = (rs : List Run) (end : Image) (V : Content) → Sound V → AreOf (before rs end) V None
    → Runs rs end → ∥ ((come : Come V None rs end) × Holds V rs end come) ∥₁

abbrev pub Steps : Type 0
Steps = List (Step × Content)

-- ---- numbers stay apart

-- A number for which a merchant's token stands at some place is the only one for which it ever stands at a
-- later place: the token is never free again, and stands for that number or for none.
abbrev pub NeverShared : Content → Steps → Type 0
NeverShared V h = (first second more : Steps) → h ≡ first ++ (second ++ more)
    → (m token number : Bytes) (entry : Entry) → entry_at (last V first) m token ≡ Some entry
    → entry.number ≡ Some number
    → (later : Entry) × (entry_at (last V (first ++ second)) m token ≡ Some later)
    × ((other : Bytes) → later.number ≡ Some other → other ≡ number)

-- at no place a token passes the card check
abbrev pub NonePasses : Content → Steps → Type 0
NonePasses V h = (first more : Steps) → h ≡ first ++ more → TokensFailIn (last V first)

-- On the way of any runs no two card numbers ever share a merchant's token, and no token passes the check.
abbrev pub NumbersStayApart : Type 0
NumbersStayApart = OfAnyRuns (λ V rs end come.
    NeverShared V (history V None rs end come) × NonePasses V (history V None rs end come))

-- ---- what went out, and what is true of each command that it tells of

-- of each command that these ask for this is true, at the vault that those before it leave
abbrev pub EachAsked : {X : Type 0} → Content → List (Asked X) → (Content → Command → Type 0) → Type 0
EachAsked W xs Is = (first more : List (Asked _)) (it : Asked _) (x : Command) → xs ≡ first ++ it ∷ more
    → it.wanted ≡ Ok x → Is (vault_after W first) x

-- What went out of messages: the texts that answer those that were read, each at a moment that is fixed or
-- was told for it, up to some byte; and of each command that they ask for this is true.
pub record TextsTell (tells : Turns) (now : Option ℕ) (digits : Option (List ℕ)) (W : Content)
    (s : Streams) (Is : Content → Command → Type 0) : Type 0 where
  pub exchanges : List (Asked Parts)
  pub heard : AreHeard tells now digits s exchanges
  pub fault : Option WireFault
  pub sent : ℕ
  pub went : Appends s.sent_old s.sent_new (take sent (texts answer_for W exchanges ++ last_text fault))
  pub each : EachAsked W exchanges Is

-- what went out of rows: the lines that answer those that came in, up to some byte
pub record LinesTell (tells : Turns) (now : Option ℕ) (digits : Option (List ℕ)) (W : Content)
    (s : Streams) (Is : Content → Command → Type 0) : Type 0 where
  pub rows : List (Asked Row)
  pub read : AreRead tells now digits s rows
  pub sent : ℕ
  pub went : Appends s.sent_old s.sent_new (take sent (first_line ++ lines W rows))
  pub each : EachAsked W rows Is

-- what went out of connections: the texts of each, from the vault that the turns before it leave; and what was
-- said between two of them
abbrev pub TurnsTell : Turns → Content → List Turn → (Content → Command → Type 0) → Type 0
TurnsTell tells W [] Is = Unit {0}
TurnsTell tells W (Lost ∷ ts) Is = TurnsTell tells W ts Is
TurnsTell tells W (Served x ∷ ts) Is = (it : TextsTell tells None None W (streams_of x) Is)
    × TurnsTell tells (vault_after W it.exchanges) ts Is
TurnsTell tells W (Attended cs news ∷ ts) Is = IsSaid news W cs × TurnsTell tells (run cs W) ts Is

-- What went out of a task, to the byte. The rows of a batch ask for its asker alone. Of a service nothing goes
-- out, and no connection is answered, before what its lists ask for is done; then the line that says where it
-- listens does, and those of what was done between connections. Of other tasks it is their line, which says
-- that all is done, or their text.
abbrev pub WentOut : Outside → Shape → Content → List Command → Streams → (Content → Command → Type 0)
    → Type 0
WentOut at (Rows who now digits) W cs s Is =
    (it : LinesTell at.tells now digits W s Is) × All (Asks who) it.rows
WentOut at (Messages now digits) W cs s Is = TextsTell at.tells now digits W s Is
WentOut at (Connections service) W cs s Is =
    (let first = begin_of service.lists W in
    (s.turns ≡ []) × IsQuiet s
    ⊎ AreDone (length first) first W × SaysTurns service.port s × TurnsTell at.tells (run first W) s.turns Is)
WentOut at shape W cs s Is = Tells at shape W cs s

-- of each command that a run answered this is true, at the vault that those before it leave
abbrev pub EachAnswered : {V : Content} {c : Option Command} {r : Run} → Work V c r
    → (Content → Command → Type 0) → Type 0
EachAnswered w Is = (first more : List Command) (x : Command) → w.answered ≡ first ++ x ∷ more
    → Is (run first w.opened) x

-- ---- tokens yield to those entitled

-- live tokens yield where the command is answered
abbrev pub YieldsAt : Content → Command → Type 0
YieldsAt W x = LiveTokensYieldIn W

-- A message that asks for the number of a live token, of a caller to whom it is due, is answered by the text
-- with that number, while the merchant's count is below its limit.
abbrev pub TextsYield : Content → List (Asked Parts) → Type 0
TextsYield W xs = (first more : List (Asked Parts)) (x : Asked Parts) (caller m token : Bytes) (now : ℕ)
    (number : Bytes) → xs ≡ first ++ x ∷ more → x.wanted ≡ Ok (Redeem caller m token now)
    → IsDue (vault_after W first) caller m token now number → given_by (vault_after W first) m < MOST_COUNT
    → text_at answer_for (vault_after W first) x ≡ number_text number (closes x.unit)

-- so those of connections
abbrev pub TurnsYield : (tells : Turns) (W : Content) (ts : List Turn)
    → TurnsTell tells W ts YieldsAt → Type 0
TurnsYield tells W [] all = Unit {0}
TurnsYield tells W (Lost ∷ ts) all = TurnsYield tells W ts all
TurnsYield tells W (Served x ∷ ts) (it, all) =
    TextsYield W it.exchanges × TurnsYield tells (vault_after W it.exchanges) ts all
TurnsYield tells W (Attended cs news ∷ ts) (said, all) = TurnsYield tells (run cs W) ts all

abbrev pub OutYields : (at : Outside) (shape : Shape) (W : Content) (cs : List Command) (s : Streams)
    → WentOut at shape W cs s YieldsAt → Type 0
OutYields at (Messages now digits) W cs s it = TextsYield W it.exchanges
OutYields at (Connections service) W cs s (inl none) = Unit {0}
OutYields at (Connections service) W cs s (inr (done, said, it)) =
    TurnsYield at.tells (run (begin_of service.lists W) W) s.turns it
OutYields at shape W cs s it = Unit {0}

-- and so what went out of a run
abbrev pub Yields : OfRun
Yields V c r (inl w) rs end more =
    (it : WentOut (outside_of r) (shape_of w.task w.opened) w.opened w.answered r.streams YieldsAt)
    × OutYields (outside_of r) (shape_of w.task w.opened) w.opened w.answered r.streams it
Yields V c r (inr rests) rs end more = Unit {0}

-- On the way of any runs, at each place, a live token yields its number to a caller that is entitled, while
-- the merchant's count is below its limit. And who asks for it by a message is answered by a text with it.
abbrev pub TokensYield : Type 0
TokensYield = OfAnyRuns (λ V rs end come. ((first more : Steps)
    → history V None rs end come ≡ first ++ more → LiveTokensYieldIn (last V first))
    × Each Yields V None rs end come)

-- ---- numbers go to nobody else

-- a command that is answered with a number asks for it, and the number is due to its caller
abbrev pub GivesDue : Content → Command → Type 0
GivesDue W x = (number : Bytes) → reply W x ≡ Number number → AsksForDue W x number

-- where the text of a message reads as an answer with a number, the message asks for it, and it is due
abbrev pub TextsAreDue : Content → List (Asked Parts) → Type 0
TextsAreDue W xs = (first more : List (Asked Parts)) (x : Asked Parts) (number : Bytes) (close : Bool)
    → xs ≡ first ++ x ∷ more → text_at answer_for (vault_after W first) x ≡ number_text number close
    → IsAskedWhereDue (vault_after W first) x.unit x.pair.0 number

-- and the text of a fault reads as none
abbrev pub FaultIsNone : Option WireFault → Type 0
FaultIsNone fault = (e : WireFault) → fault ≡ Some e
    → (number : Bytes) (close : Bool) → ¬ (fault_text e ≡ number_text number close)

-- so of all that went out of messages
abbrev pub AreDueTexts : (tells : Turns) (now : Option ℕ) (digits : Option (List ℕ)) (W : Content)
    (s : Streams) → TextsTell tells now digits W s GivesDue → Type 0
AreDueTexts tells now digits W s it = TextsAreDue W it.exchanges × FaultIsNone it.fault

-- and of connections
abbrev pub AreDueTurns : (tells : Turns) (W : Content) (ts : List Turn)
    → TurnsTell tells W ts GivesDue → Type 0
AreDueTurns tells W [] all = Unit {0}
AreDueTurns tells W (Lost ∷ ts) all = AreDueTurns tells W ts all
AreDueTurns tells W (Served x ∷ ts) (it, all) =
    AreDueTexts tells None None W (streams_of x) it × AreDueTurns tells (vault_after W it.exchanges) ts all
AreDueTurns tells W (Attended cs news ∷ ts) (said, all) = AreDueTurns tells (run cs W) ts all

abbrev pub AreDue : (at : Outside) (shape : Shape) (W : Content) (cs : List Command) (s : Streams)
    → WentOut at shape W cs s GivesDue → Type 0
AreDue at (Rows who now digits) W cs s (it, asked) =
    EachAsked W it.rows (λ U x. (number : Bytes) → ¬ (reply U x ≡ Number number))
AreDue at (Messages now digits) W cs s it = AreDueTexts at.tells now digits W s it
AreDue at (Connections service) W cs s (inl none) = Unit {0}
AreDue at (Connections service) W cs s (inr (done, said, it)) =
    AreDueTurns at.tells (run (begin_of service.lists W) W) s.turns it
AreDue at shape W cs s it = Unit {0}

-- what a run gave and what it told, to the byte
abbrev pub TellsDue : OfRun
TellsDue V c r (inl w) rs end more = EachAnswered w GivesDue
    × ((it : WentOut (outside_of r) (shape_of w.task w.opened) w.opened w.answered r.streams GivesDue)
    × AreDue (outside_of r) (shape_of w.task w.opened) w.opened w.answered r.streams it)
    × EndsSaid r
TellsDue V c r (inr rests) rs end more =
    (IsQuiet r.streams ⊎ (AsksHelp r.words ⊎ IsAsideRun r)) × EndsSaid r

-- A number that a run gave, or that it told, was asked for, of a live token, by a caller that was entitled,
-- at a moment that the words fix, or that was told for the message that asks.
-- What else goes out is named to the byte: the lines of a batch, which tell none; the line of a task, those of a
-- service, a listing, and what is said of how a run ended, on the errors too. Of a run that rests it is help;
-- or the line of a check or a move, or the texts of a trial, of a vault of its own. A line of what was done
-- between two connections says counts of it, and any moment, number of a refusal or merchant's name.
abbrev pub NumbersGoToNobodyElse : Type 0
NumbersGoToNobodyElse = OfAnyRuns (λ V rs end come. Each TellsDue V None rs end come)

-- ---- moments are told

-- each of these was asked at a moment that was told at its turn, where none is fixed
abbrev pub EachTold : {X : Type 0} → Turns → Option ℕ → List (Asked X) → Type 0
EachTold tells now xs = now ≡ None → (first more : List (Asked _)) (it : Asked _) → xs ≡ first ++ it ∷ more
    → tells (length first) it.pair.0

-- of whatever commands
abbrev pub IsAnything : Content → Command → Type 0
IsAnything W x = Unit {0}

-- so of each connection, whose moments are its own
abbrev pub TurnsTold : (tells : Turns) (W : Content) (ts : List Turn)
    → TurnsTell tells W ts IsAnything → Type 0
TurnsTold tells W [] all = Unit {0}
TurnsTold tells W (Lost ∷ ts) all = TurnsTold tells W ts all
TurnsTold tells W (Served x ∷ ts) (it, all) =
    EachTold tells None it.exchanges × TurnsTold tells (vault_after W it.exchanges) ts all
TurnsTold tells W (Attended cs news ∷ ts) (said, all) = TurnsTold tells (run cs W) ts all

abbrev pub TaskTold : (at : Outside) (shape : Shape) (W : Content) (cs : List Command) (s : Streams)
    → WentOut at shape W cs s IsAnything → Type 0
TaskTold at (Rows who now digits) W cs s (it, asked) = EachTold at.tells now it.rows
TaskTold at (Messages now digits) W cs s it = EachTold at.tells now it.exchanges
TaskTold at (Connections service) W cs s (inl none) = Unit {0}
TaskTold at (Connections service) W cs s (inr (done, said, it)) =
    TurnsTold at.tells (run (begin_of service.lists W) W) s.turns it
TaskTold at shape W cs s it = Unit {0}

abbrev pub IsTimely : OfRun
IsTimely V c r (inl w) rs end more = AsksFor r.words (λ job. IsTaskOf (around r) job w.task)
    × ((it : WentOut (outside_of r) (shape_of w.task w.opened) w.opened w.answered r.streams IsAnything)
    × TaskTold (outside_of r) (shape_of w.task w.opened) w.opened w.answered r.streams it)
IsTimely V c r (inr rests) rs end more = Unit {0}

-- A run that works does the task that its words ask for, at a moment that they fix, or else at one that its
-- clock told. So it answers each message and each row: at a moment that was told for it alone.
abbrev pub MomentsAreTold : Type 0
MomentsAreTold = OfAnyRuns (λ V rs end come. Each IsTimely V None rs end come)

-- ---- each is counted

-- the vault that runs leave
abbrev pub left_by : (V : Content) (c : Option Command) (rs : List Run) (end : Image) → Come V c rs end
    → Content
left_by V c [] end come = V
left_by V c (r ∷ rs) end (inl w, more) = left_by (run w.answered w.opened) w.undecided rs end more
left_by V c (r ∷ rs) end (inr rests, more) = left_by V c rs end more

-- how many numbers of a merchant's runs gave
abbrev pub given_in : Bytes → (V : Content) (c : Option Command) (rs : List Run) (end : Image)
    → Come V c rs end → ℕ
given_in m V c [] end come = 0
given_in m V c (r ∷ rs) end (inl w, more) = answered_so (λ x. gives_number) m w.answered w.opened
    + given_in m (run w.answered w.opened) w.undecided rs end more
given_in m V c (r ∷ rs) end (inr rests, more) = given_in m V c rs end more

-- a merchant's count grew by the numbers that the runs gave at least
abbrev pub NumbersAreCounted : Type 0
NumbersAreCounted = OfAnyRuns (λ V rs end come. (m : Bytes)
    → given_by V m + given_in m V None rs end come ≤ given_by (left_by V None rs end come) m)

-- Where the vault is what a history from the empty one left, the count lies between the numbers answered
-- since then and those that may have been given.
abbrev pub CountsAreWithin : Type 0
CountsAreWithin = OfAnyRuns (λ V rs end come. (first : Steps) → IsHistory empty_vault first
    → last empty_vault first ≡ V → (m : Bytes)
    → (how_many (answers_number m) (first ++ history V None rs end come)
    ≤ given_by (left_by V None rs end come) m)
    × (given_by (left_by V None rs end come) m
    ≤ how_many (answers_number m) (first ++ history V None rs end come)
    + how_many (leaves_number m) (first ++ history V None rs end come)))

-- ---- a request is answered once

-- whatever two tokens a history answers to one request of a caller, they are one
abbrev pub AnswersOnce : Steps → Type 0
AnswersOnce h = (caller : Bytes) (request : ℕ) (token token' : Bytes) (expires expires' : ℕ)
    (s s' : Step × Content) → Contains h s → Contains h s'
    → AnswersToken caller request token expires s.0 → AnswersToken caller request token' expires' s'.0
    → (token ≡ token') × (expires ≡ expires')

-- so of all that was ever answered from a vault that was once empty, before these runs and by them
abbrev pub RequestsAnswerOnceEver : Type 0
RequestsAnswerOnceEver = OfAnyRuns (λ V rs end come. (first : Steps) → IsHistory empty_vault first
    → last empty_vault first ≡ V → AnswersOnce (first ++ history V None rs end come))

-- ---- answers are kept

-- the second vault comes from the first by commands
abbrev pub LeadsTo : Content → Content → Type 0
LeadsTo U X = (cs : List Command) × AllProper cs × (X ≡ run cs U)

-- Whoever opens the bytes of a run finds what those before it leave, with their undecided command or without.
-- If it works, it opens a vault that comes from this one, and the bytes hold it. So does the vault come that
-- is found in the last bytes.
abbrev pub IsKept : Content → (V : Content) (c : Option Command) (rs : List Run) (end : Image)
    → Come V c rs end → Type 0
IsKept U V c [] end come = LeadsTo U V × AreOf end V c
IsKept U V c (r ∷ rs) end (inl w, more) = AreOf r.begins V c × LeadsTo U w.opened × Bear r.begins w.opened
    × IsKept U (run w.answered w.opened) w.undecided rs end more
IsKept U V c (r ∷ rs) end (inr rests, more) = AreOf r.begins V c × IsKept U V c rs end more

-- so the vault after each command that a run answered, and of which anything went out
abbrev pub AnswersStay : OfRun
AnswersStay V c r (inl w) rs end more =
    EachAnswered w (λ W x. IsKept (after W x) (run w.answered w.opened) w.undecided rs end more)
    × WentOut (outside_of r) (shape_of w.task w.opened) w.opened w.answered r.streams
    (λ W x. IsKept (after W x) (run w.answered w.opened) w.undecided rs end more)
AnswersStay V c r (inr rests) rs end more = Unit {0}

-- What went out of a run tells of commands that it answered, and the vault after each of them is the one
-- that every later run opens, with what came behind it.
abbrev pub AnswersAreKept : Type 0
AnswersAreKept = OfAnyRuns (λ V rs end come. Each AnswersStay V None rs end come)

-- ---- what is done is done whole

-- A run that ended done and worked did its task whole. One that ended done and rests gave help, or it is a
-- trial, a check or a move: its words ask for no task.
abbrev pub DidWhole : OfRun
DidWhole V c r (inl w) rs end more =
    IsDone r.ending → AllDone (outside_of r) (shape_of w.task w.opened) w.opened w.answered r.streams
DidWhole V c r (inr rests) rs end more =
    IsDone r.ending → (AsksHelp r.words ⊎ AsksFor r.words IsAside) × ¬ (AsksTask r.words)

abbrev pub DoneIsDone : Type 0
DoneIsDone = OfAnyRuns (λ V rs end come. Each DidWhole V None rs end come)

-- ---- changes are whole

-- The vault that a run opens is the one that those before it leave, or the one after the command that was
-- undecided: that was asked for, and is done whole or not at all. Whoever opens the bytes of a run, or the
-- last ones, finds one of the two; and those of a run that works hold the one that it opens.
abbrev pub AreWhole : (Command → Type 0) → (V : Content) (c : Option Command) (rs : List Run) (end : Image)
    → Come V c rs end → Type 0
AreWhole WasAsked V c [] end come = IfSome c WasAsked × AreOf end V c
AreWhole WasAsked V c (r ∷ rs) end (inl w, more) = AreOf r.begins V c
    × ((w.opened ≡ V) ⊎ (x : Command) × (c ≡ Some x) × WasAsked x × (w.opened ≡ after V x))
    × Bear r.begins w.opened
    × AreWhole (IsNext (outside_of r) (shape_of w.task w.opened) w.opened w.answered r.streams)
    (run w.answered w.opened) w.undecided rs end more
AreWhole WasAsked V c (r ∷ rs) end (inr rests, more) = AreOf r.begins V c × AreWhole WasAsked V c rs end more

abbrev pub ChangesAreWhole : Type 0
ChangesAreWhole = OfAnyRuns (λ V rs end come. AreWhole (λ x. ⊥) V None rs end come)

-- ---- stops are spared

-- No run is refused by 30 or 31 where the file is in the newest schema: it was so, or some run before has
-- worked, or moved it. And none that moves is, in whatever schema the file is, half moved too.
abbrev pub AllSpared : Type 0 → (V : Content) (c : Option Command) (rs : List Run) (end : Image)
    → Come V c rs end → Type 0
AllSpared New V c [] end come = Unit {0}
AllSpared New V c (r ∷ rs) end (it, more) = (New → IsSpared r) × (AsksMove r.words → IsSpared r)
    × AllSpared (New ⊎ MakesNew V c r it) (kept_by V c r it) (undecided_by V c r it) rs end more

-- What a stop leaves is refused by neither 30 nor 31, but for a file that a move was to bring to the newest
-- schema and that no run has brought there; and then the move isn't refused so.
abbrev pub StopsAreSpared : Type 0
StopsAreSpared = OfAnyRuns (λ V rs end come. AllSpared (AreNew (before rs end) V None) V None rs end come)

-- ---- moves keep the vault

-- A run that moves doesn't work. Each that rests, as a move does, leaves the vault as it was, with whatever
-- bytes the next one begins: in some schema, and one that moves and is done leaves it in the newest.
abbrev pub MovesKeep : OfRun
MovesKeep V c r (inl w) rs end more = ¬ (AsksMove r.words)
MovesKeep V c r (inr rests) rs end more = AreOf (before rs end) V c
    × (IsDone r.ending × AsksMove r.words → AreNew (before rs end) V c)

abbrev pub MovesKeepTheVault : Type 0
MovesKeepTheVault = OfAnyRuns (λ V rs end come. Each MovesKeep V None rs end come)

-- ---- rights follow their list

-- Rights that runs make by a list are exactly those of a text that its file had: before the run, or at two looks
-- of a service, one after the other.
abbrev pub RightsFollowTheirList : Type 0
RightsFollowTheirList = OfAnyRuns (λ V rs end come. Each FollowsIts V None rs end come)

-- ---- all of them together

-- All that is said here of one reading of the runs, and not of one each.
pub record Together (V : Content) (rs : List Run) (end : Image) (come : Come V None rs end) : Type 0 where
  pub apart : NeverShared V (history V None rs end come)
  pub checked : NonePasses V (history V None rs end come)
  pub yields : (first more : Steps) → history V None rs end come ≡ first ++ more
      → LiveTokensYieldIn (last V first)
  pub yielded : Each Yields V None rs end come
  pub nobody_else : Each TellsDue V None rs end come
  pub told : Each IsTimely V None rs end come
  pub counted : (m : Bytes) → given_by V m + given_in m V None rs end come
      ≤ given_by (left_by V None rs end come) m
  pub stand : Stand V None rs end come
  pub kept : Each AnswersStay V None rs end come
  pub whole : AreWhole (λ x. ⊥) V None rs end come
  pub spared : AllSpared (AreNew (before rs end) V None) V None rs end come
  pub moves : Each MovesKeep V None rs end come
  pub done : Each DidWhole V None rs end come
  pub rights : Each FollowsIts V None rs end come

abbrev pub SentencesHoldTogether : Type 0
SentencesHoldTogether = OfAnyRuns (λ V rs end come. Together V rs end come)
