-- What an answer of one run means to whoever asks again in a later one.
use Rattle.std.proofs.Common.{inl, inr}
use Rattle.std.specs.Prelude.{◌≡◌, ◌⊎◌, ℕ, List, [], ◌∷◌, ◌++◌, Ok, Option, None, take}
use Rattle.std.specs.Io.KnownBytes.{Appends}
use Rattle.sqlite_wal.specs.Recovery.{Image}
use Rattle.vault_core.specs.Keys.{Bytes}
use Rattle.vault_core.specs.Laws.{IsSameRequest}
use Rattle.vault_core.specs.Runs.{run}
use Rattle.vault_core.specs.Sound.{Sound}
use Rattle.vault_core.specs.Parts.{command_of}
use Rattle.vault_core.specs.Table.{reply}
use Rattle.vault_core.specs.Vault.{Vault as Content}
use Rattle.vault_core.specs.declared.command.Command.{Command}
use Rattle.vault_core.specs.declared.command.TokenRequest.{TokenRequest}
use Rattle.vault_core.specs.declared.reply.Reply.{Reply}
use Rattle.vault_core.specs.declared.reply.Reply.TheVariants.{Token}
use Rattle.vault_batch.specs.Rows.{Row}
use Rattle.vault_batch.specs.Batched.{lines}
use Rattle.vault_batch.specs.Lines.{first_line}
use Rattle.vault_http.specs.Exchanges.{answer_for, last_text}
use Rattle.vault_wire.specs.declared.fault.WireFault.{WireFault}
use Rattle.vault_wire.specs.Parts.{Parts}
use Rattle.vault_engine.specs.Asking.{Asked, texts, vault_after}
use Rattle.vault_listen.specs.Live.{Turns}
use Rattle.vault_live.specs.Turns.{Turn}
use Rattle.vault_live.specs.Turns.Turn.{Lost, Served, Attended}
use Rattle.vault_jobs.specs.Lists.{begin_of}
use Rattle.vault_jobs.specs.Outside.{Outside}
use Rattle.vault_jobs.specs.Streams.{Streams}
use Rattle.vault_promise.specs.Runs.{AreOf, Come, Run, Runs, Work, before, outside_of}
use Rattle.vault_promise.specs.Shapes.{Shape, shape_of}
use Rattle.vault_promise.specs.Shapes.Shape.{Rows, Messages, Connections}
use Rattle.vault_promise.specs.Told.{AreHeard, AreRead, streams_of}

-- which commands are answered, and by which replies
abbrev pub Replies : Type 1
Replies = Command → Reply → Type 0

-- a run that worked answered this command so
abbrev pub Answers : {V : Content} {c : Option Command} {r : Run} → Work V c r → Replies
Answers w x y = (first more : List Command) × (w.answered ≡ first ++ x ∷ more)
    × (reply (run first w.opened) x ≡ y)

-- one of these runs did
abbrev pub AnsweredIn : (V : Content) (c : Option Command) (rs : List Run) (end : Image) → Come V c rs end
    → Replies
AnsweredIn V c [] end come x y = ⊥
AnsweredIn V c (r ∷ rs) end (inl w, more) x y =
    Answers w x y ⊎ AnsweredIn (run w.answered w.opened) w.undecided rs end more x y
AnsweredIn V c (r ∷ rs) end (inr rests, more) x y = AnsweredIn V c rs end more x y

-- A request that a run answered a token, if a later run answers it again, with whatever digits and at
-- whatever moment: the later answer is that token.
abbrev pub TokensStand : Replies → Replies → Type 0
TokensStand Answered Later = (a again : TokenRequest) (token : Bytes) (expires : ℕ) (y : Reply)
    → Answered (command_of a) (Token token expires) → IsSameRequest a again → Later (command_of again) y
    → y ≡ Token token expires

-- one of these asks for the command, and is answered so
abbrev pub IsRepliedIn : {X : Type 0} → Content → List (Asked X) → Replies
IsRepliedIn W xs x y = (first more : List (Asked _)) × (it : Asked _) × (xs ≡ first ++ it ∷ more)
    × (it.wanted ≡ Ok x) × (reply (vault_after W first) x ≡ y)

-- What went out of messages stands. It is the texts that answer those that were read, up to some byte. If one
-- of these texts answers a request a token, and a later run answers the request again, that answer is the
-- token too.
pub record TextsStand (tells : Turns) (now : Option ℕ) (digits : Option (List ℕ)) (W : Content) (s : Streams)
    (Later : Replies) : Type 0 where
  pub exchanges : List (Asked Parts)
  pub heard : AreHeard tells now digits s exchanges
  pub fault : Option WireFault
  pub sent : ℕ
  pub went : Appends s.sent_old s.sent_new (take sent (texts answer_for W exchanges ++ last_text fault))
  pub stand : TokensStand (IsRepliedIn W exchanges) Later

-- and so what went out of rows: it is the lines that answer those that came in, up to some byte
pub record LinesStand (tells : Turns) (now : Option ℕ) (digits : Option (List ℕ)) (W : Content) (s : Streams)
    (Later : Replies) : Type 0 where
  pub rows : List (Asked Row)
  pub read : AreRead tells now digits s rows
  pub sent : ℕ
  pub went : Appends s.sent_old s.sent_new (take sent (first_line ++ lines W rows))
  pub stand : TokensStand (IsRepliedIn W rows) Later

-- and so the texts of each connection, from the vault that the turns before it leave
abbrev pub TurnsStand : Turns → Content → List Turn → Replies → Type 0
TurnsStand tells W [] Later = Unit {0}
TurnsStand tells W (Lost ∷ ts) Later = TurnsStand tells W ts Later
TurnsStand tells W (Served x ∷ ts) Later = (it : TextsStand tells None None W (streams_of x) Later)
    × TurnsStand tells (vault_after W it.exchanges) ts Later
TurnsStand tells W (Attended cs news ∷ ts) Later = TurnsStand tells (run cs W) ts Later

-- so of a run that answered the messages or the rows of its input, or those of connections
abbrev pub TellsStanding : Outside → Shape → Content → Streams → Replies → Type 0
TellsStanding at (Rows who now digits) W s Later = LinesStand at.tells now digits W s Later
TellsStanding at (Messages now digits) W s Later = TextsStand at.tells now digits W s Later
TellsStanding at (Connections service) W s Later =
    TurnsStand at.tells (run (begin_of service.lists W) W) s.turns Later
TellsStanding at shape W s Later = Unit {0}

-- and of each of the runs, with those after it
abbrev pub Stand : (V : Content) (c : Option Command) (rs : List Run) (end : Image) → Come V c rs end → Type 0
Stand V c [] end come = Unit {0}
Stand V c (r ∷ rs) end (inl w, more) =
    TokensStand (Answers w) (AnsweredIn (run w.answered w.opened) w.undecided rs end more)
    × TellsStanding (outside_of r) (shape_of w.task w.opened) w.opened r.streams
    (AnsweredIn (run w.answered w.opened) w.undecided rs end more)
    × Stand (run w.answered w.opened) w.undecided rs end more
Stand V c (r ∷ rs) end (inr rests, more) = Stand V c rs end more

-- Whatever runs there are, from bytes that are of a sound vault: each opens the vault that those before it
-- leave, and what it answers stands in those after it.
abbrev pub AnswersStand : Type 0
AnswersStand = (rs : List Run) (end : Image) (V : Content) → Sound V → AreOf (before rs end) V None
    → Runs rs end → ∥ ((come : Come V None rs end) × Stand V None rs end come) ∥₁
