-- What goes out of a task tells of commands that were answered.
use Rattle.std.specs.Prelude.{◌≡◌, ◌⊎◌, ◌≤◌, ℕ, List, [], ◌∷◌, ◌++◌, All, Option, None, length, take}
use Rattle.std.specs.Prelude.{false, IfOk, Ok}
use Rattle.std.specs.Io.KnownBytes.{Appends, Consumes, IsAtEnd}
use Rattle.vault_core.specs.Keys.{Bytes}
use Rattle.vault_core.specs.Runs.{run}
use Rattle.vault_core.specs.Vault.{Vault as Content}
use Rattle.vault_core.specs.declared.command.Command.{Command}
use Rattle.vault_http.specs.Exchanges.{answer_for, has_close, last_text, message_kind, shown, up_to_close}
use Rattle.vault_http.specs.Served.{Begins, answered_fault}
use Rattle.vault_wire.specs.Parts.{Parts}
use Rattle.vault_wire.specs.Messages.{Reads, Request}
use Rattle.vault_wire.specs.declared.fault.WireFault.{WireFault}
use Rattle.vault_engine.specs.Answered.{pairs_of, units_of}
use Rattle.vault_engine.specs.Asking as engine
use Rattle.vault_engine.specs.Asking.{commands_of, texts}
use Rattle.vault_batch.specs.Asking.{Asked, Asks}
use Rattle.vault_batch.specs.Batched.{lines, rows_of, tokens}
use Rattle.vault_batch.specs.Lines.{first_line}
use Rattle.vault_batch.specs.Rows.{AreRecordsOf, BeginRecordsOf, Fields, fields_in, records_with}
use Rattle.vault_batch.specs.declared.asker.Asker.{Asker}
use Rattle.vault_listen.specs.Live.{AreGiven, Turns}
use Rattle.vault_listen.specs.Peers.{Link}
use Rattle.vault_live.specs.News.{AreNewsValues, IsSaidOf, line_of}
use Rattle.vault_live.specs.Turns.{AreAsked, Asking, Turn, came}
use Rattle.vault_live.specs.Turns.Turn.{Lost, Served, Attended}
use Rattle.vault_live.specs.declared.news.News.{News}
use Rattle.vault_changes.specs.Grants.{AreDone}
use Rattle.vault_jobs.specs.Ahead.{MaySweep}
use Rattle.vault_jobs.specs.Doing.{AppendsPart, BeginsToListen, IsListening}
use Rattle.vault_jobs.specs.Lists.{asked_of, begin_of}
use Rattle.vault_jobs.specs.Outside.{Outside}
use Rattle.vault_jobs.specs.Streams.{Streams}
use Rattle.vault_jobs.specs.Sweeps.{AreSwept, Begin, left_dead, purge_at, purges_at}
use Rattle.vault_jobs.specs.Tasks.{purged_line}
use Rattle.vault_jobs.specs.declared.clock.Giver.{Giver}
use Rattle.vault_promise.specs.Shapes.{Shape}
use Rattle.vault_promise.specs.Shapes.Shape.{Commands, Purges, Rows, Messages, Connections, Words}

-- nothing went out
abbrev pub IsQuiet : Streams → Type 0
IsQuiet s = Appends s.sent_old s.sent_new []

-- this text went out, and nothing else; of this text a beginning did, perhaps all of it
abbrev pub WentAll : Streams → List ℕ → Type 0
WentAll s text = Appends s.sent_old s.sent_new text

abbrev pub WentPart : Streams → List ℕ → Type 0
WentPart s text = AppendsPart s.sent_old s.sent_new text

-- The exchanges are of what came in: the bytes that were read begin with messages, and of these, up to the
-- first that closes the connection, the first are asked in the exchanges, and one more at most that isn't
-- answered; each with a pair of its own, which has this moment and these digits, where they are fixed, and
-- else a moment that was told for it.
pub record AreHeard (tells : Turns) (now : Option ℕ) (digits : Option (List ℕ)) (s : Streams)
    (exchanges : List (engine.Asked Parts)) : Type 0 where
  pub bytes : List ℕ
  pub messages : List Request
  pub more : List (engine.Asked Parts)
  pub rest : List Parts
  pub read : Consumes s.left_old s.left_new bytes
  pub begins : Begins bytes messages
  pub given : AreGiven tells now digits (pairs_of (exchanges ++ more))
  pub asked : All (engine.Asks message_kind) (exchanges ++ more)
  pub first : up_to_close (shown messages) ≡ units_of (exchanges ++ more) ++ rest
  pub few : length more ≤ 1

-- the records that came in are these, or begin with these
abbrev pub CameIn : Streams → List Fields → Type 0
CameIn s records = AreRecordsOf s.left_old records ⊎ BeginRecordsOf s.left_old records

-- The rows are of what came in: where there are some, it begins with the header and these rows. Each has a
-- pair of its own, which has this moment and these digits, where they are fixed, and else a moment that was
-- told for it.
pub record AreRead (tells : Turns) (now : Option ℕ) (digits : Option (List ℕ)) (s : Streams)
    (rows : List Asked) : Type 0 where
  pub records : (rows ≡ []) ⊎ ((more : List Fields) × CameIn s (records_with (rows_of rows) ++ more))
  pub given : AreGiven tells now digits (pairs_of rows)

-- These are all the rows that came in behind the header, up to the end of the input; each is answered with a
-- token, and what went out are their lines.
pub record AreAllRows (tells : Turns) (now : Option ℕ) (digits : Option (List ℕ)) (V : Content) (s : Streams)
    (rows : List Asked) : Type 0 where
  pub records : AreRecordsOf s.left_old (records_with (rows_of rows))
  pub ended : IsAtEnd s.left_new
  pub given : AreGiven tells now digits (pairs_of rows)
  pub each : tokens V rows ≡ length rows
  pub went : WentAll s (first_line ++ lines V rows)

-- These are all the messages that were read, up to the first that closes the connection. What went out are the
-- texts that answer them, and the fault behind them, where there is one and none closes; and if neither came,
-- the input was read to its end.
pub record AreAllHeard (tells : Turns) (now : Option ℕ) (digits : Option (List ℕ)) (V : Content) (s : Streams)
    (exchanges : List (engine.Asked Parts)) : Type 0 where
  pub bytes : List ℕ
  pub messages : List Request
  pub fault : Option WireFault
  pub read : Consumes s.left_old s.left_new bytes
  pub reads : Reads bytes messages fault
  pub given : AreGiven tells now digits (pairs_of exchanges)
  pub asked : All (engine.Asks message_kind) exchanges
  pub whole : units_of exchanges ≡ up_to_close (shown messages)
  pub ended : has_close (shown messages) ≡ false → fault ≡ None → IsAtEnd s.left_new
  pub went : WentAll s (texts answer_for V exchanges ++ last_text (answered_fault messages fault))

-- Messages answered commands from the vault V: they were read, and what went out are the texts that answer
-- them, or the first bytes of these and of the text that answers a fault.
abbrev pub AreAnswered : Turns → Option ℕ → Option (List ℕ) → Content → List Command → Streams → Type 0
AreAnswered tells now digits V cs s = (xs : List (engine.Asked Parts)) × (cs ≡ commands_of xs)
    × AreHeard tells now digits s xs
    × ((fault : Option WireFault) × (sent : ℕ)
    × Appends s.sent_old s.sent_new (take sent (texts answer_for V xs ++ last_text fault)))

-- all that were read did, and all of the texts went out
abbrev pub AreAllAnswered : Turns → Option ℕ → Option (List ℕ) → Content → List Command → Streams → Type 0
AreAllAnswered tells now digits V cs s = (xs : List (engine.Asked Parts)) × (cs ≡ commands_of xs)
    × AreAllHeard tells now digits V s xs

-- the streams of a connection: what its reader had to give and has left, what its writer had taken and has
abbrev pub streams_of : Link → Streams
streams_of x = record {
  left_old = x.came;
  left_new = x.left;
  sent_old = x.had;
  sent_new = x.sent;
  reader = x.reader;
  writer = x.writer;
  turns = [];
}

-- the messages of a connection answered commands so; and all of them did, where it was served to its end
abbrev pub IsAnswered : Turns → Content → List Command → Link → Type 0
IsAnswered tells V cs x = AreAnswered tells None None V cs (streams_of x)
    × IfOk x.ended (λ n. AreAllAnswered tells None None V cs (streams_of x))

-- What is said of commands between two connections, in values of their types: a moment up to the year 9999, a
-- number of three digits at most, a merchant's name. Or nothing is said.
abbrev pub IsSaid : News → Content → List Command → Type 0
IsSaid news V cs = IsSaidOf news V cs × AreNewsValues news ⊎ (line_of news ≡ [])

-- The turns of a service answered commands from the vault V, one turn after the other, each from the vault
-- that those before it leave: those of a connection are answered to its own messages; and those between two
-- connections are the first of what was asked for there, and this is said of them.
abbrev pub AllAnswer : Turns → Asking → Content → List Turn → List Command → Type 0
AllAnswer tells asks V [] cs = cs ≡ []
AllAnswer tells asks V (Lost ∷ ts) cs = AllAnswer tells asks V ts cs
AllAnswer tells asks V (Served x ∷ ts) cs = (first more : List Command) × (cs ≡ first ++ more)
    × IsAnswered tells V first x × AllAnswer tells asks (run first V) ts more
AllAnswer tells asks V (Attended first news ∷ ts) cs = (AreAsked asks V first × IsSaid news V first)
    × ((more : List Command) × (cs ≡ first ++ more) × AllAnswer tells asks (run first V) ts more)

-- these commands are the first of those
abbrev pub AreFirst : List Command → List Command → Type 0
AreFirst cs all = (k : ℕ) × (cs ≡ take k all)

-- The first of these were answered, and nothing went out; or all are done, and of this line a beginning went
-- out.
abbrev pub SaysDone : List Command → List ℕ → Content → List Command → Streams → Type 0
SaysDone all line V cs s = AreFirst cs all
    × (IsQuiet s ⊎ (cs ≡ all) × AreDone (length all) all V × WentPart s line)

-- The purges of a merchant's first dead tokens are done, and nothing went out; or no dead token is left, and of
-- the line that says how many were purged a beginning went out. Where a sweep may not begin nothing is purged,
-- and nothing goes out.
abbrev pub SaysPurged : Asker × ℕ → Giver → Content → List Command → Streams → Type 0
SaysPurged (who, now) giver V cs s = (tokens : List Bytes) × (cs ≡ purges_at who now tokens)
    × AreSwept who now tokens V
    × (IsQuiet s ⊎ (left_dead who now tokens V ≡ []) × MaySweep giver V who.merchant now
    × WentPart s (purged_line (length tokens)))
    × ((tokens ≡ []) ⊎ MaySweep giver V who.merchant now)

-- The line of a service went out that says where it listens, and behind it the lines of what was done between
-- connections; or of the first a beginning did, and there was no turn.
abbrev pub SaysTurns : ℕ → Streams → Type 0
SaysTurns port s = (s.turns ≡ []) × BeginsToListen port s.sent_old s.sent_new
    ⊎ IsListening port s.sent_old s.sent_new s.turns

-- Commands were answered from the vault V, one after the other, and what went out tells of these alone, to the
-- byte. A line that says that all of a list are done, or that no dead token is left, says the truth. Lines of
-- rows and texts of messages, which were read, are those that answer them, or the first bytes of these; and so
-- are the texts of each connection of a service. The first commands of that are those that its lists ask for:
-- they set the merchants, and then make the rights exactly the list's. Before they are done nothing goes out,
-- and no connection is answered; between two connections others do so for a later text of a file. What a vault
-- is said to hold is the text of it, or the first bytes of that.
abbrev pub Tells : Outside → Shape → Content → List Command → Streams → Type 0
Tells at (Commands all line) V cs s = SaysDone all line V cs s
Tells at (Purges who now giver) V cs s = SaysPurged (who, now) giver V cs s
Tells at (Rows who now digits) V cs s = (asked : List Asked) × All (Asks who) asked
    × (cs ≡ commands_of asked) × AreRead at.tells now digits s asked
    × WentPart s (first_line ++ lines V asked)
Tells at (Messages now digits) V cs s = AreAnswered at.tells now digits V cs s
Tells at (Connections service) V cs s =
    (let first = begin_of service.lists V in
    AreFirst cs first × (s.turns ≡ []) × IsQuiet s
    ⊎ ((more : List Command) × (cs ≡ first ++ more) × AreDone (length first) first V
    × SaysTurns service.port s
    × AllAnswer at.tells (asked_of at service.lists) (run first V) s.turns more))
Tells at (Words text) V cs s = (cs ≡ []) × WentPart s text

-- What a task tells by being done. All of its commands are done, and its line went out; or no dead token is
-- left, the sweep of them might begin, and its line went out. All rows that came in are answered with tokens;
-- all messages that were read are answered; as many connections came as were asked for, and all of each are
-- answered that was served to its end. Or the whole text went out.
abbrev pub AllDone : Outside → Shape → Content → List Command → Streams → Type 0
AllDone at (Commands all line) V cs s = (cs ≡ all) × AreDone (length all) all V × WentAll s line
AllDone at (Purges who now giver) V cs s = MaySweep giver V who.merchant now
    × ((tokens : List Bytes) × (cs ≡ purges_at who now tokens) × (left_dead who now tokens V ≡ [])
    × WentAll s (purged_line (length tokens)))
AllDone at (Rows who now digits) V cs s = (asked : List Asked) × All (Asks who) asked
    × (cs ≡ commands_of asked) × AreAllRows at.tells now digits V s asked
AllDone at (Messages now digits) V cs s = AreAllAnswered at.tells now digits V cs s
AllDone at (Connections service) V cs s =
    (let first = begin_of service.lists V in
    (more : List Command) × (cs ≡ first ++ more) × AreDone (length first) first V
    × (came s.turns ≡ service.connections) × IsListening service.port s.sent_old s.sent_new s.turns
    × AllAnswer at.tells (asked_of at service.lists) (run first V) s.turns more)
AllDone at (Words text) V cs s = (cs ≡ []) × WentAll s text

-- The message behind those of these commands asks for this one: it was read, and isn't answered.
abbrev pub IsAskedNext : Turns → Option ℕ → Option (List ℕ) → Streams → List Command → Command → Type 0
IsAskedNext tells now digits s cs x = (xs : List (engine.Asked Parts)) × (it : engine.Asked Parts)
    × (cs ≡ commands_of xs) × (it.wanted ≡ Ok x)
    × ((heard : AreHeard tells now digits s xs) × (heard.more ≡ it ∷ []))

-- so in the last turn of a service: its last connection asks for it; or it is the next of what was asked for
-- there, from the vault that the commands before that turn leave
abbrev pub IsLastNext : Turns → Asking → Content → List Turn → List Command → Command → Type 0
IsLastNext tells asks V turns cs x = ((first : List Turn) × (link : Link) × (own : List Command)
    × (turns ≡ first ++ Served link ∷ []) × IsAskedNext tells None None (streams_of link) own x)
    ⊎ ((first : List Turn) × (own : List Command) × (news : News) × (before : List Command)
    × (turns ≡ first ++ Attended own news ∷ []) × (cs ≡ before ++ own)
    × AreAsked asks (run before V) (own ++ x ∷ []))

-- A command that a task didn't answer, and that may be done: it was asked for. It is the one of the words,
-- the next one of a list, or the purge of the next dead token; or the next row that came in, or message, asks
-- for it.
abbrev pub IsNext : Outside → Shape → Content → List Command → Streams → Command → Type 0
IsNext at (Commands all line) V cs s x = AreFirst (cs ++ x ∷ []) all
IsNext at (Purges who now giver) V cs s x = (tokens : List Bytes) × (token : Bytes)
    × (cs ≡ purges_at who now tokens) × (x ≡ purge_at who now token)
    × Begin (token ∷ []) (left_dead who now tokens V)
IsNext at (Rows who now digits) V cs s x = (rows : List Asked) × (it : Asked) × (cs ≡ commands_of rows)
    × Asks who it × (it.wanted ≡ Ok x)
    × BeginRecordsOf s.left_old (records_with (rows_of rows) ++ fields_in it.unit ∷ [])
IsNext at (Messages now digits) V cs s x = IsAskedNext at.tells now digits s cs x
IsNext at (Connections service) V cs s x =
    (let first = begin_of service.lists V in
    AreFirst (cs ++ x ∷ []) first ⊎ ((more : List Command) × (cs ≡ first ++ more)
    × IsLastNext at.tells (asked_of at service.lists) (run first V) s.turns more x))
IsNext at (Words text) V cs s x = ⊥
