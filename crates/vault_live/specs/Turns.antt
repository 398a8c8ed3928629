-- A service turn by turn: connections, and what is done between two of them.
use Rattle.std.specs.Prelude.{◌≡◌, ◌≢◌, ◌⊎◌, ℕ, ◌+◌, ◌≤◌, List, [], ◌∷◌, ◌++◌, length, Bool}
use Rattle.std.specs.Prelude.{Option, Some, None, Result, Ok, Err}
use Rattle.vault_core.specs.Runs.{run}
use Rattle.vault_core.specs.Vault.{Vault as Content}
use Rattle.vault_core.specs.declared.command.Command.{Command}
use Rattle.vault_engine.specs.Passing.{Passage, IsBefore, Keeps, passage}
use Rattle.vault_engine.specs.declared.stop.Stop.TheVariants as fault
use Rattle.vault_store.specs.declared.tables.Tables.{Ghosts}
use Rattle.vault_store.specs.declared.vault.Vault.{Vault}
use Rattle.vault_wire.specs.Watching.{inner_of}
use Rattle.vault_wire.specs.declared.watched.Watched.{Watched}
use Rattle.vault_listen.specs.Live.{Turns}
use Rattle.vault_listen.specs.Peers.{Event, Known, Link, closing}
use Rattle.vault_listen.specs.Peers.Event.{Lost as Missed, Came}
use Rattle.vault_listen.specs.Service.{Leads}
use Rattle.vault_listen.specs.declared.fault.ListenFault.{ListenFault}
use Rattle.vault_listen.specs.declared.fault.ListenFault.TheVariants.{Source, Store, Memory, Accept}
use Rattle.vault_live.specs.News.{AreNewsValues, IsSaidOf, line_of}
use Rattle.vault_live.specs.Told.{Tells}
use Rattle.vault_live.specs.declared.news.News.{News}

-- What comes in a turn: a connection that was lost before it was accepted; one that was served; or commands
-- that were carried out between two connections, with what is said of them.
pub data Turn : Type 0 where
  Lost : Turn
  Served : Link → Turn
  Attended : List Command → News → Turn

-- the turn of a connection
abbrev pub turn_of : Option Link → Turn
turn_of None = Lost
turn_of (Some x) = Served x

-- how many connections came
abbrev pub came : List Turn → ℕ
came [] = 0
came (Lost ∷ ts) = came ts + 1
came (Served x ∷ ts) = came ts + 1
came (Attended cs news ∷ ts) = came ts

-- what is told of the peers
abbrev pub events_in : List Turn → List Event
events_in [] = []
events_in (Lost ∷ ts) = Missed ∷ events_in ts
events_in (Served x ∷ ts) = Came x.came x.had ∷ closing x ∷ events_in ts
events_in (Attended cs news ∷ ts) = events_in ts

-- a network that told so much before tells of these turns now
abbrev pub TellsTurns : (List Event → Type 0) → (List Event → Type 0) → List Turn → Type 0
TellsTurns told_old told_new turns = (log : List Event) → told_old log → told_new (log ++ events_in turns)

-- What was said in turns went out, line by line: of each the whole line, or, where the writer failed, a
-- beginning of it.
abbrev pub AreSaid : Known → Known → List Turn → Type 0
AreSaid old new [] = new ≡ old
AreSaid old new (Lost ∷ ts) = AreSaid old new ts
AreSaid old new (Served x ∷ ts) = AreSaid old new ts
AreSaid old new (Attended cs news ∷ ts) = (middle : Known) × (stopped : Bool)
    × Tells old middle stopped (line_of news) × AreSaid middle new ts

-- which commands may be asked for between two connections, by the vault that is held
abbrev pub Asking : Type 1
Asking = Content → List Command → Type 0

-- none of these were carried out, or they are the first of those that were asked for
abbrev pub AreAsked : Asking → Content → List Command → Type 0
AreAsked asks V cs = (cs ≡ []) ⊎ ((rest : List Command) × asks V (cs ++ rest))

-- Turns come one after the other, each from the vault that those before it leave, the first from V; the last
-- leaves W. A connection is answered as a service of it alone would be, and the store didn't fail in it; of
-- what is asked for between two, the first commands are carried out, and this is said of them, in values of
-- their types.
abbrev pub AllTurn : Turns → Asking → Content → List Turn → Content → Type 0
AllTurn tells asks V [] W = W ≡ V
AllTurn tells asks V (Lost ∷ ts) W = AllTurn tells asks V ts W
AllTurn tells asks V (Served x ∷ ts) W = (M : Content) × (x.ended ≢ Err fault.Store)
    × Leads tells V M M x × AllTurn tells asks M ts W
AllTurn tells asks V (Attended cs news ∷ ts) W =
    AreAsked asks V cs × IsSaidOf news V cs × AreNewsValues news × AllTurn tells asks (run cs V) ts W

-- The first of some turns are turns by themselves, and so are the others from the vault that those leave. So
-- a service may be stopped between two turns.
abbrev pub TurnsMayStop : {K O : Type 0} → (K → Turns) → (O → Turns → Asking) → Type 0
TurnsMayStop {K = K} {O = O} tells asks = (time : K) (office : O) (first more : List Turn) (V W : Content)
    → AllTurn (tells time) (asks office (tells time)) V (first ++ more) W
    → (M : Content) × AllTurn (tells time) (asks office (tells time)) V first M
    × AllTurn (tells time) (asks office (tells time)) M more W

-- the vault that turns leave is kept
abbrev pub AllKept : Turns → Asking → List Turn → Passage → Type 0
AllKept tells asks ts w = (V : Content) → IsBefore w V → (W : Content) × AllTurn tells asks V ts W × Keeps w W

-- The store failed in a turn after the first ones: at a message, or at one more of the commands that were
-- asked for, or where what is held was read. A crash leaves the vault before it or the one after it.
abbrev pub OneUndecided : Turns → Asking → List Turn → Turn → Passage → Type 0
OneUndecided tells asks first Lost w = ⊥
OneUndecided tells asks first (Served x) w = (x.ended ≡ Err fault.Store)
    × ((V : Content) → IsBefore w V → (M W U : Content) × AllTurn tells asks V first M
    × Leads tells M W U x × w.left_new W U)
OneUndecided tells asks first (Attended cs news) w = (line_of news ≡ [])
    × ((next : List Command) × (length next ≤ 1)
    × ((V : Content) → IsBefore w V → (M : Content) × AllTurn tells asks V first M
    × AreAsked asks M (cs ++ next) × w.left_new (run cs M) (run (cs ++ next) M)))

-- the store failed in the last of these
abbrev pub LastUndecided : Turns → Asking → List Turn → Passage → Type 0
LastUndecided tells asks ts w = (first : List Turn) × (last : Turn) × (ts ≡ first ++ last ∷ [])
    × OneUndecided tells asks first last w

-- How turns end before the last connection: the time is found to have jumped, or isn't told; the store fails
-- in the last turn, and in none before; memory is refused before the first; or no connection can be accepted.
abbrev pub Breaks : Turns → Asking → List Turn → Passage → ListenFault → Type 0
Breaks tells asks ts w Source = AllKept tells asks ts w
Breaks tells asks ts w Store = LastUndecided tells asks ts w
Breaks tells asks ts w Memory = (ts ≡ []) × AllKept tells asks [] w
Breaks tells asks ts w Accept = AllKept tells asks ts w

-- What a service of so many connections leaves, where these turns came: it is done with the last connection,
-- or it ends before.
abbrev pub Leaves : Turns → Asking → ℕ → List Turn → Passage → Result Unit ListenFault → Type 0
Leaves tells asks most ts w (Ok done) = (came ts ≡ most) × AllKept tells asks ts w
Leaves tells asks most ts w (Err f) = (came ts ≤ most) × Breaks tells asks ts w f

-- What one turn leaves, in which so many connections came, one at most; or it is the last. Memory isn't
-- refused in it.
abbrev pub TurnLeaves : Turns → Asking → List Turn → Passage → Result ℕ ListenFault → Type 0
TurnLeaves tells asks ts w (Ok n) = (came ts ≡ n) × (n ≤ 1) × AllKept tells asks ts w
TurnLeaves tells asks ts w (Err Source) = (came ts ≤ 1) × AllKept tells asks ts w
TurnLeaves tells asks ts w (Err Store) = (came ts ≤ 1) × LastUndecided tells asks ts w
TurnLeaves tells asks ts w (Err Memory) = ⊥
TurnLeaves tells asks ts w (Err Accept) = (came ts ≡ 0) × AllKept tells asks ts w

-- what one turn leaves, where this is what may be asked for by the moments that are told
abbrev pub OneTurnLeaves : Turns → (Turns → Asking) → Result ℕ ListenFault → List Turn → Passage → Type 0
OneTurnLeaves tells asks result ts w = TurnLeaves tells (asks tells) ts w result

-- what a service of so many connections leaves, where this is what may be asked for by those moments
abbrev pub TurnsLeave : Turns → (Turns → Asking) → ℕ → Result Unit ListenFault → List Turn → Passage → Type 0
TurnsLeave tells asks most result ts w = Leaves tells (asks tells) most ts w result

-- a network tells of some turns between the two, and this holds of them
abbrev pub SomeTurns : {N : Type 0} → (N → List Event → Type 0) → N → N → (List Turn → Type 0) → Type 0
SomeTurns told old new Holds = (turns : List Turn) × TellsTurns (told old) (told new) turns × Holds turns

-- Turns came between the two, and this is what they leave of the vault; the peers tell of them, and the
-- output took what was said in them.
abbrev pub ServesTurns : {P T W : Type 0} → (P → List Event → Type 0) → Ghosts T → (W → Known)
    → P × Vault T × Watched W → P × Vault T × Watched W → (List Turn → Passage → Type 0) → Type 0
ServesTurns told g contents old new Leave = (ts : List Turn) × Leave ts (passage g old.1 new.1)
    × TellsTurns (told old.0) (told new.0) ts
    × AreSaid (contents (inner_of old.2)) (contents (inner_of new.2)) ts

-- What is done between two connections: the first of the commands that were asked for are carried out, this
-- is said of them, and the vault that they leave is kept; where the store failed, a crash decides on one more
-- at most; and without a moment nothing is done.
abbrev pub Attends : Asking → Passage → Result News ListenFault → Type 0
Attends asks w (Ok news) = (cs : List Command) × ((V : Content) → IsBefore w V
    → AreAsked asks V cs × IsSaidOf news V cs × Keeps w (run cs V))
Attends asks w (Err Store) = (cs next : List Command) × (length next ≤ 1)
    × ((V : Content) → IsBefore w V → AreAsked asks V (cs ++ next)
    × w.left_new (run cs V) (run (cs ++ next) V))
Attends asks w (Err Source) = (V : Content) → IsBefore w V → Keeps w V
Attends asks w (Err Memory) = ⊥
Attends asks w (Err Accept) = ⊥
