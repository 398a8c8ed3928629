-- What is told of the peers of a service.
use Rattle.std.specs.Prelude.{◌≡◌, ◌≤◌, ℕ, ◌+◌, List, [], ◌∷◌, ◌++◌, Bool, false, Option, ◌≢◌, Err}
use Rattle.std.specs.Prelude.{Some, None, Result, length, MatchResult}
use Rattle.vault_store.specs.Applied.{is_broken}
use Rattle.vault_store.specs.declared.vault.Vault.{Vault}
use Rattle.vault_wire.specs.Watching.{inner_of, is_stopped}
use Rattle.vault_wire.specs.declared.watched.Watched.{Watched}
use Rattle.vault_engine.specs.Asking.{Pair}
use Rattle.vault_http.specs.Faults.{Tells, failures}
use Rattle.vault_engine.specs.Passing.{Passage, passage}
use Rattle.vault_http.specs.Served.{IsServed, IsStopped}
use Rattle.vault_engine.specs.declared.stop.Stop.{Stop as ServeFault}
use Rattle.vault_engine.specs.declared.stop.Stop.TheVariants as fault
use Rattle.vault_http.specs.declared.served.Served.{Served}
use Rattle.vault_listen.specs.Live.{AreGiven, Turns}
use Rattle.vault_listen.specs.declared.peers.Accepted.{Accepted}
use Rattle.vault_store.specs.LookUps.{WasHonest}
use Rattle.vault_store.specs.declared.tables.Tables.{Ghosts}

-- bytes as a reader has them left, or as a writer has taken them
abbrev pub Known : Type 0
Known = Option (List ℕ)

-- What happens to a connection. It is lost before it is accepted; or it comes, with what its reader has to
-- give and what its writer has taken, and is closed, with what its reader has left, what its writer has
-- taken, whether the one and the other failed, and how the service of it ended.
pub data Event : Type 0 where
  Lost : Event
  Came : Known → Known → Event
  Closed : Known → Known → Bool → Bool → Result Served ServeFault → Event

-- the event of an accept
abbrev pub coming : {R W : Type 0} → (R → Known) → (W → Known) → Option (Accepted R W) → Event
coming remaining contents None = Lost
coming remaining contents (Some it) = Came (remaining it.reader) (contents it.writer)

-- the event of a close, by what the reader has left, what the writer has taken, and how the service ended
abbrev pub closed_as : {R W : Type 0} → (R → Known) → (W → Known) → Watched R → Watched W
    → Result Served ServeFault → Event
closed_as remaining contents reader writer ended =
    Closed (remaining (inner_of reader)) (contents (inner_of writer))
    (is_stopped reader) (is_stopped writer) ended

-- how many connections came, whether they were accepted or lost before
abbrev pub came_in : List Event → ℕ
came_in [] = 0
came_in (Lost ∷ log) = came_in log + 1
came_in (Came came had ∷ log) = came_in log + 1
came_in (Closed left sent reader writer ended ∷ log) = came_in log

-- A connection that was accepted and closed: the bytes that its reader had to give and has left, those that
-- its writer had taken and has taken, whether the one and the other failed, and how the service of it ended.
pub record Link : Type 0 where
  pub came : Known
  pub left : Known
  pub had : Known
  pub sent : Known
  pub reader : Bool
  pub writer : Bool
  pub ended : Result Served ServeFault

-- the event of a close
abbrev pub closing : Link → Event
closing x = Closed x.left x.sent x.reader x.writer x.ended

-- the connection that was accepted is this one, and it was closed
pub record IsClosedBy {R W : Type 0} (remaining : R → Known) (contents : W → Known)
    (old new : List Event → Type 0) (it : Accepted R W) (x : Link) : Type 0 where
  pub gave : x.came ≡ remaining it.reader
  pub took : x.had ≡ contents it.writer
  pub closed : (log : List Event) → old log → new (log ++ closing x ∷ [])

-- the events of connections, one after the other, some of which were lost
abbrev pub events_of : List (Option Link) → List Event
events_of [] = []
events_of (None ∷ xs) = Lost ∷ events_of xs
events_of (Some x ∷ xs) = Came x.came x.had ∷ closing x ∷ events_of xs

-- a passage of a vault in which a source gave these pairs, and the writer of a connection took its bytes
abbrev pub link_passing : Passage → List Pair → Link → Passage
link_passing w pairs x = record w { given_new = pairs; sent_old = x.had; sent_new = x.sent }

-- One connection was served by a vault, or the service of it stopped: what was read are its own bytes, what
-- went out are its own answers, and its pairs are a moment, told for it alone, and a drawing each, at most
-- 1000. A fault but Memory tells which of source,
-- reader, writer and vault has failed.
pub record IsLink {T : Type 0} (tells : Turns) (g : Ghosts T) (x : Link) (v v' : Vault T) : Type 0 where
  pub pairs : List Pair
  pub few : length pairs ≤ 1000
  pub own : AreGiven tells None None pairs
  pub answered : MatchResult x.ended
      (IsServed x.came x.left (link_passing (passage g v v') pairs x))
      (IsStopped x.came x.left (link_passing (passage g v v') pairs x))
  pub refused : Bool
  pub told : Tells x.ended (failures false false false (is_broken v))
      (failures refused x.reader x.writer (is_broken v'))
  pub back : WasHonest g v v'

-- one connection was served by a vault and closed so, and the result is an Err exactly where the store failed
-- in it
abbrev pub ServesOne : {T X E : Type 0} → Turns → Ghosts T → Vault T → Vault T → (Link → Type 0)
    → Result X E → Type 0
ServesOne tells g v v' Closes result = (x : Link) × IsLink tells g x v v' × Closes x
    × MatchResult result (λ _. x.ended ≢ Err fault.Store) (λ _. x.ended ≡ Err fault.Store)

-- connections were served one after the other, each by the vault that those before it leave
abbrev pub AreLinks : {T : Type 0} → Turns → Ghosts T → List (Option Link) → Vault T → Vault T → Type 0
AreLinks tells g [] v v' = v' ≡ v
AreLinks tells g (None ∷ xs) v v' = AreLinks tells g xs v v'
AreLinks {T} tells g (Some x ∷ xs) v v' =
    (middle : Vault T) × IsLink tells g x v middle × AreLinks tells g xs middle v'

-- Connections came and were closed between the two, of which the peers tell, some were lost before, and they
-- were served one after the other by one vault; and this is what they leave of it.
abbrev pub ServesLinks : {P T : Type 0} → Turns → (P → List Event → Type 0) → Ghosts T → P × Vault T
    → P × Vault T → (List (Option Link) → Passage → Type 0) → Type 0
ServesLinks tells told g old new Leave = (xs : List (Option Link)) × Leave xs (passage g old.1 new.1)
    × AreLinks tells g xs old.1 new.1
    × ((log : List Event) → told old.0 log → told new.0 (log ++ events_of xs))
