-- Connections that are served one after the other.
use Rattle.std.proofs.Common.{◌≡◌, ◌+◌, ◌≤◌, List, [], ◌∷◌, ◌++◌, Option, Some, None, refl, sym, subst}
use Rattle.std.proofs.Common.{Result, length, ap, append-nil, append_assoc, arith}
use Rattle.std.specs.Prelude.{Bool, false, MatchResult}
use Rattle.vault_store.specs.Applied.{is_broken, tables_of}
use Rattle.vault_store.specs.declared.vault.Vault.{Vault}
use Rattle.vault_engine.specs.Asking.{Pair}
use Rattle.vault_engine.specs.Passing.{passage}
use Rattle.vault_http.specs.Faults.{Tells, failures}
use Rattle.vault_http.specs.Served.{IsServed, IsStopped}
use Rattle.vault_engine.specs.declared.stop.Stop.{Stop as ServeFault}
use Rattle.vault_http.specs.declared.served.Served.{Served}
use Rattle.vault_listen.specs.declared.peers.Accepted.{Accepted}
use Rattle.vault_listen.specs.Live.{AreGiven, Turns}
use Rattle.vault_listen.specs.Peers.{AreLinks, Event, IsClosedBy, IsLink, Known, Link}
use Rattle.vault_listen.specs.Peers.{came_in, closing, coming, events_of, link_passing}
use Rattle.vault_listen.specs.Peers.Event.{Lost, Came, Closed}
use Rattle.vault_store.specs.declared.tables.Tables.{Ghosts}

pub events_of-append : (xs ys : List (Option Link)) → events_of (xs ++ ys) ≡ events_of xs ++ events_of ys
events_of-append [] ys = refl
events_of-append (None ∷ xs) ys = ap (λ zs. Lost ∷ zs) (events_of-append xs ys)
events_of-append (Some x ∷ xs) ys =
    ap (λ zs. Came x.came x.had ∷ closing x ∷ zs) (events_of-append xs ys)

pub came_in_both : (xs ys : List Event) → came_in (xs ++ ys) ≡ came_in xs + came_in ys
came_in_both [] ys = omega arith
came_in_both (Lost ∷ xs) ys = omega (arith, came_in_both xs ys)
came_in_both (Came came had ∷ xs) ys = omega (arith, came_in_both xs ys)
came_in_both (Closed left sent reader writer ended ∷ xs) ys = came_in_both xs ys

-- one more came
pub came_one : {R W : Type 0} (remaining : R → Known) (contents : W → Known) (o : Option (Accepted R W))
    (log : List Event) → came_in (log ++ coming remaining contents o ∷ []) ≡ came_in log + 1
came_one remaining contents None log = came_in_both log (Lost ∷ [])
came_one remaining contents (Some it) log =
    came_in_both log (Came (remaining it.reader) (contents it.writer) ∷ [])

-- none came
pub closed_none : (left sent : Known) (reader writer : Bool) (ended : Result Served ServeFault)
    (log : List Event) → came_in (log ++ Closed left sent reader writer ended ∷ []) ≡ came_in log
closed_none left sent reader writer ended log =
    omega (arith, came_in_both log (Closed left sent reader writer ended ∷ []))

-- one that came, and was closed
pub closed_then : {R W : Type 0} (remaining : R → Known) (contents : W → Known)
    (old opened new : List Event → Type 0) (o : Option (Accepted R W)) (it : Accepted R W) (x : Link)
    → o ≡ Some it
    → ((log : List Event) → old log → opened (log ++ coming remaining contents o ∷ []))
    → IsClosedBy remaining contents opened new it x
    → (log : List Event) → old log → new (log ++ events_of (Some x ∷ []))
closed_then remaining contents old opened new o it x is comes c log h =
    let first = subst (λ o. opened (log ++ coming remaining contents o ∷ [])) is (comes log h) in
    let second = subst (λ b. opened (log ++ Came b (contents it.writer) ∷ [])) (sym c.gave) first in
    let third = subst (λ b. opened (log ++ Came x.came b ∷ [])) (sym c.took) second in
    subst new (append_assoc log (Came x.came x.had ∷ []) (closing x ∷ []))
    (c.closed (log ++ Came x.came x.had ∷ []) third)

-- one that was lost
pub lost_then : {R W : Type 0} (remaining : R → Known) (contents : W → Known)
    (old new : List Event → Type 0) (o : Option (Accepted R W)) → o ≡ None
    → ((log : List Event) → old log → new (log ++ coming remaining contents o ∷ []))
    → (log : List Event) → old log → new (log ++ events_of (None ∷ []))
lost_then remaining contents old new o is comes log h =
    subst (λ o. new (log ++ coming remaining contents o ∷ [])) is (comes log h)

-- nothing more is told
pub none_then : (tells : List Event → Type 0) (log : List Event) → tells log → tells (log ++ events_of [])
none_then tells log h = subst tells (sym (append-nil log)) h

-- what is told of connections, and then of one more
pub told_then : (old middle new : List Event → Type 0) (xs : List (Option Link)) (x : Option Link)
    → ((log : List Event) → old log → middle (log ++ events_of xs))
    → ((log : List Event) → middle log → new (log ++ events_of (x ∷ [])))
    → (log : List Event) → old log → new (log ++ events_of (xs ++ x ∷ []))
told_then old middle new xs x f g log h =
    subst (λ es. new (log ++ es)) (sym (events_of-append xs (x ∷ [])))
    (subst new (append_assoc log (events_of xs) (events_of (x ∷ []))) (g (log ++ events_of xs) (f log h)))

module _ {T : Type 0} (tells : Turns) (g : Ghosts T) where
  -- connections, and then more of them
  pub links_then : (xs ys : List (Option Link)) (v0 v1 v2 : Vault T)
      → AreLinks tells g xs v0 v1 → AreLinks tells g ys v1 v2
      → AreLinks tells g (xs ++ ys) v0 v2
  links_then [] ys v0 v1 v2 same more = subst (λ v. AreLinks tells g ys v v2) same more
  links_then (None ∷ xs) ys v0 v1 v2 links more = links_then xs ys v0 v1 v2 links more
  links_then (Some x ∷ xs) ys v0 v1 v2 (middle, one, links) more =
      (middle, one, links_then xs ys middle v1 v2 links more)

  -- a connection, from a reader and a writer that had not failed
  pub link_of : (x : Link) (v v' : Vault T) (r w refused : Bool) (pairs : List Pair) → length pairs ≤ 1000
      → AreGiven tells None None pairs
      → MatchResult x.ended (IsServed x.came x.left (link_passing (passage g v v') pairs x))
      (IsStopped x.came x.left (link_passing (passage g v v') pairs x))
      → r ≡ false → w ≡ false
      → Tells x.ended (failures false r w (is_broken v)) (failures refused x.reader x.writer (is_broken v'))
      → (g.is_honest (tables_of v') → g.is_honest (tables_of v)) → IsLink tells g x v v'
  link_of x v v' r w refused pairs few own answered calm_r calm_w told back = record {
    pairs = pairs;
    few = few;
    own = own;
    answered = answered;
    refused = refused;
    told =
        let after = failures refused x.reader x.writer (is_broken v') in
        subst (λ b. Tells x.ended (failures false false b (is_broken v)) after) calm_w
        (subst (λ b. Tells x.ended (failures false b w (is_broken v)) after) calm_r told);
    back = back;
  }
