-- One more connection, after which the time has jumped.
use Rattle.std.proofs.Common.{◌≡◌, ◌+◌, ◌<◌, ℕ, List, [], ◌∷◌, ◌++◌, Option, Err, length, arith}
use Rattle.std.proofs.Common.{length-append}
use Rattle.std.specs.Prelude.{All}
use Rattle.std.proofs.lemmas.List.Elements.{All-append, All-cons, All-nil}
use Rattle.vault_core.specs.Vault.{Vault as Content}
use Rattle.vault_engine.specs.Passing.{passage}
use Rattle.vault_store.specs.declared.vault.Vault.{Vault}
use Rattle.vault_listen.specs.Live.{Turns}
use Rattle.vault_listen.specs.Peers.{AreLinks, Event, Link, events_of}
use Rattle.vault_listen.specs.Service.{GoesOn, Leaves}
use Rattle.vault_listen.specs.declared.fault.ListenFault.TheVariants.{Source}
use Rattle.vault_listen.proofs.JoinedConnections.{kept_after}
use Rattle.vault_listen.proofs.ServedConnections.{links_then, told_then}
use Rattle.vault_store.specs.declared.tables.Tables.{Ghosts}

module _ {P : Type 0} {T : Type 0} (at : Turns) (g : Ghosts T)
    (steady : (t : T) (V : Content) → g.holds t V → g.is_honest t → g.leaves t V V)
    (tells : P → List Event → Type 0) where
  -- connections in which the store doesn't fail, and one more: what a service of them leaves and tells
  pub jumped_after : (most : ℕ) (xs : List (Option Link)) (x : Option Link) (v0 v1 v2 : Vault T)
      (p0 p1 p2 : P) → length xs < most → All GoesOn xs → GoesOn x
      → AreLinks at g xs v0 v1 → AreLinks at g (x ∷ []) v1 v2
      → ((log : List Event) → tells p0 log → tells p1 (log ++ events_of xs))
      → ((log : List Event) → tells p1 log → tells p2 (log ++ events_of (x ∷ [])))
      → (ys : List (Option Link))
      × Leaves at most ys (passage g v0 v2) (Err Source)
      × AreLinks at g ys v0 v2
      × ((log : List Event) → tells p0 log → tells p2 (log ++ events_of ys))
  jumped_after most xs x v0 v1 v2 p0 p1 p2 few on goes served more told then =
      let ys : List (Option Link) = xs ++ x ∷ [] in
      let size : length ys ≡ length xs + 1 = omega (arith, length-append xs (x ∷ [])) in
      let links = links_then at g xs (x ∷ []) v0 v1 v2 served more in
      let all = All-append GoesOn xs (x ∷ []) on (All-cons GoesOn x [] goes (All-nil GoesOn)) in (
        ys,
        (
          omega (arith, size),
          omega (arith, size, few),
          all,
          kept_after at g steady ys v0 v2 links all,
        ),
        links,
        told_then (tells p0) (tells p1) (tells p2) xs x told then,
      )
