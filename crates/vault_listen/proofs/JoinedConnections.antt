-- Connections after connections, said of the vaults that they lead to.
use Rattle.std.proofs.Common.{◌≡◌, ◌<◌, ◌≤◌, ℕ, List, [], ◌∷◌, ◌++◌, Option, Some, None, refl, subst}
use Rattle.std.proofs.Common.{Result, Ok, Err, ◌∙◌, length, sym}
use Rattle.std.specs.Prelude.{All, IsErrAnd}
use Rattle.std.proofs.lemmas.List.Elements.{All-head, All-tail}
use Rattle.vault_core.specs.Vault.{Vault as Content}
use Rattle.vault_engine.specs.Passing.{passage}
use Rattle.vault_store.specs.Applied.{Contains, tables_of}
use Rattle.vault_store.specs.declared.vault.Vault.{Vault}
use Rattle.vault_engine.specs.declared.stop.Stop.TheVariants as fault
use Rattle.vault_listen.specs.Live.{Turns}
use Rattle.vault_listen.specs.Peers.{AreLinks, IsLink, Link, link_passing}
use Rattle.vault_listen.specs.Service.{AllKept, AllLead, GoesOn, Leaves, OneUndecided}
use Rattle.vault_listen.specs.declared.fault.ListenFault.{ListenFault}
use Rattle.vault_listen.specs.declared.fault.ListenFault.TheVariants.{Accept, Store}
use Rattle.vault_listen.proofs.Answered.{settled, torn}
use Rattle.vault_store.specs.declared.tables.Tables.{Ghosts}

module _ {T : Type 0} (tells : Turns) (g : Ghosts T) where
  -- a vault is held, and a crash leaves it alone
  abbrev pub Keeping : Vault T → Content → Type 0
  Keeping v W = Contains g.holds v W × g.leaves (tables_of v) W W

  -- a disk that is honest after connections was so before
  honest_before : (xs : List (Option Link)) (v v' : Vault T) → AreLinks tells g xs v v'
      → g.is_honest (tables_of v') → g.is_honest (tables_of v)
  honest_before [] v v' same h = subst (λ u. g.is_honest (tables_of u)) same h
  honest_before (None ∷ xs) v v' links h = honest_before xs v v' links h
  honest_before (Some x ∷ xs) v v' (middle, one, links) h = one.back (honest_before xs middle v' links h)

  -- connections in which the store doesn't fail lead from the vault that is held to one that is kept
  lead : (xs : List (Option Link)) (v v' : Vault T) (V : Content)
      → AreLinks tells g xs v v' → All GoesOn xs → g.is_honest (tables_of v')
      → Keeping v V → (W : Content) × AllLead tells V xs W × Keeping v' W
  lead [] v v' V same on h kept = (V, refl, subst (λ u. Keeping u V) (sym same) kept)
  lead (None ∷ xs) v v' V links on h kept = lead xs v v' V links (All-tail GoesOn None xs on) h kept
  lead (Some x ∷ xs) v v' V (middle, one, links) on h kept =
      let at = honest_before xs middle v' links h in
      let w = link_passing (passage g v middle) one.pairs x in
      let it = settled w V (at, kept.0) x.ended x.came x.left (All-head GoesOn (Some x) xs on) one.answered in
      let rest = lead xs middle v' it.0 links (All-tail GoesOn (Some x) xs on) h it.1 in (
        rest.0,
        (it.0, record { pairs = one.pairs; few = one.few; own = one.own; answered = it.2 }, rest.1),
        rest.2,
      )

  module _ (steady : (t : T) (V : Content) → g.holds t V → g.is_honest t → g.leaves t V V) where
    pub kept_after : (xs : List (Option Link)) (v v' : Vault T) → AreLinks tells g xs v v'
        → All GoesOn xs → AllKept tells xs (passage g v v')
    kept_after xs v v' links on = λ V b.
        let first = honest_before xs v v' links b.0 in
        lead xs v v' V links on b.0 (b.1, steady (tables_of v) V b.1.0 first)

    pub undecided_after : (xs : List (Option Link)) (x : Link) (v middle v' : Vault T)
        → AreLinks tells g xs v middle → All GoesOn xs
        → IsLink tells g x middle v' → x.ended ≡ Err fault.Store
        → OneUndecided tells xs x (passage g v v')
    undecided_after xs x v middle v' links on one failed = λ V b.
        let between = one.back b.0 in
        let kept = kept_after xs v middle links on V (between, b.1) in
        let w = link_passing (passage g middle v') one.pairs x in
        let it = torn w kept.0 (b.0, kept.2.0) x.ended x.came x.left failed one.answered in (
          kept.0,
          it.0,
          it.1,
          kept.1,
          record { pairs = one.pairs; few = one.few; own = one.own; answered = it.3 },
          it.2,
        )

-- the store's fault, which is passed on
pub failed_in : (tells : Turns) (most : ℕ) (first : List (Option Link)) (x : Link) (w : _)
    (r : Result (Unit {0}) ListenFault) (f : ListenFault) → IsErrAnd r (λ e. e ≡ f) → f ≡ Store
    → length (first ++ Some x ∷ []) ≤ most → All GoesOn first → x.ended ≡ Err fault.Store
    → OneUndecided tells first x w → Leaves tells most (first ++ Some x ∷ []) w r
failed_in tells most first x w (Ok done) f never is few on failed one = absurd never
failed_in tells most first x w (Err e) f same is few on failed one =
    subst (λ g. Leaves tells most (first ++ Some x ∷ []) w (Err g)) (sym (same ∙ is))
    (few, (first, x, refl, on, failed, one))

-- and the listener's
pub unaccepted_in : (tells : Turns) (most : ℕ) (xs : List (Option Link)) (w : _)
    (r : Result (Unit {0}) ListenFault) (f : ListenFault) → IsErrAnd r (λ e. e ≡ f) → f ≡ Accept
    → length xs < most → All GoesOn xs → AllKept tells xs w → Leaves tells most xs w r
unaccepted_in tells most xs w (Ok done) f never is few on kept = absurd never
unaccepted_in tells most xs w (Err e) f same is few on kept =
    subst (λ g. Leaves tells most xs w (Err g)) (sym (same ∙ is)) (few, on, kept)
