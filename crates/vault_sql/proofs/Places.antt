-- The place of tables, from one call to the next.
use Rattle.std.proofs.Common.{◌≡◌, ◌∙◌, ℕ, List, [], ◌∷◌, Option, Some, None, Ok, Result, IsTrue, take}
use Rattle.std.proofs.Common.{refl, sym, ap, subst, arith, cond, false, Bool, true}
use Rattle.std.specs.FinMap as map
use Rattle.std.specs.Ordering.{eq_by_cmp}
use Rattle.sqlite.specs.State.{State, HasCleanDisk}
use Rattle.sqlite.specs.Tree.{Trees}
use Rattle.sql_tables.specs.States.{Reads}
use Rattle.vault_core.proofs.Maps.{entry_total}
use Rattle.vault_core.specs.Changes.{with_entry}
use Rattle.vault_core.specs.Dead.{dead_tokens, is_dead}
use Rattle.vault_core.specs.Keys.{Bytes, entry_cmp}
use Rattle.vault_core.specs.Vault.{Vault}
use Rattle.vault_core.specs.Window.{moment_at}
use Rattle.vault_core.specs.declared.changes.Changes.{Changes}
use Rattle.vault_core.specs.declared.row.Entry.{Entry}
use Rattle.vault_core.specs.Changes.{plus}
use Rattle.vault_schema.specs.Holds.{Holds, LeavesEither}
use Rattle.vault_schema.specs.Schema.{newest_schema}
use Rattle.vault_sql.proofs.Calls as calls
use Rattle.vault_sql.proofs.Dead.{first_dead}
use Rattle.vault_sql.specs.DeadBefore.{HasNoDeadBefore}
use Rattle.vault_sql.specs.Places.{HasNoNumber, IsPast, first_place}
use Rattle.vault_sql.specs.declared.place.Place.{Place}

-- ---- calls that read

-- what a crash leaves of a connection that only read
pub left_by : {R E P Q : Type 0} {result : Result R E} {old new : State}
    → Reads newest_schema result old new
    → ((db : Trees) → IsTrue old.is_open → old.may_leave db → db ≡ old.committed.trees) → HasCleanDisk new
    → (V : Vault) → P × (HasCleanDisk old → Holds old V × Q) → LeavesEither new V V
left_by reads alone clean V h = calls.left_by reads alone clean V (h.0, λ honest. (h.1 honest).0)

-- a call that reads leaves each vault as it was, and so the place
pub still_held : {R E P Q : Type 0} {x : R} {old new : State}
    → Reads newest_schema (let it : Result R E = Ok x in it) old new → (V : Vault)
    → P × (HasCleanDisk old → Holds old V × Q) → P × (HasCleanDisk new → Holds new V × Q)
still_held {old = old} reads V h = (
  h.0,
  λ clean.
      let honest : HasCleanDisk old = omega (arith, reads.clean, clean) in
      let was = h.1 honest in
      ((calls.still_held {P = Unit {0}} reads V (tt, λ _. was.0)).1 clean, was.1),
)

-- ---- places

-- no token comes before the empty text
pub none_before : (V : Vault) (m : Bytes) (at : ℕ) → HasNoDeadBefore V m at []
none_before V m at [] e low found = cc
none_before V m at (b ∷ token) e low found = cc

-- no dead token comes before the first of them
pub first_past : (V : Vault) (m : Bytes) (at now many : ℕ) (tokens : List Bytes) → at ≡ moment_at V m now
    → tokens ≡ take many (dead_tokens V m now) → IsPast (first_place m at tokens) V
first_past V m at now many [] is listed = tt
first_past V m at now many (token ∷ rest) is listed =
    subst (λ t. HasNoDeadBefore V m t token) (sym is) (first_dead V m now many token rest listed)

numberless : (e : Entry) (at : ℕ) → e.number ≡ None → is_dead e at ≡ false
numberless e at gone = rw gone refl

-- what is written without a number isn't dead
past_entry : (V : Vault) (ch : Changes) (m : Bytes) (at : ℕ) (from : Bytes) → HasNoDeadBefore V m at from
    → (entry : Option (Bytes × Bytes × Entry)) → ch.entry ≡ entry → HasNoNumber entry
    → HasNoDeadBefore (plus V ch) m at from
past_entry V ch m at from none None is without token e low found =
    none token e low
    (sym (ap (λ o. map.get (with_entry V.entries o) (m, token)) is) ∙ found)
past_entry V ch m at from none (Some x) is without token e low found =
    go (eq_by_cmp entry_cmp (m, token) (x.0, x.1)) refl
    (sym (map.get-insert entry_total V.entries (x.0, x.1) x.2 (m, token))
    ∙ sym (ap (λ o. map.get (with_entry V.entries o) (m, token)) is) ∙ found)
  where
    go : (b : Bool) → eq_by_cmp entry_cmp (m, token) (x.0, x.1) ≡ b
        → cond b (Some x.2) (map.get V.entries (m, token)) ≡ Some e → is_dead e at ≡ false
    go true here is_it =
        let same : x.2 ≡ e = cc in
        subst (λ (y : Entry). is_dead y at ≡ false) same (numberless x.2 at without)
    go false apart is_it = none token e low is_it

pub still_past : (place : Option Place) (V : Vault) (ch : Changes) → HasNoNumber ch.entry → IsPast place V
    → IsPast place (plus V ch)
still_past None V ch without past = tt
still_past (Some place) V ch without past =
    past_entry V ch place.merchant place.moment place.token past ch.entry refl without
