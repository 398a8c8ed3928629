-- Steps one after the other.
use Rattle.std.proofs.Common.{◌≡◌, ◌≤◌, ◌⊎◌, Bool, false, inl, inr, List, subst, sym}
use Rattle.sqlite.specs.State.{HasCleanDisk, State}
use Rattle.sqlite.specs.Tree.{Trees}
use Rattle.sqlite.specs.View.{doubt}
use Rattle.vault_core.specs.Keys.{Bytes}
use Rattle.vault_core.specs.declared.row.Entry.{Entry}
use Rattle.vault_schema.proofs.Newest.{next_has_cards}
use Rattle.vault_schema.specs.Layers.{Either}
use Rattle.vault_schema.specs.Versions.{AreOf, HoldsOf, Lookups, next_of}
use Rattle.vault_schema.specs.declared.version.Version.{Version}
use Rattle.vault_steps.specs.Entries.{AreEntriesOf, AreFor, AreSome}

-- a step from a version that a step led to is given nothing
for_next : (v : Version) (xs : List (Bytes × Bytes × Entry)) (h : Lookups) → AreFor (next_of v) xs h
for_next v xs h = subst (λ b. Either b (Unit {0}) (AreEntriesOf xs h)) (sym (next_has_cards v)) tt

pub nothing_given : (before v : Version) → v ≡ next_of before
    → (xs : List (Bytes × Bytes × Entry)) (h : Lookups) → AreFor v xs h
nothing_given before v led xs h = subst (λ (w : Version). AreFor w xs h) (sym led) (for_next before xs h)

-- one version or the next is some version
pub some_of : (v : Version) (h : Lookups) (db : Trees) → AreOf v h db ⊎ AreOf (next_of v) h db
    → AreSome h db
some_of v h db (inl was) = (v, was)
some_of v h db (inr now) = (next_of v, now)

-- Steps have led from a version to one that another leads to. What was held stands in it; and what a crash
-- leaves stands in some version, where what one left before the steps does.
pub record HasClimbed (from to : Version) (old new : State) (inside : Bool) : Type 0 where
  pub idle : inside ≡ false
  pub clean : doubt old.is_clean ≤ doubt new.is_clean
  pub before : Version
  pub led : to ≡ next_of before
  pub stands : HasCleanDisk new → (h : Lookups) → HoldsOf from h old → HoldsOf to h new
  pub left : HasCleanDisk new → (h : Lookups) → HoldsOf from h old
      → ((db : Trees) → old.may_leave db → AreSome h db) → (db : Trees) → new.may_leave db → AreSome h db
