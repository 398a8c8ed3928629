-- A key that is UNIQUE comes once, whatever the table.
use Rattle.std.proofs.Common.{◌≡◌, inl, ℕ, ℤ, ◌∷◌, true, false, not, ◌&&◌, refl, sym, ap, subst, ◌∙◌}
use Rattle.std.proofs.Common.{true≢false, slice_get, Some, is_eq, int_cmp, arith, List}
use Rattle.sql_tables.proofs.KeyTests.{equal_is}
use Rattle.std.proofs.lemmas.Bool.{and_from, and_parts}
use Rattle.std.specs.FinMap.{int_cmp-IsAntisymmetric}
use Rattle.sqlite.specs.Effect.{Database, IsDatabase}
use Rattle.sqlite.specs.Ops.{binary}
use Rattle.sqlite.specs.Order.{Row}
use Rattle.sqlite.specs.Schema.{Schema}
use Rattle.sqlite.specs.Tree.{rowid}
use Rattle.sqlite.specs.declared.types.Value.TheVariants.{Int}
use Rattle.sqlite_rules.specs.Keys.{aims}
use Rattle.sqlite_rules.specs.Lists.{Has}
use Rattle.sqlite_rules.proofs.ListLemmas.{has_filtered, has_got, test_has, some_from}
use Rattle.sqlite_rules.proofs.RuleLemmas.{keeps_at}
use Rattle.sqlite_schema.specs.Rules.{agree, differ, clashes, guards}
use Rattle.sqlite_schema.specs.declared.schema.Constraint.TheVariants.{Unique}
use Rattle.sqlite_schema.specs.declared.schema.Index.{Index}
use Rattle.sqlite_value.proofs.OrderLemmas.{value_cmp-Int}
use Rattle.sql_tables.specs.Schema.{Descriptor, table_of}
use Rattle.sql_tables.specs.Maps.{IsGuarded}
use Rattle.sql_tables.proofs.Keys.{agree_are, same_at}

differ_ints : (a b : ℤ) → is_eq (int_cmp a b) ≡ false → differ (Int a) (Int b) ≡ true
unfolding binary
differ_ints a b e = rw value_cmp-Int (grind arith)

module _ (s : Schema) (db : Database) (has : db.schema ≡ s) (sound : IsDatabase db) (d : Descriptor)
    (place : ℕ) (here : slice_get s.tables place ≡ Some (table_of d)) where
  -- rows that agree on the columns of a unique index have one rowid
  pub one_rowid : (i : Index) → Has s.indexes i → guards i (table_of d) ≡ true → (a b : ℤ) (r o : Row)
      → Has (db.trees d.tree) (Int a ∷ r) → Has (db.trees d.tree) (Int b ∷ o)
      → agree i.order i.columns (Int a ∷ r) i.columns (Int b ∷ o) ≡ true → a ≡ b
  one_rowid i listed guarded a b r o one two same =
      let unique = keeps_at Unique db.schema db.trees (table_of d) (Int b ∷ o) (sound.obeys.rules Unique)
      (subst (λ (it : Schema). Has it.tables (table_of d)) (sym has)
      (has_got s.tables place (table_of d) here)) two in
      let clear =
      test_has (λ i. not
      (guards i (table_of d) && clashes i.order i.columns (db.trees d.tree) (Int b ∷ o)))
      db.schema.indexes i unique (subst (λ (it : Schema). Has it.indexes i) (sym has) listed) in
      elim (is_eq (int_cmp a b)) as (λ it. is_eq (int_cmp a b) ≡ it → a ≡ b) [
        | true ↦ λ e. int_cmp-IsAntisymmetric a b (equal_is _ e)
        | false ↦ λ e. absurd (clash clear (differ_ints a b e))
      ] refl
    where
      clash : not (guards i (table_of d) && clashes i.order i.columns (db.trees d.tree) (Int b ∷ o)) ≡ true
          → differ (Int a) (Int b) ≡ true → ⊥
      clash clear other =
          let hit =
          some_from (λ z. agree i.order i.columns z i.columns (Int b ∷ o) && differ (rowid z) (Int b))
          (db.trees d.tree) (Int a ∷ r) one (and_from _ _ same other) in
          true≢false (sym clear ∙ ap not (and_from _ _ guarded hit))

  -- the same by the places of the columns
  pub one_at_key : (key : List ℕ) → IsGuarded s.indexes (table_of d) key → (a b : ℤ) (r o : Row)
      → Has (db.trees d.tree) (Int a ∷ r) → Has (db.trees d.tree) (Int b ∷ o)
      → same_at key (Int a ∷ r) (Int b ∷ o) ≡ true → a ≡ b
  one_at_key key g a b r o one two same =
      let kept = has_filtered (λ i. guards i (table_of d) && aims (Some key) i.columns) s.indexes g.index
      (subst (λ l. Has l g.index) (sym g.only) (inl refl)) in
      one_rowid g.index kept.0 (and_parts _ _ kept.1).0 a b r o one two
      ((λ i. agree (g.order i) (g.columns i) (Int a ∷ r) (g.columns i) (Int b ∷ o))
      ∙ agree_are key (Int a ∷ r) (Int b ∷ o) ∙ same)
