-- What serves each version at once: a version stands table by table and begins with those before it, no
-- later index guards an earlier key, and each table has a tree of its own.
use Rattle.std.proofs.Common.{◌≡◌, ◌++◌, ◌&&◌, ◌∙◌, ℕ, zero, suc, Bool, true, false, not, List, [], ◌∷◌, map}
use Rattle.std.proofs.Common.{append_assoc, cond, refl, sym}
use Rattle.std.proofs.lemmas.Bool.{and_parts}
use Rattle.std.proofs.lemmas.List.Elements.{filter-append}
use Rattle.std.specs.List.{list_all}
use Rattle.sqlite.specs.Table.{Table}
use Rattle.sqlite.specs.Tree.{Trees}
use Rattle.sqlite_schema.specs.declared.schema.Index.{Index}
use Rattle.sql_tables.specs.Schema.{Descriptor, are_apart, guards_of, is_none, is_plain, table_of}
use Rattle.sql_tables.specs.States.{StandsIn}
use Rattle.vault_schema.specs.Layers.{Layer, claim_in, claims_at, indexes_at, is_from, is_many, rank, said_if}
use Rattle.vault_schema.specs.Layers.{schema_at, tables_at}
use Rattle.vault_schema.specs.declared.version.Version.{Version}

-- ---- what came with an older version is in each later one

many_of_many : (k m n : ℕ) → is_many k m ≡ true → is_many m n ≡ true → is_many k n ≡ true
many_of_many zero m n first next = refl
many_of_many (suc k) zero n first next = absurd cc
many_of_many (suc k) (suc m) zero first next = absurd cc
many_of_many (suc k) (suc m) (suc n) first next = many_of_many k m n first next

pub from_both : (a b c : Version) → is_from a b ≡ true → is_from b c ≡ true → is_from a c ≡ true
from_both a b c first next = many_of_many (rank a) (rank b) (rank c) first next

not_true : (b : Bool) → not b ≡ true → b ≡ false
not_true true is = absurd cc
not_true false is = refl

module _ {T : Type 0} (w : Version) where
  -- the tables from the first one on that comes after a version
  abbrev pub layers_after : List (Layer T) → List (Layer T)
  layers_after [] = []
  layers_after (l ∷ ls) = cond (is_from l.since w) (layers_after ls) (l ∷ ls)

  -- all of them come after it
  abbrev pub are_after : List (Layer T) → Bool
  are_after [] = true
  are_after (l ∷ ls) = not (is_from l.since w) && are_after ls

  -- those that come after it stand last
  abbrev pub are_split : List (Layer T) → Bool
  are_split [] = true
  are_split (l ∷ ls) = cond (is_from l.since w) (are_split ls) (are_after (l ∷ ls))

  -- all of them come with it or after it
  abbrev pub are_since : List (Layer T) → Bool
  are_since [] = true
  are_since (l ∷ ls) = is_from w l.since && are_since ls

  none_yet : (ls : List (Layer T)) → are_after ls ≡ true → (tables_at w ls ≡ []) × (indexes_at w ls ≡ [])
  none_yet [] after = (refl, refl)
  none_yet (l ∷ ls) after =
      let both : (not (is_from l.since w) ≡ true) × (are_after ls ≡ true) = and_parts _ _ after in
      let none = none_yet ls both.1 in
      rw (not_true (is_from l.since w) both.0) none

module _ {T : Type 0} (w v : Version) where
  -- a later version has the tables and indexes of an older one, and behind them those that came since
  parts_from : (ls : List (Layer T)) → are_split w ls ≡ true → is_from w v ≡ true
      → (tables_at v ls ≡ tables_at w ls ++ tables_at v (layers_after w ls))
      × (indexes_at v ls ≡ indexes_at w ls ++ indexes_at v (layers_after w ls))
  parts_from [] split from = (refl, refl)
  parts_from (l ∷ ls) split from =
      elim (is_from l.since w) as (λ b. is_from l.since w ≡ b
      → cond b (are_split w ls) (are_after w (l ∷ ls)) ≡ true
      → (tables_at v (l ∷ ls)
      ≡ cond b (l.table ∷ tables_at w ls) (tables_at w ls)
      ++ tables_at v (cond b (layers_after w ls) (l ∷ ls)))
      × (indexes_at v (l ∷ ls)
      ≡ cond b (l.indexes ++ indexes_at w ls) (indexes_at w ls)
      ++ indexes_at v (cond b (layers_after w ls) (l ∷ ls)))) [
        | true ↦ λ has rest.
            let more = parts_from ls rest from in
            rw (from_both l.since w v has from) (
              λ i. l.table ∷ more.0 i,
              (λ i. l.indexes ++ more.1 i) ∙ sym (append_assoc l.indexes _ _),
            )
        | false ↦ λ none after.
            let both = and_parts (not (is_from l.since w)) (are_after w ls) after in
            let none = none_yet w ls both.1 in
            rw (none.0, none.1) (refl, refl)
      ] refl split

  pub tables_from : (ls : List (Layer T)) → are_split w ls ≡ true → is_from w v ≡ true
      → tables_at v ls ≡ tables_at w ls ++ tables_at v (layers_after w ls)
  tables_from ls split from = (parts_from ls split from).0

  pub indexes_from : (ls : List (Layer T)) → are_split w ls ≡ true → is_from w v ≡ true
      → indexes_at v ls ≡ indexes_at w ls ++ indexes_at v (layers_after w ls)
  indexes_from ls split from = (parts_from ls split from).1

  -- a version before this one has no table and no index that came with it or since
  none_before : (ls : List (Layer T)) → are_since w ls ≡ true → is_from w v ≡ false
      → (tables_at v ls ≡ []) × (indexes_at v ls ≡ [])
  none_before [] since none = (refl, refl)
  none_before (l ∷ ls) since none =
      let both : (is_from w l.since ≡ true) × (are_since w ls ≡ true) = and_parts _ _ since in
      elim (is_from l.since v) as (λ b. is_from l.since v ≡ b
      → (cond b (l.table ∷ tables_at v ls) (tables_at v ls) ≡ [])
      × (cond b (l.indexes ++ indexes_at v ls) (indexes_at v ls) ≡ [])) [
        | true ↦ λ has. absurd (let clash = sym none ∙ from_both w l.since v both.0 has in cc)
        | false ↦ λ has. none_before ls both.1 none
      ] refl

  pub no_tables : (ls : List (Layer T)) → are_since w ls ≡ true → is_from w v ≡ false → tables_at v ls ≡ []
  no_tables ls since none = (none_before ls since none).0

  pub no_indexes : (ls : List (Layer T)) → are_since w ls ≡ true → is_from w v ≡ false → indexes_at v ls ≡ []
  no_indexes ls since none = (none_before ls since none).1

-- ---- a version stands table by table

module _ {T : Type 0} (v : Version) (held : T) (db : Trees) where
  -- each table that is there is as is said of it
  abbrev pub HoldAt : List (Layer T) → Type 0
  HoldAt [] = Unit {0}
  HoldAt (l ∷ ls) = (is_from l.since v ≡ true → claim_in v l held (db l.table.tree)) × HoldAt ls

  pub stands_at : (ls : List (Layer T)) → HoldAt ls → StandsIn (tables_at v ls) (claims_at v ls held) db
  stands_at [] hold = tt
  stands_at (l ∷ ls) hold =
      elim (is_from l.since v) as (λ b. (b ≡ true → claim_in v l held (db l.table.tree))
      → StandsIn (cond b (l.table ∷ tables_at v ls) (tables_at v ls))
      (said_if b (claim_in v l held) (claims_at v ls held)) db) [
        | true ↦ λ said. (said refl, stands_at ls hold.1)
        | false ↦ λ said. stands_at ls hold.1
      ] hold.0

  -- and the other way round
  pub holds_at : (ls : List (Layer T)) → StandsIn (tables_at v ls) (claims_at v ls held) db → HoldAt ls
  holds_at [] stands = tt
  holds_at (l ∷ ls) stands =
      elim (is_from l.since v) as (λ b. StandsIn (cond b (l.table ∷ tables_at v ls) (tables_at v ls))
      (said_if b (claim_in v l held) (claims_at v ls held)) db
      → (b ≡ true → claim_in v l held (db l.table.tree)) × HoldAt ls) [
        | true ↦ λ it. (λ so. it.0, holds_at ls it.1)
        | false ↦ λ it. (λ so. absurd (let clash = so in cc), holds_at ls it)
      ] stands

-- ---- no later index guards an earlier key

both_empty : (xs ys : List Index) → xs ++ ys ≡ [] → (xs ≡ []) × (ys ≡ [])
both_empty [] ys none = (refl, none)
both_empty (x ∷ xs) ys none = absurd cc

module _ {T : Type 0} (v : Version) (d : Descriptor) (key : List ℕ) where
  -- the indexes of all layers that guard the key
  abbrev pub guards_in : List (Layer T) → List Index
  guards_in [] = []
  guards_in (l ∷ ls) = guards_of l.indexes (table_of d) key ++ guards_in ls

  pub free_in : (ls : List (Layer T)) → guards_in ls ≡ [] → guards_of (indexes_at v ls) (table_of d) key ≡ []
  free_in [] none = refl
  free_in (l ∷ ls) none =
      let both = both_empty (guards_of l.indexes (table_of d) key) (guards_in ls) none in
      elim (is_from l.since v) as (λ b. guards_of (cond b (l.indexes ++ indexes_at v ls) (indexes_at v ls))
      (table_of d) key ≡ []) [
        | true ↦ filter-append _ l.indexes (indexes_at v ls) ∙ (λ i. both.0 i ++ free_in ls both.1 i)
        | false ↦ free_in ls both.1
      ]

-- ---- each table of a version has a tree of its own and no foreign key, since all layers have

abbrev pub trees_of : {T : Type 0} → List (Layer T) → List ℕ
trees_of [] = []
trees_of (l ∷ ls) = l.table.tree ∷ trees_of ls

abbrev pub are_unbound : {T : Type 0} → List (Layer T) → Bool
are_unbound [] = true
are_unbound (l ∷ ls) = is_none l.table.references && are_unbound ls

module _ {T : Type 0} (v : Version) where
  all_trees : (p : ℕ → Bool) (ls : List (Layer T)) → list_all p (trees_of ls) ≡ true
      → list_all p (map (λ (t : Table). t.tree) (tables_at v ls)) ≡ true
  all_trees p [] all = refl
  all_trees p (l ∷ ls) all =
      let both : (p l.table.tree ≡ true) × (list_all p (trees_of ls) ≡ true) = and_parts _ _ all in
      elim (is_from l.since v) as (λ b. list_all p (map (λ (t : Table). t.tree)
      (cond b (l.table ∷ tables_at v ls) (tables_at v ls))) ≡ true) [
        | true ↦ rw (both.0, all_trees p ls both.1) refl
        | false ↦ all_trees p ls both.1
      ]

  apart_at : (ls : List (Layer T)) → are_apart (trees_of ls) ≡ true
      → are_apart (map (λ (t : Table). t.tree) (tables_at v ls)) ≡ true
  apart_at [] all = refl
  apart_at (l ∷ ls) all =
      let both = and_parts _ _ all in
      elim (is_from l.since v) as (λ b. are_apart (map (λ (t : Table). t.tree)
      (cond b (l.table ∷ tables_at v ls) (tables_at v ls))) ≡ true) [
        | true ↦ rw (all_trees _ ls both.0, apart_at ls both.1) refl
        | false ↦ apart_at ls both.1
      ]

  unbound_at : (ls : List (Layer T)) → are_unbound ls ≡ true
      → list_all (λ (t : Table). is_none t.references) (tables_at v ls) ≡ true
  unbound_at [] all = refl
  unbound_at (l ∷ ls) all =
      let both : (is_none l.table.references ≡ true) × (are_unbound ls ≡ true) = and_parts _ _ all in
      elim (is_from l.since v) as (λ b. list_all (λ (t : Table). is_none t.references)
      (cond b (l.table ∷ tables_at v ls) (tables_at v ls)) ≡ true) [
        | true ↦ rw (both.0, unbound_at ls both.1) refl
        | false ↦ unbound_at ls both.1
      ]

  pub plain_at : (ls : List (Layer T)) → are_apart (trees_of ls) ≡ true → are_unbound ls ≡ true
      → is_plain (schema_at v ls) ≡ true
  plain_at ls apart unbound = rw (apart_at ls apart, unbound_at ls unbound) refl
