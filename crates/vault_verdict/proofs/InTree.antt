-- The rows of a table, and what was read of them.
use Rattle.std.proofs.Common.{◌≡◌, List, [], ◌∷◌, map, Equal, inl, inr, refl}
use Rattle.std.proofs.lemmas.List.Sorted.{IsPermutation-sym}
use Rattle.std.specs.List.Sorted.{IsPermutation}
use Rattle.sqlite.specs.Order.{Row, value_cmp}
use Rattle.sqlite.specs.Tree.{rowid}
use Rattle.sqlite_rules.specs.Lists.{Has}
use Rattle.sqlite_rules.proofs.ListLemmas.{all_has}
use Rattle.sqlite_rules.proofs.ProbeLemmas.{has_mapped, mapped_has}
use Rattle.sql_tables.proofs.Answers.{has_permuted}
use Rattle.sql_tables.specs.Rows.{IsApart}
use Rattle.vault_rules.specs.VaultOf.{AreKeysApart}

module _ {R : Type 0} (stands : R → Row) where
  module _ {tree : List Row} (items : List R) (same : IsPermutation tree (map stands items)) where
    -- what was read is there, and what is there was read
    pub in_tree : (m : R) → Has items m → Has tree (stands m)
    in_tree m h = has_permuted _ tree _ (IsPermutation-sym _ _ same) (mapped_has stands items m h)

    pub in_items : (r : Row) → Has tree r → (m : R) × Has items m × (r ≡ stands m)
    in_items r h = has_mapped stands items r (has_permuted tree _ r same h)

  -- rows of which none share a rowid have keys that are apart, where rows of one key share their rowid
  pub keys_by_rowid : {Q : Type 0} (shown : R → Q) (raws : List R) → IsApart (map stands raws)
      → ((a b : R) → Has raws a → Has raws b → shown a ≡ shown b
      → value_cmp (rowid (stands a)) (rowid (stands b)) ≡ Equal) → AreKeysApart shown raws
  keys_by_rowid shown [] up ties = tt
  keys_by_rowid shown (m ∷ raws) up ties = (
    λ s h e. all_has _ _ _ up.0 (mapped_has stands raws s h) (ties m s (inl refl) (inr h) e),
    keys_by_rowid shown raws up.1 (λ a b h g. ties a b (inr h) (inr g)),
  )
