-- That no rowid comes twice does not hang on the order of the rows.
use Rattle.std.proofs.Common.{◌≡◌, ◌≢◌, ◌∙◌, List, [], ◌∷◌, Equal, map}
use Rattle.std.specs.Cmp.{on_total}
use Rattle.std.specs.List.{AllByRecursion}
use Rattle.std.specs.List.Sorted.{IsPermutation}
use Rattle.sqlite.specs.Order.{Row, value_cmp}
use Rattle.sqlite.specs.Tree.{rowid}
use Rattle.sqlite_value.proofs.OrderLemmas.{value_cmp_total}
use Rattle.sql_tables.proofs.RisingLists.{untied_permuted}
use Rattle.sql_tables.specs.Rows.{IsApart}

-- rows of the same rowids are apart where the others are
pub apart_as : {R : Type 0} (f g : R → Row) → ((x : R) → rowid (f x) ≡ rowid (g x)) → (xs : List R)
    → IsApart (map f xs) → IsApart (map g xs)
apart_as f g same [] up = tt
apart_as {R} f g same (x ∷ xs) up = (each xs up.0, apart_as f g same xs up.1)
  where
    each : (rest : List R)
        → AllByRecursion (λ b. value_cmp (rowid (f x)) (rowid b) ≢ Equal) (map f rest)
        → AllByRecursion (λ b. value_cmp (rowid (g x)) (rowid b) ≢ Equal) (map g rest)
    each [] all = tt
    each (y ∷ rest) all = (
      λ e. all.0 ((λ i. value_cmp (same x i) (same y i)) ∙ e),
      each rest all.1,
    )

pub apart_permuted : (xs ys : List Row) → IsPermutation xs ys → IsApart xs → IsApart ys
apart_permuted = untied_permuted (on_total rowid value_cmp_total)
