-- Rows determine what is looked up in them.
use Rattle.std.proofs.Common.{◌≡◌, ℤ, List, ◌∷◌, drop, Option, Some, None, Ordering, refl, sym, ap, ◌∙◌}
use Rattle.sqlite.specs.Order.{Row}
use Rattle.sqlite.specs.declared.types.Value.TheVariants.{Int}
use Rattle.sql_tables.proofs.ByKey.{Coding}
use Rattle.sql_tables.specs.Rows.{AreRowsById, AreRowsOf}

-- two that have the same are one
pub both_ways : {X : Type 0} (a b : Option X) → ((x : X) → a ≡ Some x → b ≡ Some x)
    → ((x : X) → b ≡ Some x → a ≡ Some x) → a ≡ b
both_ways (Some x) b to from = sym (to x refl)
both_ways None (Some y) to from = from y refl
both_ways None None to from = refl

int_told : (m n : ℤ) (r s : Row) → Int m ∷ r ≡ Int n ∷ s → m ≡ n
int_told m n r s e = cc

-- rows tell what is found at each key
module _ {K X : Type 0} {cmp : K → K → Ordering} {encode : K → X → Row} (coding : Coding cmp encode)
    {rows : List Row} where
  shared : {f g : K → Option X} → AreRowsOf encode rows f → AreRowsOf encode rows g
      → (k : K) (x : X) → f k ≡ Some x → g k ≡ Some x
  shared {g = g} one other k x here =
      let row = one.complete k x here in
      let it = other.sound row.0 row.1 in
      let same = sym it.2 ∙ row.2 in
      ap g (sym (coding.key it.0 k it.1 x same)) ∙ it.3 ∙ ap (λ y. Some y) (coding.value it.0 k it.1 x same)

  pub same_lookups : {f g : K → Option X} → AreRowsOf encode rows f → AreRowsOf encode rows g
      → (k : K) → f k ≡ g k
  same_lookups one other k = both_ways _ _ (shared one other k) (shared other one k)

-- rows by their ids tell what is found at each id
module _ {X : Type 0} {value : X → Row} (back : (x y : X) → value x ≡ value y → x ≡ y) {rows : List Row} where
  shared_id : {f g : ℤ → Option X} → AreRowsById value rows f → AreRowsById value rows g
      → (n : ℤ) (x : X) → f n ≡ Some x → g n ≡ Some x
  shared_id {g = g} one other n x here =
      let it = other.sound _ (one.complete n x here) in
      let id : n ≡ it.0 = int_told n it.0 (value x) (value it.1) it.2 in
      ap g id ∙ it.3 ∙ ap (λ y. Some y) (sym (back x it.1 (ap (drop 1) it.2)))

  pub same_at_ids : {f g : ℤ → Option X} → AreRowsById value rows f → AreRowsById value rows g → f ≡ g
  same_at_ids one other = λ i n. both_ways _ _ (shared_id one other n) (shared_id other one n) i
