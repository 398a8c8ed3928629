-- Lists that rise: two with the same elements are one, and a sorted list without ties rises.
use Rattle.std.proofs.Common.{◌≡◌, ◌≢◌, ◌∙◌, ◌+◌, suc, List, [], ◌∷◌, get_or, sym, ap, ap₂, subst}
use Rattle.std.proofs.Common.{Less, Equal, Greater, Ordering, arith, false, inl, inr}
use Rattle.std.proofs.Common.{Bool, true≢false}
use Rattle.std.proofs.lemmas.Map.Keys.{IsDistinct-IsPermutation}
use Rattle.std.specs.Cmp.{IsTotalOrder, eq_by_cmp_equiv, tied_itself}
use Rattle.std.specs.List.{IsDistinct}
use Rattle.std.specs.List.Sorted.{IsPermutation, IsSorted}
use Rattle.std.specs.Ordering.{eq_by_cmp, is_eq, is_lt, ordering_reverse}
use Rattle.sqlite_rules.proofs.ListLemmas.{all_has, all_from}
use Rattle.sqlite_rules.specs.Lists.{Has}
use Rattle.sqlite.specs.Tree.{IsAscending}

module _ {X : Type 0} {cmp : X → X → Ordering} (total : IsTotalOrder cmp) where
  abbrev pub Rises : List X → Type 0
  Rises = IsAscending (λ a b. cmp a b ≡ Less)

  never_both : (a b : X) → cmp a b ≡ Less → cmp b a ≡ Less → ⊥
  never_both a b low high = let e = sym low ∙ total.antisymm a b ∙ ap ordering_reverse high in cc

  -- the first elements of two such lists
  heads : (x y : X) (xs ys : List X) → Rises (x ∷ xs) → Rises (y ∷ ys) → Has (y ∷ ys) x → Has (x ∷ xs) y
      → x ≡ y
  heads x y xs ys up up' (inl same) back = same
  heads x y xs ys up up' (inr later) (inl same) = sym same
  heads x y xs ys up up' (inr later) (inr sooner) =
      absurd (never_both y x (all_has _ ys x up'.0 later) (all_has _ xs y up.0 sooner))

  -- what is in the one list behind its first is behind the first of the other
  behind : (x y : X) (xs ys : List X) → Rises (x ∷ xs) → x ≡ y → (r : X) → Has xs r → Has (y ∷ ys) r
      → Has ys r
  behind x y xs ys up same r there (inl first) =
      absurd (let low = all_has _ xs r up.0 there in
      let tie = tied_itself total x in
      let e = sym tie ∙ ap (cmp x) (same ∙ sym first) ∙ low in cc)
  behind x y xs ys up same r there (inr later) = later

  pub same_rising : (xs ys : List X) → Rises xs → Rises ys → ((r : X) → Has xs r → Has ys r)
      → ((r : X) → Has ys r → Has xs r) → xs ≡ ys
  same_rising [] [] up up' there back = cc
  same_rising [] (y ∷ ys) up up' there back = absurd (back y (inl cc))
  same_rising (x ∷ xs) [] up up' there back = absurd (there x (inl cc))
  same_rising (x ∷ xs) (y ∷ ys) up up' there back =
      let same = heads x y xs ys up up' (there x (inl cc)) (back y (inl cc)) in
      let rest = same_rising xs ys up.1 up'.1
      (λ r h. behind x y xs ys up same r h (there r (inr h)))
      (λ r h. behind y x ys xs up' (sym same) r h (back r (inr h))) in
      ap₂ (λ a l. a ∷ l) same rest

  -- no two of them tie
  abbrev pub Untied : List X → Type 0
  Untied = IsAscending (λ a b. cmp a b ≢ Equal)

  below : (a b : X) → is_lt (cmp b a) ≡ false → cmp a b ≢ Equal → cmp a b ≡ Less
  below a b over untied = elim (cmp a b) as (λ o. cmp a b ≡ o → cmp a b ≡ Less) [
    | Less ↦ λ e. e
    | Equal ↦ λ e. absurd (untied e)
    | Greater ↦ λ e. let turned : cmp b a ≡ Less = total.antisymm b a ∙ ap ordering_reverse e in
        let clash = sym (ap is_lt turned) ∙ over in absurd cc
  ] cc

  pub sorted_rises : (xs : List X) → IsSorted cmp xs → Untied xs → Rises xs
  sorted_rises [] sorted untied = tt
  sorted_rises (x ∷ []) sorted untied = (tt, tt)
  sorted_rises (x ∷ y ∷ xs) sorted untied =
      let rest = sorted_rises (y ∷ xs) (λ k d from low.
      let next : suc k + 1 ≡ suc (k + 1) = omega arith in
      subst (λ j. is_lt (cmp (get_or (x ∷ y ∷ xs) j d) (get_or (y ∷ xs) k d)) ≡ false) next
      (sorted (suc k) d (omega arith) (omega (arith, low)))) untied.1 in
      let low = below x y (sorted 0 x (omega arith) (omega arith)) untied.0.0 in (
        (low, all_from _ xs (λ r h. total.trans x y r low (all_has _ xs r rest.0 h))),
        rest,
      )

  abbrev tied : X → X → Bool
  tied a b = eq_by_cmp cmp a b

  distinct_from : (xs : List X) → Untied xs → IsDistinct tied xs
  unfolding IsDistinct
  distinct_from [] up = tt
  distinct_from (x ∷ xs) up = (
    all_from _ xs (λ y h. unequal _ (all_has _ xs y up.0 h)),
    distinct_from xs up.1,
  )
    where
      unequal : (o : Ordering) → (o ≡ Equal → ⊥) → is_eq o ≡ false
      unequal o not = grind arith

  untied_from : (xs : List X) → IsDistinct tied xs → Untied xs
  unfolding IsDistinct
  untied_from [] up = tt
  untied_from (x ∷ xs) up = (
    all_from _ xs (λ y h e. true≢false (sym (ap is_eq e) ∙ all_has _ xs y up.0 h)),
    untied_from xs up.1,
  )

  -- that none tie does not hang on the order
  pub untied_permuted : (xs ys : List X) → IsPermutation xs ys → Untied xs → Untied ys
  untied_permuted xs ys same up =
      let flips = λ (a b : X). (eq_by_cmp_equiv total).symm a b in
      untied_from ys (IsDistinct-IsPermutation tied flips xs ys same (distinct_from xs up))
