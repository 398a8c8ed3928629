-- The place of the first that passes a test, and what a binary search among numbers that rise finds.
use Rattle.std.proofs.Common.{◌≡◌, ◌∙◌, ◌+◌, ◌<◌, ◌≤◌, ◌∷◌, [], ℕ, ℤ, suc, zero, Bool, true, false, cond}
use Rattle.std.proofs.Common.{List, Option, Some, None, Result, Ok, Err, length, map, option_map, refl, sym}
use Rattle.std.proofs.Common.{ap}
use Rattle.std.proofs.Common.{get_or, not, arith, subst, ◌⊎◌, inl, inr, ⊎_elim}
use lib.Signed.{<ℤ_irrefl}
use Rattle.std.proofs.lemmas.Bool.{and_parts}
use Rattle.std.specs.Cmp.{int_chain, int_cmp_is, int_ranked}
use Rattle.std.specs.Int.RustNames.{int_lt}
use Rattle.std.specs.List.{position_or_len}
use Rattle.std.specs.List.Sorted.{IsBinarySearchResult, IsNonDecreasingBy, IsSearchInRange}
use Rattle.std.specs.Ordering.{int_cmp, int_eq, is_eq, ordering_index}
use Rattle.std.specs.Prelude.{nat_lt, position, slice_get, ◌<ℤ◌}
use Rattle.std.specs.Result.{result_ok}
use Rattle.std.specs.declared.cmp.Ordering.{Ordering}
use Rattle.std.specs.declared.cmp.Ordering.TheVariants.{Less, Equal, Greater}
use Rattle.vault_core.proofs.Finds.{some_same}
use Rattle.std.proofs.lemmas.Bool.Decides.{nat_tests}
use Rattle.vault_rules.proofs.Numbers.{below_from, below_is}
use Rattle.vault_rules.proofs.Options.{mapped_is}
use Rattle.vault_rules.specs.RisingNumbers.{are_rising}

pub position_step : {X : Type 0} (p : X → Bool) (x : X) (xs : List X)
    → position p (x ∷ xs) ≡ cond (p x) (Some 0) (option_map suc (position p xs))
position_step p x xs =
    elim (p x) as (λ b.
    cond (nat_lt (cond (not b) (1 + position_or_len p xs) 0) (length (x ∷ xs)))
    (Some (cond (not b) (1 + position_or_len p xs) 0)) None
    ≡ cond {A = Option ℕ} b (Some 0) (option_map suc (position p xs))) [
      | true ↦ first (nat_lt 0 (length (x ∷ xs))) (below_from 0 (length (x ∷ xs)) (omega arith))
      | false ↦
          let n = position_or_len p xs in
          let one : 1 + n ≡ suc n = omega arith in
          let same : nat_lt (1 + n) (length (x ∷ xs)) ≡ nat_lt n (length xs) = grind (arith, nat_tests) in
          (λ i. cond (same i) (Some (one i)) None) ∙ later (nat_lt n (length xs))
    ]
  where
    first : (b : Bool) → b ≡ true → cond {A = Option ℕ} b (Some 0) None ≡ Some 0
    first b is = ap (λ t. cond {A = Option ℕ} t (Some 0) None) is

    later : (b : Bool) → cond {A = Option ℕ} b (Some (suc (position_or_len p xs))) None
        ≡ option_map suc (cond b (Some (position_or_len p xs)) None)
    later true = refl
    later false = refl

-- the place of the first of those that a function gives
pub position_mapped : {X Y : Type 0} (f : X → Y) (p : Y → Bool) (xs : List X)
    → position (λ x. p (f x)) xs ≡ position p (map f xs)
position_mapped f p [] = refl
position_mapped f p (x ∷ xs) =
    position_step (λ x. p (f x)) x xs
    ∙ ap (λ o. cond (p (f x)) (Some 0) (option_map suc o)) (position_mapped f p xs)
    ∙ sym (position_step p (f x) (map f xs))

-- what stands at the place of the first passes
pub found_there : {X : Type 0} (p : X → Bool) (xs : List X) (i : ℕ) → position p xs ≡ Some i
    → (x : X) × (slice_get xs i ≡ Some x) × (p x ≡ true)
found_there p [] i is = absurd cc
found_there p (x ∷ xs) i is =
    elim (p x) as (λ b. p x ≡ b → cond {A = Option ℕ} b (Some 0) (option_map suc (position p xs)) ≡ Some i
    → (y : _) × (slice_get (x ∷ xs) i ≡ Some y) × (p y ≡ true)) [
      | true ↦ λ passes first. (x, ap (slice_get (x ∷ xs)) (sym (some_same first)), passes)
      | false ↦ λ fails later.
          let it = mapped_is suc (position p xs) i later in
          let rest = found_there p xs it.0 it.1 in
          (rest.0, ap (slice_get (x ∷ xs)) (sym it.2) ∙ rest.1, rest.2)
    ] refl (sym (position_step p x xs) ∙ is)

-- there is none where none passes
pub nowhere : {X : Type 0} (p : X → Bool) (xs : List X)
    → ((i : ℕ) (d : X) → i < length xs → p (get_or xs i d) ≡ false) → position p xs ≡ None
nowhere p [] none = refl
nowhere p (x ∷ xs) none =
    let rest = nowhere p xs (λ i d inside. none (suc i) d (omega (arith, inside))) in
    position_step p x xs
    ∙ (λ i. cond (none 0 x (omega arith) i) (Some 0) (option_map suc (rest i)))

-- the first that passes stands where all before it fail
pub first_is : {X : Type 0} (p : X → Bool) (xs : List X) (i : ℕ) → i < length xs
    → ((d : X) → p (get_or xs i d) ≡ true)
    → ((j : ℕ) (d : X) → j < i → p (get_or xs j d) ≡ false) → position p xs ≡ Some i
first_is p [] i inside passes fail = absurd (omega (arith, inside))
first_is p (x ∷ xs) zero inside passes fail =
    position_step p x xs ∙ ap (λ b. cond b (Some 0) (option_map suc (position p xs))) (passes x)
first_is p (x ∷ xs) (suc i) inside passes fail =
    let rest = first_is p xs i (omega (arith, inside)) passes
    (λ j d before. fail (suc j) d (omega (arith, before))) in
    position_step p x xs
    ∙ (λ k. cond (fail 0 x (omega arith) k) (Some 0) (option_map suc (rest k)))

split : (i j : ℕ) → (i < j) ⊎ (j ≤ i)
split i j = go (nat_lt i j) refl
  where
    go : (b : Bool) → nat_lt i j ≡ b → (i < j) ⊎ (j ≤ i)
    go true is = inl (below_is i j is)
    go false is = inr (grind (arith, nat_tests))

lt_is : (a b : ℤ) → int_lt a b ≡ true → a <ℤ b
lt_is a b h = int_ranked a b Less (sym (ap (λ t. cond t Less (cond (int_lt b a) Greater Equal)) h))

less_is : (a b : ℤ) → a <ℤ b → int_cmp a b ≡ Less
less_is a b h = sym (int_cmp_is a b Less h)

module _ {X : Type 0} (key : X → ℤ) where
  -- of keys that rise, the first is below each later one
  below : (x : X) (xs : List X) → are_rising (key x ∷ map key xs) ≡ true
      → (i : ℕ) (d : X) → i < length xs → key x <ℤ key (get_or xs i d)
  below x [] rise i d inside = absurd (omega (arith, inside))
  below x (y ∷ ys) rise zero d inside = lt_is _ _ (and_parts _ _ rise).0
  below x (y ∷ ys) rise (suc i) d inside =
      let parts = and_parts (int_lt (key x) (key y)) (are_rising (key y ∷ map key ys)) rise in
      int_chain (key x) (key y) (key (get_or ys i d)) (lt_is _ _ parts.0)
      (below y ys parts.1 i d (omega (arith, inside)))

  rest_rise : (x : X) (xs : List X) → are_rising (key x ∷ map key xs) ≡ true → are_rising (map key xs) ≡ true
  rest_rise x [] rise = refl
  rest_rise x (y ∷ ys) rise = (and_parts _ _ rise).1

  -- each is below each later one
  apart : (xs : List X) → are_rising (map key xs) ≡ true
      → (i j : ℕ) (d : X) → i < j → j < length xs → key (get_or xs i d) <ℤ key (get_or xs j d)
  apart [] rise i j d before inside = absurd (omega (arith, inside))
  apart (x ∷ xs) rise i zero d before inside = absurd (omega (arith, before))
  apart (x ∷ xs) rise zero (suc j) d before inside = below x xs rise j d (omega (arith, inside))
  apart (x ∷ xs) rise (suc i) (suc j) d before inside =
      apart xs (rest_rise x xs rise) i j d (omega (arith, before)) (omega (arith, inside))

  module _ (id : ℤ) where
    abbrev rank : X → ℕ
    rank x = ordering_index (int_cmp (key x) id)

    -- a key that isn't above another ranks no higher
    ranked_below : (a b : ℤ) → a <ℤ b → ordering_index (int_cmp a id) ≤ ordering_index (int_cmp b id)
    ranked_below a b lower = go (int_cmp a id) (int_cmp b id) refl refl
      where
        go : (o p : Ordering) → int_cmp a id ≡ o → int_cmp b id ≡ p → ordering_index o ≤ ordering_index p
        go Less p at over = omega arith
        go Equal Less at over =
            absurd (<ℤ_irrefl (int_chain b id b (int_ranked b id Less (sym over))
            (subst (λ z. z <ℤ b) (int_ranked a id Equal (sym at)) lower)))
        go Equal Equal at over = omega arith
        go Equal Greater at over = omega arith
        go Greater Less at over =
            absurd (<ℤ_irrefl (int_chain b id b (int_ranked b id Less (sym over))
            (int_chain id a b (int_ranked a id Greater (sym at)) lower)))
        go Greater Equal at over =
            absurd (<ℤ_irrefl (int_chain b a b (subst (λ z. z <ℤ a) (sym (int_ranked b id Equal (sym over)))
            (int_ranked a id Greater (sym at))) lower))
        go Greater Greater at over = omega arith

    non_decreasing : (xs : List X) → are_rising (map key xs) ≡ true → IsNonDecreasingBy rank xs
    non_decreasing xs rise i j d upto inside =
        ⊎_elim
        (λ before. ranked_below (key (get_or xs i d)) (key (get_or xs j d))
        (apart xs rise i j d before inside))
        (λ same. let at : rank (get_or xs i d) ≡ rank (get_or xs j d) = ap (λ k. rank (get_or xs k d)) same in
        omega (arith, at))
        (parted i j upto)
      where
        parted : (i j : ℕ) → i ≤ j → (i < j) ⊎ (i ≡ j)
        parted i j upto = ⊎_elim (λ before. inl before) (λ after. inr (omega arith)) (split i j)

    -- what a binary search finds among keys that rise is the place of the first
    pub searched : (xs : List X) (r : Result ℕ ℕ) → are_rising (map key xs) ≡ true
        → IsSearchInRange r (length xs) → IsBinarySearchResult (λ x. int_cmp (key x) id) xs r
        → result_ok r ≡ position (λ x. int_eq (key x) id) xs
    searched xs (Ok i) rise inside at =
        sym (first_is (λ x. int_eq (key x) id) xs i inside (λ d. ap is_eq (at d))
        (λ j d before. ap is_eq (less_is (key (get_or xs j d)) id
        (subst (λ z. key (get_or xs j d) <ℤ z) (int_ranked (key (get_or xs i d)) id Equal (sym (at d)))
        (apart xs rise j i d before inside)))))
    searched xs (Err i) rise inside at =
        let parts = at (non_decreasing xs rise) in
        sym (nowhere (λ x. int_eq (key x) id) xs (λ j d within. ⊎_elim
        (λ before. ap is_eq (parts.0 j d (omega arith) before))
        (λ behind. ap is_eq (parts.1 j d behind within))
        (split j i)))
