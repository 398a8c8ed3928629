-- Rows whose rowids rise are apart, and rows in the order of their rowids that are apart rise.
use Rattle.std.proofs.Common.{◌≡◌, ℕ, ◌+◌, ◌<◌, ℤ, List, [], ◌∷◌, map, length, get_or, sym, ap, ap₂, subst}
use Rattle.std.proofs.Common.{zero, suc, ◌∙◌}
use Rattle.std.proofs.Common.{◌&&◌, arith, Bool, true, false, Less, Equal, Greater, refl}
use Rattle.std.specs.FinMap.{int_cmp-IsAntisymmetric}
use Rattle.std.specs.List.{IsAllAdjacentAnswer}
use Rattle.std.specs.List.Sorted.{IsSortedByKey}
use Rattle.std.specs.Ordering.{int_cmp, is_lt}
use Rattle.std.specs.Prelude.{◌≢◌, int_lt}
use Rattle.std.proofs.lemmas.Cmp.{int_cmp_total, int_ranked, tied_itself}
use Rattle.std.proofs.lemmas.Int.{ints}
use Rattle.std.proofs.lemmas.List.{get_or-map, length-map}
use Rattle.sqlite.specs.Order.{Row, value_cmp}
use Rattle.sqlite.specs.Tree.{IsAscending, rowid}
use Rattle.sqlite.specs.declared.types.Value.TheVariants.{Int}
use Rattle.sqlite_rules.proofs.ListLemmas.{all_has, all_from}
use Rattle.sqlite_rules.proofs.ProbeLemmas.{has_mapped}
use Rattle.sqlite_value.proofs.OrderLemmas.{value_cmp-Int}
use Rattle.sql_tables.specs.Rows.{IsApart}
use Rattle.vault_verdict.specs.Apart.{TellsApart}
use Rattle.vault_rules.specs.RisingNumbers.{are_rising}
use Rattle.std.specs.Prelude.{◌<ℤ◌}

-- what is below isn't tied, and what isn't below and isn't above is
never_tied : (a b : ℤ) → a <ℤ b → value_cmp (Int a) (Int b) ≢ Equal
never_tied a b low e =
    let same : a ≡ b = int_cmp-IsAntisymmetric a b (sym (value_cmp-Int a b) ∙ e) in
    omega (arith, ints, low, same)

tied : (a b : ℤ) → int_lt a b ≡ false → is_lt (int_cmp b a) ≡ false → value_cmp (Int a) (Int b) ≡ Equal
tied a b above below = elim (int_cmp b a) as (λ o. o ≡ int_cmp b a → value_cmp (Int a) (Int b) ≡ Equal) [
  | Less ↦ λ e. let off = ap is_lt e ∙ below in cc
  | Equal ↦ λ e. let same : a ≡ b = sym (int_ranked b a Equal e) in
      value_cmp-Int a b ∙ ap (λ z. int_cmp z b) same ∙ tied_itself int_cmp_total b
  | Greater ↦ λ e. let low : a <ℤ b = int_ranked b a Greater e in absurd (omega (arith, ints, above, low))
] refl

-- each of an ascending list is below the next
ascends_at : {X : Type 0} (Below : X → X → Type 0) (xs : List X) → IsAscending Below xs → (k : ℕ) (d : X)
    → k + 1 < length xs → Below (get_or xs k d) (get_or xs (k + 1) d)
ascends_at Below [] up k d low = absurd (omega (arith, low))
ascends_at Below (x ∷ []) up k d low = absurd (omega (arith, low))
ascends_at Below (x ∷ y ∷ xs) up zero d low = up.0.0
ascends_at Below (x ∷ y ∷ xs) up (suc k) d low =
    let next : suc (k + 1) ≡ suc k + 1 = omega arith in
    subst (λ j. Below (get_or (y ∷ xs) k d) (get_or (x ∷ y ∷ xs) j d)) next
    (ascends_at Below (y ∷ xs) up.1 k d (omega (arith, low)))

module _ {R : Type 0} (id : R → ℤ) where
  -- what is answered of each row and the next
  abbrev pub IsRisingAnswer : List R → Bool → Type 0
  IsRisingAnswer raws b = IsAllAdjacentAnswer (λ x y r. r ≡ int_lt (id x) (id y)) raws b

  climbs : (raws : List R) → IsRisingAnswer raws true → IsAscending (λ a b. id a <ℤ id b) raws
  climbs [] told = tt
  climbs (m ∷ []) told = (tt, tt)
  climbs (m ∷ n ∷ raws) told =
      let test : true ≡ int_lt (id m) (id n) = told 0 m (omega arith) in
      let first : id m <ℤ id n = omega (arith, ints, test) in
      let rest = climbs (n ∷ raws) (λ k d low.
      let next : suc (k + 1) ≡ suc k + 1 = omega arith in
      subst (λ j. true ≡ int_lt (id (get_or (n ∷ raws) k d)) (id (get_or (m ∷ n ∷ raws) j d))) (sym next)
      (told (suc k) d (omega (arith, low)))) in (
        (
          first,
          all_from _ raws
              (λ r h. let later = all_has _ raws r rest.0 h in omega (arith, ints, first, later)),
        ),
        rest,
      )

  module _ (values : R → Row) (is : (m : R) → rowid (values m) ≡ Int (id m)) where
    pub climbs_apart : (raws : List R) → IsAscending (λ a b. id a <ℤ id b) raws → IsApart (map values raws)
    climbs_apart [] up = tt
    climbs_apart (m ∷ raws) up = (
      all_from _ (map values raws) (λ r h e. let it = has_mapped values raws r h in
          never_tied (id m) (id it.0) (all_has _ raws it.0 up.0 it.1)
          (sym (ap₂ value_cmp (is m) (ap rowid it.2 ∙ is it.0)) ∙ e)),
      climbs_apart raws up.1,
    )

    -- what is answered of each row and the next tells that they are apart
    pub tells_apart : (raws : List R) (b : Bool) → IsRisingAnswer raws b → TellsApart values id raws b
    tells_apart raws true told = record {
      apart = λ so. climbs_apart raws (climbs raws told);
      only = λ sorted apart. refl;
    }
    tells_apart [] false told = absurd (omega (arith, told.1))
    tells_apart (m ∷ raws) false told = record {
      apart = λ so. absurd (let clash = so in cc);
      only = λ sorted apart.
          let all = m ∷ raws in let k = told.0 in
          let low : k + 1 < length (map values all) =
          subst (λ n. k + 1 < n) (sym (length-map all values)) told.1 in
          let this = get_or-map values all k m (values m) (omega (arith, told.1)) in
          let next = get_or-map values all (k + 1) m (values m) told.1 in
          absurd
          (ascends_at (λ a b. value_cmp (rowid a) (rowid b) ≢ Equal) (map values all) apart k (values m) low
          (ap₂ value_cmp (ap rowid this ∙ is _) (ap rowid next ∙ is _)
          ∙ tied _ _ (sym (told.2 m)) (sorted k m (omega arith) told.1)));
    }

-- what is told of numbers that came one after the other is what is answered of each row and the next
rising_answer : {R : Type 0} (id : R → ℤ) (raws : List R) → IsRisingAnswer id raws (are_rising (map id raws))
rising_answer id [] = λ k d low. absurd (omega (arith, low))
rising_answer id (m ∷ []) = λ k d low. absurd (omega (arith, low))
rising_answer {R} id (m ∷ n ∷ raws) =
    go (int_lt (id m) (id n)) refl (are_rising (map id (n ∷ raws))) (rising_answer id (n ∷ raws))
  where
    go : (b : Bool) → int_lt (id m) (id n) ≡ b → (rest : Bool) → IsRisingAnswer id (n ∷ raws) rest
        → IsRisingAnswer id (m ∷ n ∷ raws) (b && rest)
    go true is true told = step
      where
        step : (k : ℕ) (d : R) → k + 1 < length (m ∷ n ∷ raws)
            → true ≡ int_lt (id (get_or (m ∷ n ∷ raws) k d)) (id (get_or (m ∷ n ∷ raws) (k + 1) d))
        step zero d low = sym is
        step (suc k) d low =
            let next : suc (k + 1) ≡ suc k + 1 = omega arith in
            subst (λ j. true ≡ int_lt (id (get_or (n ∷ raws) k d)) (id (get_or (m ∷ n ∷ raws) j d))) next
            (told k d (omega (arith, low)))
    go true is false told = (
      suc told.0,
      omega (arith, told.1),
      λ d.
          let next : suc (told.0 + 1) ≡ suc told.0 + 1 = omega arith in
          subst (λ j. false ≡ int_lt (id (get_or (n ∷ raws) told.0 d)) (id (get_or (m ∷ n ∷ raws) j d))) next
          (told.2 d),
    )
    go false is rest told = (zero, omega arith, λ d. sym is)

-- so it tells that the rows are apart
pub rising_apart : {R : Type 0} (id : R → ℤ) (values : R → Row) → ((m : R) → rowid (values m) ≡ Int (id m))
    → (raws : List R) (b : Bool) → b ≡ are_rising (map id raws) → TellsApart values id raws b
rising_apart id values is raws b same =
    subst (TellsApart values id raws) (sym same)
    (tells_apart id values is raws (are_rising (map id raws)) (rising_answer id raws))

not_less : (a b : ℤ) → a <ℤ b → is_lt (int_cmp b a) ≡ false
not_less a b low = elim (int_cmp b a) as (λ o. o ≡ int_cmp b a → is_lt o ≡ false) [
  | Less ↦ λ e. let high : b <ℤ a = int_ranked b a Less e in absurd (omega (arith, ints, low, high))
  | Equal ↦ λ e. refl
  | Greater ↦ λ e. refl
] refl

-- rows that climb are in order
pub climbs_sorted : {R : Type 0} (id : R → ℤ) (raws : List R) → IsAscending (λ a b. id a <ℤ id b) raws
    → IsSortedByKey id int_cmp raws
climbs_sorted id raws up k d least low =
    not_less _ _ (ascends_at (λ a b. id a <ℤ id b) raws up k d low)

-- and rows in order that are apart climb
pub rows_climb : {R : Type 0} (id : R → ℤ) (values : R → Row) → ((m : R) → rowid (values m) ≡ Int (id m))
    → (raws : List R) → IsSortedByKey id int_cmp raws → IsApart (map values raws)
    → IsAscending (λ a b. id a <ℤ id b) raws
rows_climb id values is raws sorted apart =
    let told : are_rising (map id raws) ≡ true = (rising_apart id values is raws _ refl).only sorted apart in
    climbs id raws (subst (IsRisingAnswer id raws) told (rising_answer id raws))
