-- The first row of a key, among one row more.
use Rattle.std.proofs.Common.{◌≡◌, ◌+◌, ◌<◌, ℕ, Bool, true, false, cond, List, [], ◌∷◌, ◌++◌, length, take}
use Rattle.std.proofs.Common.{get_or, Option, Some, None, Bor, refl, sym, ap, ◌∙◌, ◌&&◌}
use Rattle.std.specs.Ordering.{is_eq, ordering_then}
use Rattle.std.specs.declared.cmp.Ordering.{Ordering}
use Rattle.std.specs.declared.cmp.Ordering.TheVariants.{Less, Equal, Greater}
use Rattle.std.proofs.lemmas.List.{take_more}
use Rattle.std.proofs.lemmas.List.Folds.{find-append}
use Rattle.std.specs.List.{find}
use Rattle.std.specs.Option.{option_or, option_copied}

-- the rows up to an index, and the one that stands there
pub take_row : {R : Type 0} (xs : List R) (i : ℕ) (x : R) → i < length xs → x ≡ get_or xs i x
    → take (i + 1) xs ≡ take i xs ++ x ∷ []
take_row xs i x inside is = take_more xs i x inside ∙ ap (λ y. take i xs ++ y ∷ []) (sym is)

-- the first row stays, and else the one that is new is the first
find_more : {R : Type 0} (p : R → Bool) (xs : List R) (i : ℕ) (x : R) → i < length xs → x ≡ get_or xs i x
    → find p (take (i + 1) xs) ≡ option_or (find p (take i xs)) (cond (p x) (Some x) None)
find_more p xs i x inside is = ap (find p) (take_row xs i x inside is) ∙ find-append p (take i xs) (x ∷ [])

copied_or : {R : Type 0} (a : Option (Bor R)) (b : Bool) (x : Bor R)
    → option_copied (option_or a (cond b (Some x) None))
    ≡ option_or (option_copied a) (cond b (Some x.now) None)
copied_or None true x = refl
copied_or None false x = refl
copied_or (Some y) b x = refl

-- a map that has the first rows, after a row was put in where none was
pub first_more : {R : Type 0} (p : R → Bool) (xs : List R) (i : ℕ) (x : Bor R) (old new : Option (Bor R))
    (test : Bool)
    → i < length xs → x.now ≡ get_or xs i x.now → new ≡ option_or old (cond test (Some x) None)
    → test ≡ p x.now
    → option_copied old ≡ find p (take i xs) → option_copied new ≡ find p (take (i + 1) xs)
first_more p xs i x old new test inside is put same before =
    ap option_copied put ∙ copied_or old test x
    ∙ ap (λ o. option_or o (cond test (Some x.now) None)) before
    ∙ ap (λ b. option_or (find p (take i xs)) (cond b (Some x.now) None)) same
    ∙ sym (find_more p xs i x.now inside is)

-- a row that the test doesn't hold of is not the first
pub first_not : {R : Type 0} (p : R → Bool) (xs : List R) (i : ℕ) (x : R) (found : Option R)
    → i < length xs → x ≡ get_or xs i x → p x ≡ false
    → found ≡ find p (take i xs) → found ≡ find p (take (i + 1) xs)
first_not p xs i x found inside is not before =
    before
    ∙ sym (find_more p xs i x inside is
    ∙ ap (λ b. option_or (find p (take i xs)) (cond b (Some x) None)) not ∙ none (find p (take i xs)))
  where
    none : {A : Type 0} (o : Option A) → option_or o None ≡ o
    none None = refl
    none (Some y) = refl

-- a test beside one whose answer is known
pub and_true : (b k : Bool) → k ≡ true → b ≡ b && k
and_true true k e = sym e
and_true false k e = refl

pub and_false : (b k : Bool) → k ≡ false → b && k ≡ false
and_false true k e = e
and_false false k e = refl

pub both : (a b : Ordering) → is_eq (ordering_then a b) ≡ is_eq a && is_eq b
both Less b = refl
both Equal b = refl
both Greater b = refl
