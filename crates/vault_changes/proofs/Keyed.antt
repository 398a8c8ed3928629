-- Sets of keys that were put in one after the other.
use Rattle.std.proofs.Common.{◌≡◌, ℕ, ◌+◌, ◌<◌, List, [], ◌∷◌, ◌++◌, length, take, get_or, Bool, true, false}
use Rattle.std.proofs.Common.{cond, ap, sym, refl, ◌∙◌, ◌&&◌}
use Rattle.std.specs.Prelude.{◌||◌}
use Rattle.std.specs.BTreeMap.{is_at}
use Rattle.std.specs.BTreeSet.{BTreeSet, contains}
use Rattle.std.specs.List.{list_any}
use Rattle.std.specs.Ordering.{is_eq, ordering_then}
use Rattle.std.specs.declared.cmp.Ordering.{Ordering}
use Rattle.std.specs.declared.cmp.Ordering.TheVariants.{Less, Equal, Greater}
use Rattle.vault_changes.proofs.Lists.{one_further}

-- a key is there, or the others are as they were
or_is : (b x : Bool) → cond b true x ≡ (b || x)
or_is true x = refl
or_is false x = refl

swapped : (a b c : Bool) → (a || (b || c)) ≡ (b || (a || c))
swapped true true c = refl
swapped true false c = refl
swapped false b c = refl

-- one of the items up to this one passes: it does, or one before it
module _ {X : Type 0} (p : X → Bool) where
  pushed : (ys : List X) (x : X) → list_any p (ys ++ x ∷ []) ≡ (p x || list_any p ys)
  pushed [] x = refl
  pushed (y ∷ ys) x = ap (λ b. p y || b) (pushed ys x) ∙ swapped (p y) (p x) (list_any p ys)

  any_further : (xs : List X) (i : ℕ) (x : X) → x ≡ get_or xs i x → i < length xs
      → list_any p (take (i + 1) xs) ≡ (p x || list_any p (take i xs))
  any_further xs i x is below = ap (list_any p) (one_further xs i x is below) ∙ pushed (take i xs) x

-- two keys are the same where both their parts are
pub both_equal : (a b : Ordering) → is_eq (ordering_then a b) ≡ (is_eq a && is_eq b)
both_equal Less b = refl
both_equal Equal b = refl
both_equal Greater b = refl

-- the set has one key more
abbrev pub Puts : {K : Type 0} → (K → K → Ordering) → BTreeSet K → BTreeSet K → K → Type 0
Puts {K = K} cmp old new key =
    (k : K) → contains cmp new k ≡ cond (is_at (cmp key) k) true (contains cmp old k)

-- A set is asked for the key of a question, and has it where an item passes that the question is put to.
module _ {X Q K : Type 0} (cmp : K → K → Ordering) (key_of : X → K) (asked : Q → K) (p : Q → X → Bool)
    (tied : (x : X) (q : Q) → is_eq (cmp (key_of x) (asked q)) ≡ p q x) where
  -- so it is of the items before one, and of that one
  pub keyed_further : (old new : BTreeSet K) (xs : List X) (i : ℕ) (x : X)
      → x ≡ get_or xs i x → i < length xs → Puts cmp old new (key_of x)
      → ((q : Q) → contains cmp old (asked q) ≡ list_any (p q) (take i xs))
      → (q : Q) → contains cmp new (asked q) ≡ list_any (p q) (take (i + 1) xs)
  keyed_further old new xs i x is below put before q =
      put (asked q)
      ∙ ap (λ b. cond b true (contains cmp old (asked q))) (tied x q)
      ∙ or_is (p q x) (contains cmp old (asked q))
      ∙ ap (λ b. p q x || b) (before q)
      ∙ sym (any_further (p q) xs i x is below)
