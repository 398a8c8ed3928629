-- Keys that are apart, of lists that show the same.
use Rattle.std.proofs.Common.{◌≡◌, ◌≢◌, List, [], ◌∷◌, map, Option, Some, None, refl, sym, ap, subst, ◌∙◌}
use Rattle.std.proofs.Common.{inl, inr}
use Rattle.std.specs.List.{cons_option, filter_map}
use Rattle.sqlite_rules.proofs.ProbeLemmas.{has_mapped, mapped_has}
use Rattle.sqlite_rules.specs.Lists.{Has}
use Rattle.vault_rules.specs.VaultOf.{AreKeysApart}

to_mapped : {R S K : Type 0} (key : S → K) (f : R → S) (rows : List R) → AreKeysApart (λ r. key (f r)) rows
    → AreKeysApart key (map f rows)
to_mapped key f [] apart = tt
to_mapped key f (r ∷ rows) apart = (
  λ other h e. let it = has_mapped f rows other h in apart.0 it.0 it.1 (e ∙ ap key it.2),
  to_mapped key f rows apart.1,
)

of_mapped : {R S K : Type 0} (key : S → K) (f : R → S) (rows : List R) → AreKeysApart key (map f rows)
    → AreKeysApart (λ r. key (f r)) rows
of_mapped key f [] apart = tt
of_mapped key f (r ∷ rows) apart = (
  λ other h e. apart.0 (f other) (mapped_has f rows other h) e,
  of_mapped key f rows apart.1,
)

-- of two lists that show the same
pub same_apart : {A B S K : Type 0} (key : S → K) (f : A → S) (g : B → S) (xs : List A) (ys : List B)
    → map f xs ≡ map g ys → AreKeysApart (λ x. key (f x)) xs → AreKeysApart (λ y. key (g y)) ys
same_apart key f g xs ys same apart =
    of_mapped key g ys (subst (AreKeysApart key) same (to_mapped key f xs apart))

-- what tells more is apart too
pub apart_by : {R K L : Type 0} (key : R → K) (more : R → L) → ((a b : R) → more a ≡ more b → key a ≡ key b)
    → (rows : List R) → AreKeysApart key rows → AreKeysApart more rows
apart_by key more tells [] apart = tt
apart_by key more tells (r ∷ rows) apart = (
  λ other h e. apart.0 other h (tells r other e),
  apart_by key more tells rows apart.1,
)

-- what is kept of a list came from it
kept_first : {X Y : Type 0} (f : X → Option Y) (x : X) (xs : List X) (y : Y) (o : Option Y) → f x ≡ o
    → Has (cons_option o (filter_map f xs)) y
    → (Has (filter_map f xs) y → (z : X) × Has xs z × (f z ≡ Some y))
    → (z : X) × Has (x ∷ xs) z × (f z ≡ Some y)
kept_first f x xs y None is h from = let it = from h in (it.0, inr it.1, it.2)
kept_first f x xs y (Some w) is (inl same) from = (x, inl refl, is ∙ ap (λ v. Some v) (sym same))
kept_first f x xs y (Some w) is (inr later) from = let it = from later in (it.0, inr it.1, it.2)

pub has_kept : {X Y : Type 0} (f : X → Option Y) (xs : List X) (y : Y) → Has (filter_map f xs) y
    → (x : X) × Has xs x × (f x ≡ Some y)
has_kept f [] y h = absurd h
has_kept f (x ∷ xs) y h = kept_first f x xs y (f x) refl h (has_kept f xs y)

-- and what is given of an item is kept
kept_next : {Y : Type 0} (o : Option Y) (ys : List Y) (y : Y) → Has ys y → Has (cons_option o ys) y
kept_next None ys y h = h
kept_next (Some w) ys y h = inr h

pub kept_has : {X Y : Type 0} (f : X → Option Y) (xs : List X) (x : X) (y : Y) → Has xs x → f x ≡ Some y
    → Has (filter_map f xs) y
kept_has f [] x y h is = absurd h
kept_has f (z ∷ xs) x y (inl same) is = let first = ap f (sym same) ∙ is in rw first (inl refl)
kept_has f (z ∷ xs) x y (inr later) is = kept_next (f z) (filter_map f xs) y (kept_has f xs x y later is)

-- what is kept is apart by what tells the items apart
apart_next : {Y K : Type 0} (shown : Y → K) (o : Option Y) (ys : List Y)
    → ((y : Y) → o ≡ Some y → (other : Y) → Has ys other → shown y ≢ shown other) → AreKeysApart shown ys
    → AreKeysApart shown (cons_option o ys)
apart_next shown None ys first rest = rest
apart_next shown (Some y) ys first rest = (first y refl, rest)

pub kept_apart : {X Y K : Type 0} (f : X → Option Y) (key : X → K) (shown : Y → K)
    → ((x : X) (y : Y) → f x ≡ Some y → shown y ≡ key x) → (xs : List X) → AreKeysApart key xs
    → AreKeysApart shown (filter_map f xs)
kept_apart f key shown tells [] apart = tt
kept_apart f key shown tells (x ∷ xs) apart =
    apart_next shown (f x) (filter_map f xs) (λ y some other h e.
    let it = has_kept f xs other h in
    apart.0 it.0 it.1 (sym (tells x y some) ∙ e ∙ tells it.0 other it.2))
    (kept_apart f key shown tells xs apart.1)
