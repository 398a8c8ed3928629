-- Lists of rows, one after another.
use Rattle.std.proofs.Common.{◌≡◌, ◌⊎◌, ◌↔◌, zero, suc, List, [], ◌∷◌, ◌++◌, Contains, refl, sym, ap}
use Rattle.std.proofs.Common.{◌∙◌, subst, inl, inr, arith, append_assoc, append-nil, Ordering, Less}
use Rattle.std.proofs.lemmas.List.Elements.{Contains-append_left, Contains-append_right}
use Rattle.std.proofs.lemmas.List.Elements.{Contains-append_cases}
use Rattle.std.specs.List.{AllByRecursion}
use Rattle.std.specs.List.Sorted.{IsStrictlySortedBy}
use Rattle.vault_rights.specs.Named.{Row, row_cmp, IsListOf, IsExtendedBy}

pub contains-head : {X : Type 0} (x : X) (xs : List X) → Contains (x ∷ xs) x
contains-head x xs = (0, omega arith, refl)

pub contains-nothing : {X : Type 0} (x : X) → ¬ Contains [] x
contains-nothing x (k, within, at) = absurd (omega arith)

pub contains-only : {X : Type 0} (x y : X) → Contains (x ∷ []) y → y ≡ x
contains-only x y (zero, within, at) = sym at
contains-only x y (suc k, within, at) = absurd (omega arith)

pub all-append : {X : Type 0} (P : X → Type 0) (xs ys : List X) → AllByRecursion P xs → AllByRecursion P ys
    → AllByRecursion P (xs ++ ys)
all-append P [] ys h k = k
all-append P (x ∷ xs) ys h k = (h.0, all-append P xs ys h.1 k)

pub all-contained : {X : Type 0} (P : X → Type 0) (xs : List X) → ((x : X) → Contains xs x → P x)
    → AllByRecursion P xs
all-contained P [] f = tt
all-contained P (x ∷ xs) f =
    (f x (contains-head x xs), all-contained P xs (λ y h. f y (Contains-append_right (x ∷ []) xs y h)))

pub sorted-append : {X : Type 0} (R : X → X → Ordering) (xs ys : List X) → IsStrictlySortedBy R xs
    → IsStrictlySortedBy R ys → ((a b : X) → Contains xs a → Contains ys b → R a b ≡ Less)
    → IsStrictlySortedBy R (xs ++ ys)
unfolding IsStrictlySortedBy
sorted-append R [] ys s t below = t
sorted-append R (x ∷ xs) ys s t below = (
  all-append (λ y. R x y ≡ Less) xs ys s.0
      (all-contained (λ y. R x y ≡ Less) ys (λ b h. below x b (contains-head x xs) h)),
  sorted-append R xs ys s.1 t (λ a b h k. below a b (Contains-append_right (x ∷ []) xs a h) k),
)

pub list-nil : (P : Row → Type 0) → ((row : Row) → ¬ P row) → IsListOf P []
unfolding IsStrictlySortedBy
list-nil P none = (tt, λ row. (λ h. absurd (contains-nothing row h), λ p. absurd (none row p)))

pub list-join : (P Q : Row → Type 0) (xs ys : List Row) → IsListOf P xs → IsListOf Q ys
    → ((a b : Row) → P a → Q b → row_cmp a b ≡ Less) → IsListOf (λ row. P row ⊎ Q row) (xs ++ ys)
list-join P Q xs ys (s, p) (t, q) below = (
  sorted-append row_cmp xs ys s t (λ a b h k. below a b ((p a).0 h) ((q b).0 k)),
  λ row. (
    λ h. elim (Contains-append_cases xs ys row h) [ inl l ↦ inl ((p row).0 l) | inr r ↦ inr ((q row).0 r) ],
    λ h. elim h [
      | inl l ↦ Contains-append_left xs ys row ((p row).1 l)
      | inr r ↦ Contains-append_right xs ys row ((q row).1 r)
    ],
  ),
)

pub list-same : (P Q : Row → Type 0) (xs : List Row) → IsListOf P xs → ((row : Row) → P row ↔ Q row)
    → IsListOf Q xs
list-same P Q xs (s, p) same =
    (s, λ row. (λ h. (same row).0 ((p row).0 h), λ h. (p row).1 ((same row).1 h)))

pub extended-nil : (P : Row → Type 0) (xs : List Row) → ((row : Row) → ¬ P row) → IsExtendedBy P xs xs
extended-nil P xs none = ([], sym (append-nil xs), list-nil P none)

pub extended-join : (P Q : Row → Type 0) (before middle after : List Row) → IsExtendedBy P before middle
    → IsExtendedBy Q middle after → ((a b : Row) → P a → Q b → row_cmp a b ≡ Less)
    → IsExtendedBy (λ row. P row ⊎ Q row) before after
extended-join P Q before middle after (xs, first, p) (ys, second, q) below =
    (xs ++ ys, second ∙ ap (λ t. t ++ ys) first ∙ append_assoc before xs ys, list-join P Q xs ys p q below)

pub extended-same : (P Q : Row → Type 0) (before after : List Row) → IsExtendedBy P before after
    → ((row : Row) → P row ↔ Q row) → IsExtendedBy Q before after
extended-same P Q before after (xs, is, p) same = (xs, is, list-same P Q xs p same)

pub list-one : (P : Row → Type 0) (row : Row) → ((other : Row) → P other ↔ (other ≡ row))
    → IsListOf P (row ∷ [])
unfolding IsStrictlySortedBy
list-one P row only = (
  (tt, tt),
  λ other. (
    λ h. (only other).1 (contains-only row other h),
    λ p. let same = (only other).0 p in (0, omega arith, sym same),
  ),
)

pub extended-along : (P : Row → Type 0) (before after end : List Row) → IsExtendedBy P before after
    → end ≡ after
    → IsExtendedBy P before end
extended-along P before after end (xs, is, p) same = (xs, same ∙ is, p)

pub list-whole : (P : Row → Type 0) (before after : List Row) → before ≡ [] → IsExtendedBy P before after
    → IsListOf P after
list-whole P before after none (xs, is, p) =
    let same : after ≡ xs = is ∙ ap (λ t. t ++ xs) none in
    subst (IsListOf P) (sym same) p
