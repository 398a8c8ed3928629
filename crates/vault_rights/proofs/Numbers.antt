-- The rows of one array, by the rights' numbers.
use Rattle.std.proofs.Common.{◌≡◌, ◌⊎◌, ◌<◌, ◌≤◌, ◌+◌, ℕ, zero, suc, List, [], ◌∷◌, ◌++◌, Option}
use Rattle.std.proofs.Common.{get_or, refl, sym, ap, ◌∙◌, subst, inl, inr, arith, nat_cmp, Less, Equal}
use Rattle.std.specs.Cmp.{tied_itself, nat_cmp_is}
use Rattle.std.specs.Cmp.Lexicographic.{nat_list_cmp_total}
use Rattle.vault_core.specs.Keys.{Bytes, bytes_cmp}
use Rattle.vault_core.specs.Numbers.{right_number}
use Rattle.vault_core.specs.declared.right.Right.{Right}
use Rattle.vault_core.specs.declared.right.Right.TheVariants.{Tokenize, Detokenize, View, Revoke, Purge}
use Rattle.vault_core.specs.declared.right.Right.TheVariants.{Audit}
use Rattle.vault_rights.specs.Items.{IsGranted}
use Rattle.vault_rights.specs.Named.{Row, row_cmp, IsLatest, IsExtendedBy}
use Rattle.vault_rights.proofs.Latest.{Grant, latest-exact}
use Rattle.vault_rights.proofs.Lists.{extended-join, extended-same, list-one}
use Rattle.vault_rights.proofs.Words.{number-exact}

-- a row of one of the rights whose number is at most i, with the latest end of the grants
abbrev pub IsRowUpTo : Bytes → Bytes → List Grant → ℕ → Row → Type 0
IsRowUpTo c m grants i row =
    (row.0 ≡ c) × (row.1 ≡ m) × (right_number row.2 ≤ i) × IsLatest (IsGranted grants row.2) row.3

abbrev pub all_rights : List Right
all_rights = Tokenize ∷ Detokenize ∷ View ∷ Revoke ∷ Purge ∷ Audit ∷ []

pub number-at : (i : ℕ) (d : Right) → i < 6 → right_number (get_or all_rights i d) ≡ i + 1
number-at zero d h = refl
number-at (suc zero) d h = refl
number-at (suc (suc zero)) d h = refl
number-at (suc (suc (suc zero))) d h = refl
number-at (suc (suc (suc (suc zero)))) d h = refl
number-at (suc (suc (suc (suc (suc zero))))) d h = refl
number-at (suc (suc (suc (suc (suc (suc i)))))) d h = absurd (omega arith)

same-names-below : (a b : Row) → a.0 ≡ b.0 → a.1 ≡ b.1
    → nat_cmp (right_number a.2) (right_number b.2) ≡ Less → row_cmp a b ≡ Less
same-names-below a b e f less =
    let p : bytes_cmp a.0 b.0 ≡ Equal = ap (λ t. bytes_cmp t b.0) e ∙ tied_itself nat_list_cmp_total b.0 in
    let q : bytes_cmp a.1 b.1 ≡ Equal = ap (λ t. bytes_cmp t b.1) f ∙ tied_itself nat_list_cmp_total b.1 in
    rw (p, q) less

-- rows of one caller go by their merchants
pub same-caller-below : (a b : Row) → a.0 ≡ b.0 → bytes_cmp a.1 b.1 ≡ Less → row_cmp a b ≡ Less
same-caller-below a b e less =
    let p : bytes_cmp a.0 b.0 ≡ Equal = ap (λ t. bytes_cmp t b.0) e ∙ tied_itself nat_list_cmp_total b.0 in
    rw (p, less) refl

pub callers-below : (a b : Row) → bytes_cmp a.0 b.0 ≡ Less → row_cmp a b ≡ Less
callers-below a b less = rw less refl

nat_less : (a b : ℕ) → a < b → nat_cmp a b ≡ Less
nat_less a b h = sym (nat_cmp_is a b Less h)

le_or_lt : (a b : ℕ) → (a ≤ b) ⊎ (b < a)
le_or_lt zero b = inl (omega arith)
le_or_lt (suc a) zero = inr (omega arith)
le_or_lt (suc a) (suc b) = elim (le_or_lt a b) [ inl h ↦ inl (omega arith) | inr h ↦ inr (omega arith) ]

pub rows-pushed : (c m : Bytes) (grants : List Grant) (i : ℕ) (right : Right) (until : Option ℕ)
    (before middle : List Row) → right_number right ≡ i + 1
    → IsLatest (IsGranted grants right) until
    → IsExtendedBy (IsRowUpTo c m grants i) before middle
    → IsExtendedBy (IsRowUpTo c m grants (i + 1)) before (middle ++ (c, m, right, until) ∷ [])
rows-pushed c m grants i right until before middle number latest extended =
    let new : Row = (c, m, right, until) in
    extended-same _ _ before _
    (extended-join (IsRowUpTo c m grants i) (λ row. row ≡ new) before middle (middle ++ new ∷ []) extended
    (new ∷ [], refl, list-one (λ row. row ≡ new) new (λ other. (λ h. h, λ h. h)))
    (λ a b p q.
    subst (λ (t : Row). row_cmp a t ≡ Less) (sym q)
    (same-names-below a new p.0 p.1
    (nat_less (right_number a.2) (right_number right) (omega (arith, p.2, number))))))
    (λ row. (
      λ s. elim s [
        | inl p ↦ (p.0, p.1, omega (arith, p.2), p.3)
        | inr q ↦ subst (IsRowUpTo c m grants (i + 1)) (sym q) (refl, refl, omega (arith, number), latest)
      ],
      λ r. elim (le_or_lt (right_number row.2) i) [
        | inl low ↦ inl (r.0, r.1, low, r.3)
        | inr high ↦
            let same = number-exact row.2 right (omega (arith, r.2, number)) in
            let end =
            latest-exact (IsGranted grants right) row.3 until
            (subst (λ t. IsLatest (IsGranted grants t) row.3) same r.3) latest in
            inr (λ j. (r.0 j, r.1 j, same j, end j))
      ],
    ))

pub rows-kept : (c m : Bytes) (grants : List Grant) (i : ℕ) (right : Right) (before middle : List Row)
    → right_number right ≡ i + 1
    → ((until : Option ℕ) → ¬ IsGranted grants right until)
    → IsExtendedBy (IsRowUpTo c m grants i) before middle
    → IsExtendedBy (IsRowUpTo c m grants (i + 1)) before middle
rows-kept c m grants i right before middle number lacks extended =
    extended-same _ _ before middle extended
    (λ row. (
      λ p. (p.0, p.1, omega (arith, p.2), p.3),
      λ r. elim (le_or_lt (right_number row.2) i) [
        | inl low ↦ (r.0, r.1, low, r.3)
        | inr high ↦
            let same = number-exact row.2 right (omega (arith, r.2, number)) in
            absurd (lacks row.3 (subst (λ t. IsGranted grants t row.3) same r.3.0))
      ],
    ))
