-- Rows whose numbers in front climb, and what is made of them.
use Rattle.std.proofs.Common.{◌≡◌, ℤ, pos, List, [], ◌∷◌, map, Option, Some, None, option_map, refl, sym, ap}
use Rattle.std.proofs.Common.{subst}
use Rattle.std.specs.List.{cons_option, filter_map}
use Rattle.sqlite.specs.Order.{Row}
use Rattle.sqlite.specs.Tree.{IsAscending}
use Rattle.sqlite.specs.declared.types.Value.{Value}
use Rattle.sqlite.specs.declared.types.Value.TheVariants.{Int}
use Rattle.sqlite_rules.proofs.ListLemmas.{all_has, all_from}
use Rattle.sqlite_rules.proofs.ProbeLemmas.{has_mapped, mapped_has}
use Rattle.sqlite_rules.specs.Lists.{Has}
use Rattle.vault_verdict.proofs.ApartKeys.{has_kept}
use Rattle.vault_verdict.specs.Made.{as_card}
use Rattle.sql_tables.specs.Values.{row_text_value}
use Rattle.vault_tables.specs.declared.entries.old.OldEntry.{OldEntry}
use Rattle.sql_tables.specs.declared.text.RowText.{RowText}
use Rattle.std.specs.Prelude.{◌<ℤ◌}

-- the number that a row begins with
abbrev pub number_at : Row → ℤ
number_at (Int n ∷ row) = n
number_at _ = pos 0

-- these numbers climb
abbrev pub Climb : List Row → Type 0
Climb = IsAscending (λ r s. number_at r <ℤ number_at s)

-- a list climbs where what it shows does
of_shown : {A : Type 0} (f : A → Row) (xs : List A) → Climb (map f xs)
    → IsAscending (λ x y. number_at (f x) <ℤ number_at (f y)) xs
of_shown f [] up = tt
of_shown f (x ∷ xs) up = (
  all_from _ xs (λ y h. all_has _ (map f xs) (f y) up.0 (mapped_has f xs y h)),
  of_shown f xs up.1,
)

-- and what it shows where it does
to_shown : {A : Type 0} (f : A → Row) (xs : List A)
    → IsAscending (λ x y. number_at (f x) <ℤ number_at (f y)) xs → Climb (map f xs)
to_shown f [] up = tt
to_shown f (x ∷ xs) up = (
  all_from _ (map f xs) (λ r h. let it = has_mapped f xs r h in
      subst (λ (s : Row). number_at (f x) <ℤ number_at s) (sym it.2) (all_has _ xs it.0 up.0 it.1)),
  to_shown f xs up.1,
)

-- so of two lists that show the same
pub shown_climb : {A B : Type 0} (f : A → Row) (g : B → Row) (xs : List A) (ys : List B)
    → map f xs ≡ map g ys → IsAscending (λ x y. number_at (f x) <ℤ number_at (f y)) xs
    → IsAscending (λ x y. number_at (g x) <ℤ number_at (g y)) ys
shown_climb f g xs ys same up =
    of_shown g ys (subst Climb same (to_shown f xs up))

-- so does what is kept of rows that climb
next_climbs : (n : ℤ) (o : Option Row) (rows : List Row) → ((r : Row) → o ≡ Some r → number_at r ≡ n)
    → ((r : Row) → Has rows r → n <ℤ number_at r)
    → Climb rows → Climb (cons_option o rows)
next_climbs n None rows tells below up = up
next_climbs n (Some r) rows tells below up =
    (all_from _ rows (λ s h. subst (λ (m : ℤ). m <ℤ number_at s) (sym (tells r refl)) (below s h)), up)

kept_climb : {X : Type 0} (f : X → Option Row) (key : X → ℤ)
    → ((x : X) (r : Row) → f x ≡ Some r → number_at r ≡ key x) → (xs : List X)
    → IsAscending (λ x y. key x <ℤ key y) xs → Climb (filter_map f xs)
kept_climb f key tells [] up = tt
kept_climb f key tells (x ∷ xs) up =
    next_climbs (key x) (f x) (filter_map f xs) (tells x) (λ r h. let it = has_kept f xs r h in
    subst (λ (m : ℤ). key x <ℤ m) (sym (tells it.0 r it.2)) (all_has _ xs it.0 up.0 it.1))
    (kept_climb f key tells xs up.1)

-- and what shows it
pub kept_shown_climb : {X B : Type 0} (f : X → Option Row) (key : X → ℤ)
    → ((x : X) (r : Row) → f x ≡ Some r → number_at r ≡ key x) → (g : B → Row) (xs : List X) (ys : List B)
    → filter_map f xs ≡ map g ys → IsAscending (λ x y. key x <ℤ key y) xs
    → IsAscending (λ x y. number_at (g x) <ℤ number_at (g y)) ys
kept_shown_climb f key tells g xs ys same up =
    of_shown g ys (subst Climb same (kept_climb f key tells xs up))

-- the card of an entry of schema 1 has the entry's number in front
number_in : Option Row → ℤ
number_in None = pos 0
number_in (Some row) = number_at row

numbered : (n : ℤ) (merchant : Value) (number : Option RowText) (card : Row)
    → option_map (λ text. Int n ∷ merchant ∷ row_text_value text ∷ Int (pos 1) ∷ []) number ≡ Some card
    → number_at card ≡ n
unfolding number_in
numbered n merchant None card some = absurd cc
numbered n merchant (Some text) card some = sym (ap number_in some)

pub own_rowid : (o : OldEntry) (card : Row) → as_card o ≡ Some card → number_at card ≡ o.rowid
own_rowid o card some = numbered o.rowid (row_text_value o.merchant) o.number card some
