-- Sets of rights that were put in one after the other, in the order that the code's types have.
use Rattle.std.proofs.Common.{◌≡◌, ℕ, ◌+◌, ◌<◌, List, length, take, get_or, Option, Some, None}
use Rattle.std.proofs.Common.{ap, refl, subst, ◌∙◌, ◌&&◌}
use Rattle.std.specs.BTreeSet.{BTreeSet, contains}
use Rattle.std.specs.Cmp.{unsigned_tied}
use Rattle.std.specs.Option.{option_cmp}
use Rattle.std.specs.Ordering.{eq_by_cmp, is_eq, nat_cmp, ordering_then}
use Rattle.std.specs.declared.cmp.Ordering.{Ordering}
use Rattle.vault_core.specs.Keys.{right_cmp}
use Rattle.vault_rights.specs.Named.{Row}
use Rattle.vault_store.proofs.RightOrder.{derived_cmp, derived_is}
use Rattle.vault_changes.proofs.Keyed.{Puts, both_equal, keyed_further}
use Rattle.vault_changes.specs.Changes.{Held, Key, is_as_listed, is_held, is_listed, is_same_end, right_of}
use Rattle.vault_changes.specs.RightKeys.{Ended, HasHeld, HasListed, ended_cmp}

-- an order of rights
abbrev By : Type 0
By = Key → Key → Ordering

-- ---- rights that rows list

pub listed_further : (old new : BTreeSet Key) (rows : List Row) (i : ℕ) (row : Row) → row ≡ get_or rows i row
    → i < length rows → Puts derived_cmp old new (right_of row) → HasListed old (take i rows)
    → HasListed new (take (i + 1) rows)
listed_further old new rows i row is below put =
    keyed_further right_cmp right_of (λ right. right)
    (λ right row. eq_by_cmp right_cmp (right_of row) right) (λ row right. refl) old new rows i row is below
    (subst (λ (R : By). Puts R old new (right_of row)) derived_is put)

pub listed_found : (keys : BTreeSet Key) (rows : List Row) (right : Key) → HasListed keys rows
    → contains derived_cmp keys right ≡ is_listed rows right
listed_found keys rows right has = ap (λ (R : By). contains R keys right) derived_is ∙ has right

-- ---- rights that are held, with their ends

-- with ends, by an order of rights
abbrev ended_by : By → Ended → Ended → Ordering
ended_by R a b = ordering_then (R a.0 b.0) (option_cmp nat_cmp a.1 b.1)

ends_tied : (a b : Option ℕ) → is_eq (option_cmp nat_cmp a b) ≡ is_same_end a b
ends_tied None None = refl
ends_tied None (Some b) = refl
ends_tied (Some a) None = refl
ends_tied (Some a) (Some b) = unsigned_tied a b

-- a right that is held is the row's, with its end
ended_tied : (it : Held) (row : Row)
    → is_eq (ended_cmp (it.0, it.1.ends) (right_of row, row.3)) ≡ is_as_listed it row
ended_tied it row =
    both_equal (right_cmp it.0 (right_of row)) (option_cmp nat_cmp it.1.ends row.3)
    ∙ ap (λ b. is_eq (right_cmp it.0 (right_of row)) && b) (ends_tied it.1.ends row.3)

pub held_further : (old new : BTreeSet Ended) (held : List Held) (i : ℕ) (it : Held) → it ≡ get_or held i it
    → i < length held → Puts (ended_by derived_cmp) old new (it.0, it.1.ends)
    → HasHeld old (take i held) → HasHeld new (take (i + 1) held)
held_further old new held i it is below put =
    keyed_further ended_cmp (λ it. (it.0, it.1.ends)) (λ row. (right_of row, row.3))
    (λ row it. is_as_listed it row) ended_tied old new held i it is below
    (subst (λ (R : By). Puts (ended_by R) old new (it.0, it.1.ends)) derived_is put)

pub held_found : (keys : BTreeSet Ended) (held : List Held) (row : Row) → HasHeld keys held
    → contains (ended_by derived_cmp) keys (right_of row, row.3) ≡ is_held held row
held_found keys held row has =
    ap (λ (R : By). contains (ended_by R) keys (right_of row, row.3)) derived_is ∙ has row
