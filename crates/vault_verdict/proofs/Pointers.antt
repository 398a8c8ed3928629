-- How many entries point at a card.
use Rattle.std.proofs.Common.{◌≡◌, ◌≤◌, ◌⊎◌, inl, inr, ℕ, ℤ, suc, List, [], ◌∷◌, length, Some, refl, sym, ap}
use Rattle.std.proofs.Common.{subst, ◌∙◌, arith}
use Rattle.sqlite_rules.specs.Lists.{Has}
use Rattle.vault_core.specs.Keys.{Bytes}
use Rattle.vault_rules.proofs.Pointing.{pointing_apart, pointing_entry, pointing_has, pointing_keys}
use Rattle.vault_rules.proofs.Pointing.{pointing_many}
use Rattle.vault_rules.specs.Lookups.{used_by}
use Rattle.vault_rules.specs.VaultOf.{AreKeysApart, entry_key}
use Rattle.vault_rules.specs.declared.rows.RawEntry.{RawEntry}
use Rattle.vault_schema.specs.Joined.{AreApart, AreMany}

-- keys that are apart, as a list in which none comes twice
none_twice : {K : Type 0} (keys : List K) → AreKeysApart (λ (k : K). k) keys → AreApart keys
none_twice [] apart = tt
none_twice (k ∷ keys) apart = ((λ h. apart.0 k h refl), none_twice keys apart.1)

-- a list without one of its items
without : {X : Type 0} (ys : List X) (x : X) → Has ys x
    → (rest : List X) × (length ys ≡ suc (length rest)) × ((y : X) → Has ys y → (y ≡ x) ⊎ Has rest y)
without [] x h = absurd h
without (y ∷ ys) x (inl same) = (
  ys,
  refl,
  λ z h. elim h [ inl is ↦ inl (is ∙ sym same) | inr later ↦ inr later ],
)
without (y ∷ ys) x (inr later) =
    let it = without ys x later in (
      y ∷ it.0,
      ap (λ n. suc n) it.1,
      λ z h. elim h [
        | inl is ↦ inr (inl is)
        | inr more ↦ elim (it.2 z more) [ inl e ↦ inl e | inr kept ↦ inr (inr kept) ]
      ],
    )

-- a list of which no item comes twice is no longer than one that has all its items
no_longer : {X : Type 0} (xs ys : List X) → AreApart xs → ((x : X) → Has xs x → Has ys x)
    → length xs ≤ length ys
no_longer [] ys up all = omega arith
no_longer (x ∷ xs) ys up all =
    let it = without ys x (all x (inl refl)) in
    let rest = no_longer xs it.0 up.1 (λ y h. elim (it.2 y (all y (inr h))) [
      | inl same ↦ absurd (up.0 (subst (Has xs) same h))
      | inr kept ↦ kept
    ]) in
    let long = it.1 in omega (arith, rest, long)

-- so many is one number
pub one_number : {X : Type 0} {Is : X → Type 0} {m n : ℕ} → AreMany Is m → AreMany Is n → m ≡ n
one_number {m = m} {n = n} a b =
    let up = no_longer a.these b.these a.apart (λ x h. b.complete x (a.sound x h)) in
    let down = no_longer b.these a.these b.apart (λ x h. a.complete x (b.sound x h)) in
    let first : length a.these ≡ m = a.long in
    let second : length b.these ≡ n = b.long in omega (arith, up, down, first, second)

-- the entries that point at a card are as many as its rule counts
pub pointing_are : (entries : List RawEntry) (id : ℤ) → AreKeysApart entry_key entries
    → (Points : Bytes × Bytes → Type 0)
    → ((e : RawEntry) → Has entries e → e.card ≡ Some id → Points (entry_key e))
    → ((key : Bytes × Bytes) → Points key
    → (e : RawEntry) × Has entries e × (e.card ≡ Some id) × (key ≡ entry_key e))
    → AreMany Points (used_by entries id)
pointing_are entries id apart Points points back = record {
  these = pointing_keys entries id;
  apart = none_twice _ (pointing_apart entries id apart);
  long = pointing_many entries id;
  sound = λ key h.
      let it = pointing_entry entries id key h in
      subst Points (sym it.3) (points it.0 it.1 it.2);
  complete = λ key is.
      let it = back key is in
      subst (Has (pointing_keys entries id)) (sym it.3) (pointing_has entries id it.0 it.1 it.2);
}
