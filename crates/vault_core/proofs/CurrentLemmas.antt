-- The live multi-use token of a number.
use Rattle.std.proofs.Common.{◌≡◌, inl, inr, ℕ, true, false, Some, None, Option, cond, option_map, sym, ◌∙◌}
use Rattle.std.proofs.Common.{◌≤◌, ap, arith, max, refl, subst}
use Rattle.std.proofs.lemmas.Bool.Decides.{nat_tests}
use Rattle.std.specs.FinMap as map
use Rattle.std.specs.Cmp.{Equal-is, tied_itself}
use Rattle.std.specs.Cmp.Lexicographic.{texts_ties, slice_cmp}
use Rattle.std.specs.Option.{option_map_or}
use Rattle.std.specs.Ordering.{nat_cmp, eq_by_cmp, is_eq}
use Rattle.vault_pan.specs.CardText.{same}
use Rattle.vault_core.specs.Keys.{Bytes, bytes_cmp}
use Rattle.vault_core.specs.Repeats.{current, is_reusable}
use Rattle.vault_core.specs.Sound.{Sound}
use Rattle.vault_core.specs.Vault.{Vault, Merchant, entry_at, entries_of, time_at}
use Rattle.vault_core.specs.Window.{moment_at}
use Rattle.vault_core.specs.declared.row.Entry.{Entry}
use Rattle.vault_core.proofs.Finds.{find-none, find-passes, find-lookup, some_same, true-T}
use Rattle.vault_core.proofs.Maps.{bytes_total, bytes_exact, entry_total, entry_exact, tied, get-retained}

pub same-is : (a b : Bytes) → same a b ≡ true → a ≡ b
same-is a b h = bytes_exact a b ((Equal-is (slice_cmp nat_cmp a b)).0 (sym (texts_ties a b) ∙ h))

none_mapped : {A B : Type 0} (f : A → B) (o : Option A) → option_map f o ≡ None → o ≡ None
none_mapped f None e = refl
none_mapped f (Some x) e = cc

mapped_some : {A B : Type 0} (f : A → B) (o : Option A) (y : B) → option_map f o ≡ Some y
    → (x : A) × (o ≡ Some x) × (f x ≡ y)
mapped_some f None y e = cc
mapped_some f (Some x) y e = (x, refl, some_same e)

-- a merchant's entries are those of the vault under its name
pub get-entries_of : (V : Vault) (m : Bytes) (key : Bytes × Bytes)
    → map.get (entries_of V m) key ≡ cond (eq_by_cmp bytes_cmp m key.0) (map.get V.entries key) None
get-entries_of V m key = get-retained entry_total entry_exact V.entries (λ k. eq_by_cmp bytes_cmp m k.0) key

pub get-entries_of_own : (V : Vault) (m token : Bytes)
    → map.get (entries_of V m) (m, token) ≡ entry_at V m token
get-entries_of_own V m token =
    get-entries_of V m (m, token)
    ∙ ap (λ r. cond (is_eq r) (map.get V.entries (m, token)) None) (tied_itself bytes_total m)

-- what stands among a merchant's entries stands in the vault, under its name
own_entry : (V : Vault) (m : Bytes) (key : Bytes × Bytes) (entry : Entry)
    → map.get (entries_of V m) key ≡ Some entry
    → (m ≡ key.0) × (map.get V.entries key ≡ Some entry)
own_entry V m key entry found =
    elim (tied bytes_exact m key.0) [
      | inl own ↦ (own, sym (get-entries_of V m key ∙ passes own) ∙ found)
      | inr apart ↦ let clash =
          sym (get-entries_of V m key ∙ ap (λ b. cond b (map.get V.entries key) None) apart) ∙ found in cc
    ]
  where
    passes : m ≡ key.0 → cond (eq_by_cmp bytes_cmp m key.0) (map.get V.entries key) None
        ≡ map.get V.entries key
    passes own = ap (λ r. cond (is_eq r) (map.get V.entries key) None)
        (ap (λ x. bytes_cmp x key.0) own ∙ tied_itself bytes_total key.0)

-- where there is none, no entry is one
pub current-none : (V : Vault) (m pan token : Bytes) (at : ℕ) (entry : Entry)
    → current V m pan at ≡ None → entry_at V m token ≡ Some entry → is_reusable pan at entry ≡ false
unfolding current
current-none V m pan token at entry none found =
    find-none entry_total entry_exact (λ e. is_reusable pan at e.1) (map.entries (entries_of V m))
    (m, token) entry
    (none_mapped _ _ none)
    (sym (map.get-entries (entries_of V m) (m, token)) ∙ get-entries_of_own V m token ∙ found)

-- the one that there is, is an entry of the merchant that can be given again
pub current-some : (V : Vault) (m pan : Bytes) (at : ℕ) (held : Bytes × Entry)
    → current V m pan at ≡ Some held
    → (entry_at V m held.0 ≡ Some held.1) × (is_reusable pan at held.1 ≡ true)
unfolding current
current-some V m pan at held h =
    let p = λ (e : (Bytes × Bytes) × Entry). is_reusable pan at e.1 in
    let found = mapped_some _ _ held h in
    let e = found.0 in
    let passes = find-passes p (map.entries (entries_of V m)) e found.1 in
    let listed : map.get (entries_of V m) e.0 ≡ Some e.1 =
    map.get-entries (entries_of V m) e.0
    ∙ find-lookup entry_total p (map.entries (entries_of V m)) e
    (true-T _ (map.entries_sorted (entries_of V m))) found.1
    in
    let own = own_entry V m e.0 e.1 listed in
    let P : Bytes × Entry → Type 0 = λ x. (entry_at V m x.0 ≡ Some x.1) × (is_reusable pan at x.1 ≡ true) in
    subst P found.2 (ap (λ (x : Bytes). entry_at V x e.0.1) own.0 ∙ own.1, passes)

-- what can be given again at a moment could be at each earlier one
earlier : (pan : Bytes) (a b : ℕ) (entry : Entry) → a ≤ b
    → is_reusable pan b entry ≡ true → is_reusable pan a entry ≡ true
earlier pan a b entry le h = grind (arith, nat_tests)

module _ (V : Vault) (sound : Sound V) (m pan : Bytes) (at : ℕ) (now : moment_at V m at ≡ at) where
  -- of one number at most one token is live
  pub one_live : (token other : Bytes) (entry entry' : Entry)
      → entry_at V m token ≡ Some entry → is_reusable pan at entry ≡ true
      → entry_at V m other ≡ Some entry' → is_reusable pan at entry' ≡ true → token ≡ other
  one_live token other entry entry' found live found' live' =
      let known = sound.entries m token entry found in
      let later : max known.0.moment at ≡ at =
      sym (ap (λ (o : Option Merchant). option_map_or (λ merchant. time_at merchant at) o at) known.1)
      ∙ now in
      let le : known.0.moment ≤ at = omega (arith, later) in
      sound.alone m pan token other entry entry' known.0 known.1
      found (earlier pan known.0.moment at entry le live) found'
      (earlier pan known.0.moment at entry' le live')
