-- The map of rows by their keys.
use Rattle.std.proofs.Common.{◌≡◌, ◌≢◌, ◌+◌, suc, Bool, true, false, cond, List, [], ◌∷◌, map, filter, find}
use Rattle.std.proofs.Common.{length, Option, Some, None, option_map, is_some, inl, inr, refl, sym, ap, ◌∙◌}
use Rattle.std.proofs.Common.{true≢false, add-one}
use Rattle.std.specs.FinMap as finite
use Rattle.std.specs.FinMap.{IsAntisymmetric}
use Rattle.std.specs.Cmp.{IsTotalOrder}
use Rattle.std.specs.Ordering.{eq_by_cmp}
use Rattle.std.specs.declared.cmp.Ordering.{Ordering}
use Rattle.sqlite_rules.specs.Lists.{Has}
use Rattle.vault_core.proofs.Maps.{untied, get-retained, retained-no, retained-len_yes}
use Rattle.vault_rules.specs.VaultOf.{AreKeysApart}

-- rows of one key are one row
pub keys_once : {R K : Type 0} (key : R → K) (rows : List R)
    → AreKeysApart key rows → (a b : R) → Has rows a → Has rows b → key a ≡ key b → a ≡ b
keys_once key [] apart a b h g e = absurd h
keys_once key (r ∷ rows) apart a b (inl first) (inl same) e = first ∙ sym same
keys_once key (r ∷ rows) apart a b (inl first) (inr later) e =
    absurd (apart.0 b later (ap key (sym first) ∙ e))
keys_once key (r ∷ rows) apart a b (inr later) (inl first) e =
    absurd (apart.0 a later (ap key (sym first) ∙ sym e))
keys_once key (r ∷ rows) apart a b (inr h) (inr g) e = keys_once key rows apart.1 a b h g e

-- nothing passes
pub find-none : {X : Type 0} (p : X → Bool) (xs : List X) → ((x : X) → Has xs x → p x ≡ false)
    → find p xs ≡ None
find-none p [] fails = refl
find-none p (x ∷ xs) fails =
    ap (λ b. cond b (Some x) (find p xs)) (fails x (inl refl)) ∙ find-none p xs (λ y h. fails y (inr h))

-- something passes
pub find-some : {X : Type 0} (p : X → Bool) (xs : List X) (x : X) → Has xs x → p x ≡ true
    → (y : X) × (find p xs ≡ Some y)
find-some p [] x h passes = absurd h
find-some p (y ∷ xs) x h passes =
    elim (p y) as (λ b. p y ≡ b → (z : _) × (cond b (Some y) (find p xs) ≡ Some z)) [
      | true ↦ λ is. (y, refl)
      | false ↦ λ is. elim h [
        | inl same ↦ absurd (true≢false (sym passes ∙ ap p same ∙ is))
        | inr later ↦ find-some p xs x later passes
      ]
    ] refl

module _ {K X R : Type 0} {C : K → K → Ordering} (total : IsTotalOrder C) (exact : IsAntisymmetric C)
    (key : R → K) (value : R → X) where
  abbrev pub pairs : List R → List (K × X)
  pairs rows = map (λ r. let pair : K × X = (key r, value r) in pair) rows

  -- what is at a key is the value of the first row of it
  pub get_first : (test : K → R → Bool)
      → ((q : K) (r : R) → eq_by_cmp C q (key r) ≡ test q r) → (rows : List R) (q : K)
      → finite.get (finite.from_entries {R = C} (pairs rows)) q ≡ option_map value (find (test q) rows)
  get_first test ties rows q = finite.get-from_entries total (pairs rows) q ∙ walk rows
    where
      choose : (b : Bool) (r : R) (o : Option R)
          → cond b (Some (value r)) (option_map value o) ≡ option_map value (cond b (Some r) o)
      choose true r o = refl
      choose false r o = refl

      walk : (rows : List R) → finite.find C q (pairs rows) ≡ option_map value (find (test q) rows)
      walk [] = refl
      walk (r ∷ rows) =
          ap (λ b. cond b (Some (value r)) (finite.find C q (pairs rows))) (ties q r)
          ∙ ap (cond (test q r) (Some (value r))) (walk rows) ∙ choose (test q r) r (find (test q) rows)

  -- a new key has nothing
  get_new : (rows : List R) (r : R) → ((other : R) → Has rows other → key r ≢ key other)
      → finite.get (finite.from_entries {R = C} (pairs rows)) (key r) ≡ None
  get_new rows r apart =
      get_first (λ q s. eq_by_cmp C q (key s)) (λ q s. refl) rows (key r)
      ∙ ap (option_map value)
      (find-none (λ s. eq_by_cmp C (key r) (key s)) rows (λ s h. untied exact (key r) (key s) (apart s h)))

  -- as many keys as rows
  pub len_is : (rows : List R) → AreKeysApart key rows
      → finite.len (finite.from_entries {R = C} (pairs rows)) ≡ length rows
  len_is [] apart = finite.len-empty C X
  len_is (r ∷ rows) apart =
      finite.len-insert total (finite.from_entries {R = C} (pairs rows)) (key r) (value r)
      ∙ ap (λ (o : Option X). cond (is_some o) (finite.len (finite.from_entries {R = C} (pairs rows)))
      (finite.len (finite.from_entries {R = C} (pairs rows)) + 1))
      (get_new rows r apart.0)
      ∙ add-one (finite.len (finite.from_entries {R = C} (pairs rows))) ∙ ap suc (len_is rows apart.1)

  -- as many kept keys as kept rows
  pub kept_is : (p : K → Bool) (test : R → Bool)
      → ((r : R) → p (key r) ≡ test r) → (rows : List R) → AreKeysApart key rows
      → finite.len (finite.retain_keys (finite.from_entries {R = C} (pairs rows)) p)
      ≡ length (filter test rows)
  kept_is p test same [] apart =
      ap finite.len
      (finite.same_map total exact (finite.retain_keys (finite.empty {X = X} {R = C}) p) finite.empty (λ q.
      get-retained total exact finite.empty p q ∙ ap (λ o. cond (p q) o None) (finite.get-empty C q)
      ∙ none (p q) ∙ sym (finite.get-empty C q)))
      ∙ finite.len-empty C X
    where
      none : (b : Bool) → let gone : Option X = None in cond b gone None ≡ gone
      none true = refl
      none false = refl
  kept_is p test same (r ∷ rows) apart = by_test (test r) refl (kept_is p test same rows apart.1)
    where
      by_test : (b : Bool) → test r ≡ b
          → finite.len (finite.retain_keys (finite.from_entries {R = C} (pairs rows)) p)
          ≡ length (filter test rows)
          → finite.len
          (finite.retain_keys (finite.insert (finite.from_entries {R = C} (pairs rows)) (key r) (value r)) p)
          ≡ length (cond b (r ∷ filter test rows) (filter test rows))
      by_test true is rest =
          retained-len_yes total exact (finite.from_entries {R = C} (pairs rows)) (key r) (value r) p
          (same r ∙ is) (get_new rows r apart.0)
          ∙ add-one (finite.len (finite.retain_keys (finite.from_entries {R = C} (pairs rows)) p))
          ∙ ap suc rest
      by_test false is rest =
          ap finite.len (retained-no total exact (finite.from_entries {R = C} (pairs rows)) (key r)
          (value r) p (same r ∙ is))
          ∙ rest
