-- How many tokens a merchant has after changes.
use Rattle.std.proofs.Common.{◌≡◌, ◌+◌, ℕ, Bool, true, false, cond, Option, Some, None, is_some, is_none}
use Rattle.std.proofs.Common.{refl, sym, ap, ◌∙◌, inl, inr, add-zero}
use Rattle.std.specs.FinMap as map
use Rattle.std.specs.Cmp.{tied_itself}
use Rattle.std.specs.Ordering.{eq_by_cmp, is_eq}
use Rattle.vault_core.specs.Changes.{Fit, plus, with_entry, newly, made_raised}
use Rattle.vault_core.specs.Keys.{Bytes, bytes_cmp, entry_cmp}
use Rattle.vault_core.specs.Sound.{Sound}
use Rattle.vault_core.specs.Vault.{Vault, merchant_at, entry_at, entries_of, made_count}
use Rattle.vault_core.specs.declared.changes.Changes.{Changes}
use Rattle.vault_core.specs.declared.row.Entry.{Entry}
use Rattle.vault_core.proofs.Maps.{bytes_total, bytes_exact, entry_total, entry_exact, tied, get-retained}
use Rattle.vault_core.proofs.Maps.{retained-yes, retained-no}

-- one at the merchant whose count goes up
abbrev pub one_at : Option Bytes → Bytes → ℕ
one_at None q = 0
one_at (Some m) q = cond (eq_by_cmp bytes_cmp q m) 1 0

one_more : (e : Option Entry) (n : ℕ) (q m : Bytes) → eq_by_cmp bytes_cmp q m ≡ true
    → cond (is_some e) n (n + 1) ≡ n + one_at (cond (is_none e) (Some m) None) q
one_more None n q m here = ap (λ b. n + cond b 1 0) (sym here)
one_more (Some e) n q m here = sym (add-zero n)

no_more : (e : Option Entry) (n : ℕ) (q m : Bytes) → eq_by_cmp bytes_cmp q m ≡ false
    → n ≡ n + one_at (cond (is_none e) (Some m) None) q
no_more None n q m apart = sym (add-zero n) ∙ ap (λ b. n + cond b 1 0) (sym apart)
no_more (Some e) n q m apart = sym (add-zero n)

made-insert : (V : Vault) (m token : Bytes) (entry : Entry) (q : Bytes)
    → map.len (map.retain_keys (map.insert V.entries (m, token) entry) (λ key. eq_by_cmp bytes_cmp q key.0))
    ≡ made_count V q + one_at (cond (is_none (entry_at V m token)) (Some m) None) q
made-insert V m token entry q =
    elim (tied bytes_exact q m) [
      | inl same ↦
          let here : eq_by_cmp bytes_cmp q m ≡ true =
          ap (λ r. is_eq r) (ap (λ x. bytes_cmp x m) same ∙ tied_itself bytes_total m) in
          ap map.len (retained-yes entry_total entry_exact V.entries (m, token) entry
          (λ key. eq_by_cmp bytes_cmp q key.0) here)
          ∙ map.len-insert entry_total (entries_of V q) (m, token) entry
          ∙ ap (λ x. cond (is_some x) (made_count V q) (made_count V q + 1))
          (get-retained entry_total entry_exact V.entries (λ key. eq_by_cmp bytes_cmp q key.0) (m, token)
          ∙ ap (λ b. cond b (entry_at V m token) None) here)
          ∙ one_more (entry_at V m token) (made_count V q) q m here
      | inr apart ↦
          ap map.len (retained-no entry_total entry_exact V.entries (m, token) entry
          (λ key. eq_by_cmp bytes_cmp q key.0) apart)
          ∙ no_more (entry_at V m token) (made_count V q) q m apart
    ]

made-with : (V : Vault) (change : Option (Bytes × Bytes × Entry)) (q : Bytes)
    → map.len (map.retain_keys (with_entry V.entries change) (λ key. eq_by_cmp bytes_cmp q key.0))
    ≡ made_count V q + one_at (newly V change) q
made-with V None q = sym (add-zero (made_count V q))
made-with V (Some x) q = made-insert V x.0 x.1 x.2 q

-- the count goes up by one at the merchant that it is raised of
pub made-plus : (V : Vault) (ch : Changes) → Fit V ch → (q : Bytes)
    → made_count (plus V ch) q ≡ made_count V q + one_at (made_raised ch.count ch.lives) q
made-plus V ch fit q = made-with V ch.entry q ∙ ap (λ m. made_count V q + one_at m q) (sym fit.counted)

pub one_at-own : (b : Bool) (m : Bytes) → one_at (cond b (Some m) None) m ≡ cond b 1 0
one_at-own true m = ap (λ r. cond (is_eq r) 1 0) (tied_itself bytes_total m)
one_at-own false m = refl

pub one_at-other : (b : Bool) (q m : Bytes) → eq_by_cmp bytes_cmp q m ≡ false
    → one_at (cond b (Some m) None) q ≡ 0
one_at-other true q m apart = ap (λ e. cond e 1 0) apart
one_at-other false q m apart = refl

-- a merchant that isn't known has no tokens
pub made-unknown : (V : Vault) → Sound V → (m : Bytes) → merchant_at V m ≡ None → made_count V m ≡ 0
made-unknown V sound m unknown =
    ap map.len (map.same_map entry_total entry_exact (entries_of V m) map.empty none)
    ∙ map.len-empty entry_cmp Entry
  where
    absent : (key : Bytes × Bytes) → m ≡ key.0 → (found : Option Entry) → map.get V.entries key ≡ found
        → found ≡ None
    absent key same None is = refl
    absent key same (Some entry) is =
        let known = (sound.entries key.0 key.1 entry is).1 in
        let clash = sym unknown ∙ ap (merchant_at V) same ∙ known in cc

    none : (key : Bytes × Bytes) → map.get (entries_of V m) key ≡ map.get (map.empty {R = entry_cmp}) key
    none key =
        get-retained entry_total entry_exact V.entries (λ k. eq_by_cmp bytes_cmp m k.0) key
        ∙ elim (tied bytes_exact m key.0) as
        (λ _. cond (eq_by_cmp bytes_cmp m key.0) (map.get V.entries key) None ≡ None) [
          | inl same ↦
              ap (λ x. cond (eq_by_cmp bytes_cmp m key.0) x None)
              (absent key same (map.get V.entries key) refl)
              ∙ never (eq_by_cmp bytes_cmp m key.0)
          | inr apart ↦ ap (λ b. cond b (map.get V.entries key) None) apart
        ]
        ∙ sym (map.get-empty entry_cmp key)
      where
        never : (b : Bool) → let none : Option Entry = None in cond b none none ≡ none
        never true = refl
        never false = refl
