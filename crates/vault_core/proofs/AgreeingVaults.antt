-- What two vaults that agree on a merchant's rows have in common: its entries as a map, and what is counted
-- and found among them.
use Rattle.std.proofs.Common.{◌≡◌, ℕ, ◌&&◌, Option, None, cond, find, not, option_map, is_none, inl, inr}
use Rattle.std.proofs.Common.{refl, sym, ap, ◌∙◌, subst}
use Rattle.std.specs.FinMap as map
use Rattle.std.specs.Ordering.{eq_by_cmp}
use Rattle.vault_pan.specs.Luhn.{passes_check}
use Rattle.vault_core.specs.Draw.{chosen_token, candidates}
use Rattle.vault_core.specs.Isolation.{AgreeAt}
use Rattle.vault_core.specs.Keys.{Bytes, bytes_cmp}
use Rattle.vault_core.specs.Repeats.{current, is_reusable}
use Rattle.vault_core.specs.Vault.{Vault, entry_at, entries_of, made_count}
use Rattle.vault_core.specs.declared.row.Entry.{Entry}
use Rattle.vault_core.proofs.CurrentLemmas.{get-entries_of}
use Rattle.vault_core.proofs.Maps.{bytes_exact, entry_total, entry_exact, tied}

pub agree-refl : (m : Bytes) (V : Vault) → AgreeAt m V V
agree-refl m V = record { merchant = refl; entries = λ token. refl; rights = λ caller right at. refl }

pub agree-sym : {m : Bytes} {V W : Vault} → AgreeAt m V W → AgreeAt m W V
agree-sym a = record {
  merchant = sym a.merchant;
  entries = λ token. sym (a.entries token);
  rights = λ caller right at. sym (a.rights caller right at);
}

pub agree-trans : {m : Bytes} {U V W : Vault} → AgreeAt m U V → AgreeAt m V W → AgreeAt m U W
agree-trans a b = record {
  merchant = a.merchant ∙ b.merchant;
  entries = λ token. a.entries token ∙ b.entries token;
  rights = λ caller right at. a.rights caller right at ∙ b.rights caller right at;
}

module _ (m : Bytes) (V W : Vault) (agree : AgreeAt m V W) where
  pub same-entries_of : entries_of V m ≡ entries_of W m
  same-entries_of =
      map.same_map entry_total entry_exact _ _
      (λ key. get-entries_of V m key ∙ same_at key ∙ sym (get-entries_of W m key))
    where
      same_at : (key : Bytes × Bytes) → cond (eq_by_cmp bytes_cmp m key.0) (map.get V.entries key) None
          ≡ cond (eq_by_cmp bytes_cmp m key.0) (map.get W.entries key) None
      same_at key =
          elim (tied bytes_exact m key.0) [
            | inl own ↦
                ap (λ (o : Option Entry). cond (eq_by_cmp bytes_cmp m key.0) o None)
                (subst (λ (n : Bytes). entry_at V n key.1 ≡ entry_at W n key.1) own (agree.entries key.1))
            | inr apart ↦
                ap (λ b. cond b (map.get V.entries key) None) apart
                ∙ sym (ap (λ b. cond b (map.get W.entries key) None) apart)
          ]

  pub same-made : made_count V m ≡ made_count W m
  same-made = ap map.len same-entries_of

  pub same-current : (pan : Bytes) (at : ℕ) → current V m pan at ≡ current W m pan at
  unfolding current
  same-current pan at =
      ap (λ es. option_map (λ e. (e.0.1, e.1)) (find (λ e. is_reusable pan at e.1) (map.entries es)))
      same-entries_of

  pub same-chosen : (pan digits : Bytes) → chosen_token V m pan digits ≡ chosen_token W m pan digits
  unfolding chosen_token
  same-chosen pan digits =
      ap (λ good. find good (candidates digits pan))
      (λ i token. not (passes_check token) && is_none (agree.entries token i))
