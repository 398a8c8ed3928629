-- The live key of the next entry, beside those of the entries before it.
use Rattle.std.proofs.Common.{◌≡◌, ◌++◌, ◌∷◌, [], ℕ, List, Some, option_map, true}
use Rattle.std.specs.List.{filter_map, list_all}
use Rattle.vault_core.specs.Keys.{Bytes}
use Rattle.vault_rules.proofs.LiveKeys.{live_pan}
use Rattle.vault_rules.proofs.LiveLemmas.{keys_more}
use Rattle.vault_rules.proofs.Options.{mapped_is}
use Rattle.vault_rules.proofs.Walks.{all_first, all_last}
use Rattle.vault_rules.specs.Packed.{key_number}
use Rattle.vault_rules.specs.Rules.{has_number, live_key}
use Rattle.vault_rules.specs.Texts.{is_pan}
use Rattle.vault_rules.specs.declared.rows.RawCard.{RawCard}
use Rattle.vault_rules.specs.declared.rows.RawEntry.{RawEntry}
use Rattle.vault_rules.specs.declared.rows.RawMerchant.{RawMerchant}

-- the next entry has a live key, which is shown so; what there was before it, and what there is with it
pub record IsNextKey (merchants : List RawMerchant) (cards : List RawCard) (raws : List RawEntry)
    (e : RawEntry) (shown : ℕ × Bytes) : Type 0 where
  pub before : list_all (has_number cards) raws ≡ true
  pub key : Bytes × Bytes
  pub is_shown : key_number key ≡ shown
  pub is_card : is_pan key.1 ≡ true
  pub more : filter_map (live_key merchants cards) (raws ++ e ∷ [])
      ≡ filter_map (live_key merchants cards) raws ++ key ∷ []

pub next_key : (merchants : List RawMerchant) (cards : List RawCard) (raws : List RawEntry) (e : RawEntry)
    (shown : ℕ × Bytes)
    → (has_number cards e ≡ true → option_map key_number (live_key merchants cards e) ≡ Some shown)
    → list_all (has_number cards) (raws ++ e ∷ []) ≡ true → IsNextKey merchants cards raws e shown
next_key merchants cards raws e shown told all =
    let fits = all_last (has_number cards) raws e all in
    let it = mapped_is key_number (live_key merchants cards e) shown (told fits) in
    record {
      before = all_first (has_number cards) raws e all;
      key = it.0;
      is_shown = it.2;
      is_card = live_pan merchants cards e it.0.0 it.0.1 fits it.1;
      more = keys_more (live_key merchants cards) raws e it.0 it.1;
    }
