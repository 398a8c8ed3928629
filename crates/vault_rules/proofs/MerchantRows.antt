-- Rows of merchants, column by column: what their rules say, that those that keep them show sound merchants,
-- and that those of a sound vault keep them.
use Rattle.std.proofs.Common.{◌≡◌, ℕ, true, arith}
use Rattle.std.specs.Prelude.{string_bytes}
use Rattle.std.specs.List.{list_all}
use Rattle.std.proofs.lemmas.Bool.{and_from, and_parts}
use Rattle.sqlite_rules.specs.Lists.{Has}
use Rattle.sqlite_rules.proofs.ListLemmas.{test_from, test_has}
use Rattle.vault_core.specs.Sound.{IsCount, IsSoundMerchant, Sound}
use Rattle.vault_core.specs.Vault.{Vault}
use Rattle.vault_rules.specs.AllRows.{Rows}
use Rattle.vault_rules.specs.MerchantRows.{ShowsMerchant}
use Rattle.vault_rules.specs.Rules.{has_lead, is_lasting, keeps}
use Rattle.vault_rules.specs.Showing.{Shows}
use Rattle.vault_rules.specs.VaultOf.{merchant_value}
use Rattle.vault_rules.specs.declared.rows.RawMerchant.{RawMerchant}
use Rattle.vault_rules.proofs.Kept.{named}
use Rattle.vault_rules.proofs.Leads.{lead_from, lead_is}
use Rattle.vault_rules.proofs.Numbers.{IsBetween, within_from, within_is}

-- its lives and its moment are within their limits
pub record LastsWell (m : RawMerchant) : Type 0 where
  pub single : IsBetween 0 3155760000 m.single_life
  pub multi : IsBetween 0 3155760000 m.multi_life
  pub moment : IsBetween 0 253402300799 m.moment

-- rows that keep the rules
module _ (rows : Rows) (keep : (r : ℕ) → keeps rows r ≡ true) where
  -- the rule of lives and moments
  pub lasts : (m : RawMerchant) → Has rows.merchants m → LastsWell m
  lasts m h =
      let first = and_parts _ _ (test_has is_lasting rows.merchants m (keep 3) h) in
      let second = and_parts _ _ first.0 in
      record {
        single = within_is 0 3155760000 m.single_life second.0;
        multi = within_is 0 3155760000 m.multi_life second.1;
        moment = within_is 0 253402300799 m.moment first.1;
      }

  -- a row shows the merchant that it stands for
  pub row_shown : (m : RawMerchant) → Has rows.merchants m → ShowsMerchant m (merchant_value rows.counts m)
  row_shown m h =
      let lasting = lasts m h in
      record {
        single_life = lasting.single.is;
        multi_life = lasting.multi.is;
        moment = lasting.moment.is;
        lead = lead_is m.lead (test_has has_lead rows.merchants m (keep 14) h);
      }

  -- a merchant is sound where its counts are
  pub row_sound : (m : RawMerchant) → Has rows.merchants m → IsCount (merchant_value rows.counts m).given
      → IsCount (merchant_value rows.counts m).denied
      → IsSoundMerchant (string_bytes m.name) (merchant_value rows.counts m)
  row_sound m h given denied =
      let lasting = lasts m h in
      record {
        name = named rows keep m h;
        lives = (lasting.single.high_is, lasting.multi.high_is);
        moment = lasting.moment.high_is;
        given = given;
        denied = denied;
      }

-- the rows of a sound vault
module _ (rows : Rows) (V : Vault) (shows : Shows rows V) (sound : Sound V) where
  -- keep the rule of lives and moments, and that of leads
  pub lives_kept : list_all is_lasting rows.merchants ≡ true
  lives_kept = test_from is_lasting rows.merchants (λ m h.
      let it = shows.merchants m h in
      let fine = sound.merchants (string_bytes m.name) it.0 it.1 in
      and_from _ _ (and_from _ _
      (within_from 0 3155760000 it.0.single_life m.single_life it.2.single_life (omega arith) fine.lives.0)
      (within_from 0 3155760000 it.0.multi_life m.multi_life it.2.multi_life (omega arith) fine.lives.1))
      (within_from 0 253402300799 it.0.moment m.moment it.2.moment (omega arith) fine.moment))

  pub leads_kept : list_all has_lead rows.merchants ≡ true
  leads_kept = test_from has_lead rows.merchants (λ m h.
      let it = shows.merchants m h in
      lead_from it.0.lead m.lead it.2.lead)
