-- The merchant that the window of a Tokenize without a record shows.
use Rattle.std.proofs.Common.{◌≡◌, Option, Some, None, refl, sym, ap, ◌∙◌}
use Rattle.std.specs.Prelude.{option_map}
use Rattle.vault_core.specs.Sound.{Sound}
use Rattle.vault_core.specs.Repeats.{current, reusable}
use Rattle.vault_core.specs.Vault.{Vault, Merchant, merchant_at}
use Rattle.std.specs.Option.{option_map_or}
use Rattle.vault_core.specs.Vault.{entitled, time_at}
use Rattle.vault_core.specs.Window.{ShowsNewRequest, ShowsMerchant, row_of}
use Rattle.vault_core.specs.declared.command.TokenRequest.{TokenRequest}
use Rattle.vault_core.specs.declared.right.Right.TheVariants as right
use Rattle.vault_core.specs.declared.row.MerchantRow.{MerchantRow}
use Rattle.vault_core.specs.declared.window.Window.{Window}
use Rattle.vault_core.proofs.Redeemed.{moment_known}
use Rattle.vault_core.proofs.SoundTokens.{life-bounds}

pub shows_merchant : (V : Vault) → Sound V → (a : TokenRequest) (w : Window) (row : MerchantRow)
    → ShowsNewRequest V a w
    → w.merchant ≡ Some row → (known : Merchant) × ShowsMerchant V a known w row
shows_merchant V s a w row shows is = go (merchant_at V a.merchant) refl
  where
    go : (o : Option Merchant) → merchant_at V a.merchant ≡ o
        → (known : Merchant) × ShowsMerchant V a known w row
    go None h = let clash = sym (sym shows.merchant ∙ is) ∙ ap (option_map (row_of V a.merchant)) h in cc
    go (Some known) h =
        let same = sym (sym shows.merchant ∙ is) ∙ ap (option_map (row_of V a.merchant)) h in
        let old = s.merchants a.merchant known h in (
          known,
          record {
            known_as = h;
            lives = cc;
            made_is = cc;
            right = shows.right ∙ ap (entitled V a.caller a.merchant right.Tokenize)
                (moment_known V a.merchant known a.moment h);
            held = shows.held ∙ ap (λ (o : Option Merchant). reusable a.usage
                (current V a.merchant a.pan
                (option_map_or (λ merchant. time_at merchant a.moment) o a.moment))) h;
            candidate = shows.candidate;
            life = life-bounds a.usage known.single_life known.multi_life old.lives.0 old.lives.1;
          },
        )
