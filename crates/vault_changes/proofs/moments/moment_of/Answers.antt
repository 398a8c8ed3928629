use Rattle.std.proofs.Common.{◌≡◌, ◌∙◌, Option, Some, None, ap, refl}
use Rattle.std.specs.Prelude.{option_map}
use Rattle.vault_core.specs.Keys.{Bytes}
use Rattle.vault_core.specs.Vault.{Vault as Content, Merchant, merchant_at}
use Rattle.vault_core.specs.Window.{row_at, row_of}
use Rattle.vault_core.specs.declared.row.MerchantRow.{MerchantRow}
use Rattle.vault_changes.specs.Moments.{moment_in}
use Rattle.vault_changes.proofs.moments.moment_of.Goals as goal

-- the moment in a merchant's row is the merchant's
row-moment : (V : Content) (m : Bytes)
    → option_map (λ (row : MerchantRow). row.moment) (row_at V m) ≡ moment_in V m
row-moment V m = go (merchant_at V m)
  where
    go : (o : Option Merchant) → option_map (λ (row : MerchantRow). row.moment) (option_map (row_of V m) o)
        ≡ option_map (λ (known : Merchant). known.moment) o
    go None = refl
    go (Some known) = refl

pub returns-in-Ok-clause-told : goal.returns-in-Ok-clause-told
returns-in-Ok-clause-told g c = λ V b.
    let it = c.in-Ok.ensures.told b.0 V b.1 in (
      c.moment_in_row.ensures ∙ ap (option_map (λ (row : MerchantRow). row.moment)) it.0
          ∙ row-moment V c.args.merchant,
      (it.1, c.in-Ok.ensures.crash b.0 V b.1),
    )
