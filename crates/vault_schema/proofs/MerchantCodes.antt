-- Each merchant is told by its columns, and where its table stands; now, and before schema 3.
use Rattle.std.proofs.Common.{◌≡◌, refl, sym, ap, ◌∙◌}
use Rattle.std.specs.Prelude.{[], ◌∷◌}
use Rattle.sqlite.specs.Order.{column}
use Rattle.sql_tables.proofs.ByKey.{Coding}
use Rattle.sql_tables.proofs.Grown.{keyed_in_grown}
use Rattle.sql_tables.proofs.Keys.{coding}
use Rattle.sql_tables.specs.Codes.{Codes}
use Rattle.sql_tables.specs.Keyed.{at_least}
use Rattle.sql_tables.specs.Maps.{Keyed}
use Rattle.vault_core.specs.Keys.{bytes_cmp}
use Rattle.vault_core.specs.declared.row.Lives.{Lives}
use Rattle.vault_schema.proofs.KeyColumns.{name_codes}
use Rattle.vault_schema.proofs.Placed.{coded, placed}
use Rattle.vault_schema.proofs.Values.{lead_back, lead_in, number_in}
use Rattle.vault_schema.specs.Merchants.{merchant_key, lives_columns, merchant_row, merchants}
use Rattle.vault_schema.specs.Merchants.{old_lives_columns, old_merchant_row, old_merchants, ShowsLives}
use Rattle.vault_schema.specs.Schemas.{v3, indexes2, indexes3, tables2, tables3, v1, v2}

pub merchant_codes : Codes bytes_cmp merchants.columns 1 merchant_key lives_columns
merchant_codes = coded name_codes
    (λ x y e.
    let lead : x.lead ≡ y.lead = sym (lead_back x.lead) ∙ ap (λ r. lead_in (column r 3)) e
    ∙ lead_back y.lead in
    λ i. record {
      single_life = number_in (column (e i) 0);
      multi_life = number_in (column (e i) 1);
      moment = number_in (column (e i) 2);
      lead = lead i;
    })
    (λ k x. refl)

pub merchant_coding : Coding bytes_cmp merchant_row
merchant_coding = coding merchant_codes

abbrev pub merchants_in_third : Keyed v3 bytes_cmp merchant_key lives_columns
merchants_in_third = placed merchants 8 0 merchant_codes refl refl refl refl

-- and these tell them
pub lives_told : (x y : Lives) → ShowsLives (at_least (lives_columns x)) y → y ≡ x
lives_told x y e =
    merchant_codes.value_back y x
    (λ i. sym e.single_life i ∷ sym e.multi_life i ∷ sym e.moment i ∷ sym e.lead i ∷ [])

-- ---- before schema 3

pub old_merchant_codes : Codes bytes_cmp old_merchants.columns 1 merchant_key old_lives_columns
old_merchant_codes = coded name_codes
    (λ x y e. λ i. record {
      single_life = number_in (column (e i) 0);
      multi_life = number_in (column (e i) 1);
      moment = number_in (column (e i) 2);
    })
    (λ k x. refl)

pub old_merchant_coding : Coding bytes_cmp old_merchant_row
old_merchant_coding = coding old_merchant_codes

-- ---- where they stand in each version that has them

abbrev pub old_merchants_in_first : Keyed v1 bytes_cmp merchant_key old_lives_columns
old_merchants_in_first = placed old_merchants 1 0 old_merchant_codes refl refl refl refl

abbrev pub old_merchants_in_second : Keyed v2 bytes_cmp merchant_key old_lives_columns
old_merchants_in_second = keyed_in_grown old_merchants_in_first tables2 indexes2 refl

abbrev pub old_merchants_in_third : Keyed v3 bytes_cmp merchant_key old_lives_columns
old_merchants_in_third = keyed_in_grown old_merchants_in_second tables3 indexes3 refl

-- ---- the texts that make schema 3 of schema 2
