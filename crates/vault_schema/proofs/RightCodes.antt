-- Each right is told by its columns, and where its table stands; now, and before schema 4.
use Rattle.std.proofs.Common.{◌≡◌, refl, sym, ap, ◌∙◌}
use Rattle.std.specs.Prelude.{[], ◌∷◌}
use Rattle.sqlite.specs.Order.{column}
use Rattle.sql_tables.proofs.ByKey.{Coding}
use Rattle.sql_tables.proofs.Grown.{keyed_in_grown}
use Rattle.sql_tables.proofs.Keys.{coding}
use Rattle.sql_tables.specs.Codes.{Codes}
use Rattle.sql_tables.specs.Keyed.{at_least}
use Rattle.sql_tables.specs.Maps.{Keyed}
use Rattle.vault_core.specs.Keys.{right_cmp}
use Rattle.vault_core.specs.declared.row.GrantRow.{GrantRow}
use Rattle.vault_schema.proofs.KeyColumns.{allowed_codes}
use Rattle.vault_schema.proofs.Placed.{coded, placed}
use Rattle.vault_schema.proofs.Values.{maybe_number, number_back, number_fits}
use Rattle.vault_schema.specs.Rights.{right_key, ends_column, right_row, rights, no_columns, old_right_row}
use Rattle.vault_schema.specs.Rights.{old_rights}
use Rattle.vault_schema.specs.Schemas.{v4, indexes2, indexes3, indexes4, tables2, tables3, tables4, v1, v2}
use Rattle.vault_schema.specs.Schemas.{v3}
use Rattle.vault_schema.specs.Values.{number_or_null}

pub right_codes : Codes right_cmp rights.columns 3 right_key ends_column
right_codes = coded allowed_codes
    (λ x y e.
    let ends : x.ends ≡ y.ends = sym (number_back x.ends) ∙ ap (λ r. maybe_number (column r 0)) e
    ∙ number_back y.ends in
    λ i. record { ends = ends i })
    (λ k x. rw (number_fits x.ends) refl)

pub right_coding : Coding right_cmp right_row
right_coding = coding right_codes

abbrev pub rights_in_fourth : Keyed v4 right_cmp right_key ends_column
rights_in_fourth = placed rights 9 2 right_codes refl refl refl refl

-- a column that shows the end of a right tells the right
pub ends_told : (x y : GrantRow) → column (at_least (ends_column x)) 0 ≡ number_or_null y.ends → y ≡ x
ends_told x y e = right_codes.value_back y x (λ i. sym e i ∷ [])

-- ---- before schema 4

pub old_right_codes : Codes right_cmp old_rights.columns 3 right_key no_columns
old_right_codes = coded allowed_codes
    (λ x y e. refl)
    (λ k x. refl)

pub old_right_coding : Coding right_cmp old_right_row
old_right_coding = coding old_right_codes

-- ---- where they stand in each version that has them

abbrev pub old_rights_in_first : Keyed v1 right_cmp right_key no_columns
old_rights_in_first = placed old_rights 5 2 old_right_codes refl refl refl refl

abbrev pub old_rights_in_second : Keyed v2 right_cmp right_key no_columns
old_rights_in_second = keyed_in_grown old_rights_in_first tables2 indexes2 refl

abbrev pub old_rights_in_third : Keyed v3 right_cmp right_key no_columns
old_rights_in_third = keyed_in_grown old_rights_in_second tables3 indexes3 refl

abbrev pub old_rights_in_fourth : Keyed v4 right_cmp right_key no_columns
old_rights_in_fourth = keyed_in_grown old_rights_in_third tables4 indexes4 refl

-- ---- the texts that make schema 4 of schema 3
