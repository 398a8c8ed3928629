-- What the one row of a query shows of the card of an entry.
use Rattle.std.proofs.Common.{◌≡◌, ◌∙◌, ℤ, List, Option, Some, None, option_and_then, slice_get, refl, sym}
use Rattle.std.proofs.Common.{ap}
use Rattle.sqlite.specs.Order.{Row, column}
use Rattle.sql_tables.specs.Rows.{one_of}
use Rattle.vault_schema.proofs.Values.{id_same}
use Rattle.vault_schema.specs.Entries.{pointing_columns}
use Rattle.vault_schema.specs.Values.{id_or_null}
use Rattle.vault_schema.specs.declared.rows.Pointing.{Pointing}

pub card_told : (o : Option Pointing) (rows : List Row) (row : Row) (found : Option ℤ)
    → rows ≡ one_of pointing_columns o → Some row ≡ slice_get rows 0 → column row 0 ≡ id_or_null found
    → found ≡ option_and_then (λ (e : Pointing). e.card) o
card_told None rows row found is first at =
    let none : Some row ≡ None = first ∙ ap (λ l. slice_get l 0) is in absurd cc
card_told (Some e) rows row found is first at =
    let same : row ≡ pointing_columns e =
    (let both : Some row ≡ Some (pointing_columns e) = first ∙ ap (λ l. slice_get l 0) is in cc) in
    id_same found e.card (sym at ∙ ap (λ r. column r 0) same)

pub none_told : (o : Option Pointing) (rows : List Row) → rows ≡ one_of pointing_columns o
    → None ≡ slice_get rows 0 → None ≡ option_and_then (λ (e : Pointing). e.card) o
none_told None rows is first = refl
none_told (Some e) rows is first =
    let some : None ≡ Some (pointing_columns e) = first ∙ ap (λ l. slice_get l 0) is in absurd cc
