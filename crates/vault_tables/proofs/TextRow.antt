-- What the one row of a query shows of a text.
use Rattle.std.proofs.Common.{◌≡◌, ◌∙◌, List, Option, Some, None, slice_get, refl, sym, ap}
use Rattle.sqlite.specs.Order.{Row, column}
use Rattle.sqlite.specs.declared.types.Value.TheVariants.{Text}
use Rattle.sql_tables.specs.Rows.{one_of}
use Rattle.vault_core.specs.Keys.{Bytes}
use Rattle.vault_schema.specs.Values.{text_or_null}
use Rattle.vault_tables.specs.Shown.{text_column}

-- the one row of a text shows it
pub text_shown : (o : Option Bytes) (rows : List Row) (row : Row) (text : Bytes) → rows ≡ one_of text_column o
    → Some row ≡ slice_get rows 0 → column row 0 ≡ Text text → Some text ≡ o
text_shown None rows row text is first at =
    let none : Some row ≡ None = first ∙ ap (λ l. slice_get l 0) is in absurd cc
text_shown (Some t) rows row text is first at =
    let same : Some row ≡ Some (text_column t) = first ∙ ap (λ l. slice_get l 0) is in
    let value : Text text ≡ Text t =
    sym at ∙ ap (λ r. column r 0) (let e : row ≡ text_column t = cc in e) in cc

pub no_text : (o : Option Bytes) (rows : List Row) → rows ≡ one_of text_column o → None ≡ slice_get rows 0
    → None ≡ o
no_text None rows is first = refl
no_text (Some t) rows is first =
    let some : None ≡ Some (text_column t) = first ∙ ap (λ l. slice_get l 0) is in absurd cc

-- it may be read as a text or NULL
pub maybe_shown : (o found : Option Bytes) (rows : List Row) (row : Row) → rows ≡ one_of text_column o
    → Some row ≡ slice_get rows 0 → column row 0 ≡ text_or_null found → found ≡ o
maybe_shown None found rows row is first at =
    let none : Some row ≡ None = first ∙ ap (λ l. slice_get l 0) is in absurd cc
maybe_shown (Some t) None rows row is first at =
    let same : Some row ≡ Some (text_column t) = first ∙ ap (λ l. slice_get l 0) is in
    let value : text_or_null None ≡ Text t =
    sym at ∙ ap (λ r. column r 0) (let e : row ≡ text_column t = cc in e) in
    absurd cc
maybe_shown (Some t) (Some text) rows row is first at = text_shown (Some t) rows row text is first at
