-- What a value of a column tells, and back.
use Rattle.std.proofs.Common.{◌≡◌, ◌==◌, ◌∙◌, ℕ, pos, [], true, ap, cond, sym, Option, Some, None, refl, ℤ}
use Rattle.sqlite.specs.Kind.TheVariants.{Integer, Text as Words}
use Rattle.sqlite.specs.Order.{column}
use Rattle.sqlite.specs.declared.types.Value.{Value}
use Rattle.sqlite.specs.declared.types.Value.TheVariants.{Int, Text}
use Rattle.sql_tables.specs.Codes.{fits}
use Rattle.vault_pan.specs.Mask.{lead_digits}
use Rattle.vault_pan.specs.declared.lead.Lead.{Lead}
use Rattle.vault_pan.specs.declared.lead.Lead.TheVariants.{Six, Eight}
use Rattle.vault_core.specs.Keys.{Bytes}
use Rattle.vault_core.specs.Numbers.{use_number}
use Rattle.vault_core.specs.declared.usage.Use.{Use}
use Rattle.vault_core.specs.declared.usage.Use.TheVariants.{Single, Multi}
use Rattle.vault_schema.specs.Entries.{life_columns}
use Rattle.vault_schema.specs.Values.{number_or_null, text_or_null, id_or_null}

-- ---- a number, and one that may be missing

abbrev pub number_in : Value → ℕ
number_in (Int (pos n)) = n
number_in _ = 0

abbrev pub maybe_number : Value → Option ℕ
maybe_number (Int (pos n)) = Some n
maybe_number _ = None

pub number_back : (o : Option ℕ) → maybe_number (number_or_null o) ≡ o
number_back None = refl
number_back (Some n) = refl

pub number_fits : (o : Option ℕ) → fits Integer (number_or_null o) ≡ true
number_fits None = refl
number_fits (Some n) = refl

-- ---- a text, and one that may be missing

abbrev pub text_in : Value → Bytes
text_in (Text t) = t
text_in _ = []

abbrev pub maybe_text : Value → Option Bytes
maybe_text (Text t) = Some t
maybe_text _ = None

pub text_back : (o : Option Bytes) → maybe_text (text_or_null o) ≡ o
text_back None = refl
text_back (Some t) = refl

-- two that show the same are the same
pub text_same : (a b : Option Bytes) → text_or_null a ≡ text_or_null b → a ≡ b
text_same a b e = sym (text_back a) ∙ ap maybe_text e ∙ text_back b

pub text_fits : (o : Option Bytes) → fits Words (text_or_null o) ≡ true
text_fits None = refl
text_fits (Some t) = refl

-- ---- a use

abbrev pub use_in : Value → Use
use_in v = cond (number_in v == 1) Single Multi

pub use_back : (u : Use) → use_in (Int (pos (use_number u))) ≡ u
use_back Single = refl
use_back Multi = refl

pub use_same : (u v : Use) → Int (pos (use_number u)) ≡ Int (pos (use_number v)) → u ≡ v
use_same u v e = sym (use_back u) ∙ ap use_in e ∙ use_back v

-- ---- the last columns of an entry

-- they tell its use, its birth, its end, and when it was revoked
pub life_back : (u v : Use) (birth birth' expires expires' : ℕ) (revoked revoked' : Option ℕ)
    → life_columns u birth expires revoked ≡ life_columns v birth' expires' revoked'
    → (u ≡ v) × (birth ≡ birth') × (expires ≡ expires') × (revoked ≡ revoked')
life_back u v birth birth' expires expires' revoked revoked' e = (
  use_same u v (ap (λ r. column r 0) e),
  ap (λ r. number_in (column r 1)) e,
  ap (λ r. number_in (column r 2)) e,
  sym (number_back revoked) ∙ ap (λ r. maybe_number (column r 3)) e ∙ number_back revoked',
)

-- ---- a lead

abbrev pub lead_in : Value → Lead
lead_in v = cond (number_in v == 6) Six Eight

pub lead_back : (lead : Lead) → lead_in (Int (pos (lead_digits lead))) ≡ lead
lead_back Six = refl
lead_back Eight = refl

-- ---- an id, and one that may be missing

abbrev maybe_id : Value → Option ℤ
maybe_id (Int id) = Some id
maybe_id _ = None

id_back : (o : Option ℤ) → maybe_id (id_or_null o) ≡ o
id_back None = refl
id_back (Some id) = refl

-- two that show the same are the same
pub id_same : (a b : Option ℤ) → id_or_null a ≡ id_or_null b → a ≡ b
id_same a b e = sym (id_back a) ∙ ap maybe_id e ∙ id_back b

pub id_fits : (o : Option ℤ) → fits Integer (id_or_null o) ≡ true
id_fits None = refl
id_fits (Some id) = refl
