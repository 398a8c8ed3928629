-- The values that a subcommand was given.
use Rattle.std.specs.Prelude.{◌≡◌, ◌⊎◌, ℕ, ◌<◌, ◌≤◌, ◌^◌, List, Option, Some, None, codes}
use Rattle.std.specs.Prelude.{Result, MatchResult, Bool, true, false}
use Rattle.std.specs.Str.Parse.{IsNumeral, digits_value, without_leading_plus}
use Rattle.clap.specs.Words.{Row, Text, first_of, one_of}
use Rattle.vault_pan.specs.Mask.{lead_digits}
use Rattle.vault_pan.specs.declared.lead.Lead.{Lead}
use Rattle.vault_pan.specs.declared.lead.Lead.TheVariants.{Six}
use Rattle.vault_core.specs.Scalar.{IsLife, IsMoment}
use Rattle.vault_words.specs.Digits.{IsDigitText, repeated}

-- The value for which P holds is found, or there is none.
abbrev pub Finds : {T E : Type 0} → Result T E → (T → Type 0) → Type 0
Finds {T} result P = MatchResult result P (λ _. (x : T) → ¬ (P x))

-- the text writes a whole number of 64 bits in digits, before which a plus sign may stand
pub record Writes (text : Text) (n : ℕ) : Type 0 where
  pub numeral : IsNumeral 10 (without_leading_plus text)
  pub fits : digits_value 10 (without_leading_plus text) < 2 ^ 64
  pub value : n ≡ digits_value 10 (without_leading_plus text)

-- the value of this id, among the values that a subcommand was given, is this text
abbrev pub HasText : List Row → Text → Text → Type 0
HasText rows id text = first_of id rows ≡ Some text

-- it has no value
abbrev pub IsLeftOut : List Row → Text → Type 0
IsLeftOut rows id = first_of id rows ≡ None

-- it is this text, or it has no value
abbrev pub HasMaybeText : List Row → Text → Option Text → Type 0
HasMaybeText rows id None = IsLeftOut rows id
HasMaybeText rows id (Some text) = HasText rows id text

-- the flag of this id is there, or it isn't
abbrev pub HasFlag : List Row → Text → Bool → Type 0
HasFlag rows id true = HasText rows id (codes "true")
HasFlag rows id false = ¬ (HasText rows id (codes "true"))

-- it writes this number
abbrev pub HasNumber : List Row → Text → ℕ → Type 0
HasNumber rows id n = (text : Text) × (one_of id rows ≡ Some text) × Writes text n

-- it writes this life
abbrev pub HasLife : List Row → Text → ℕ → Type 0
HasLife rows id life = HasNumber rows id life × IsLife life

-- it writes this moment, or is left out
abbrev pub HasMoment : List Row → Text → Option ℕ → Type 0
HasMoment rows id None = IsLeftOut rows id
HasMoment rows id (Some moment) = HasNumber rows id moment × IsMoment moment

-- --now gives this moment, or is left out
abbrev pub HasNow : List Row → Option ℕ → Type 0
HasNow rows now = HasMoment rows (codes "now") now

-- --until gives this end of a right, or is left out, and the right has none
abbrev pub HasUntil : List Row → Option ℕ → Type 0
HasUntil rows until = HasMoment rows (codes "until") until

-- --lead gives this lead, 6 or 8, or is left out, and the lead is 6
abbrev pub HasLead : List Row → Lead → Type 0
HasLead rows lead =
    (IsLeftOut rows (codes "lead") × (lead ≡ Six))
    ⊎ HasNumber rows (codes "lead") (lead_digits lead)

-- --digits gives these in place of drawn ones, or is left out
abbrev pub HasDigits : List Row → Option (List ℕ) → Type 0
HasDigits rows None = IsLeftOut rows (codes "digits")
HasDigits rows (Some digits) =
    (text : Text) × HasText rows (codes "digits") text × IsDigitText text
    × (digits ≡ repeated 300 text)

-- --connections gives this number, 1 to 1000000, or is left out
abbrev pub HasConnections : List Row → Option ℕ → Type 0
HasConnections rows None = IsLeftOut rows (codes "connections")
HasConnections rows (Some n) = HasNumber rows (codes "connections") n × (1 ≤ n) × (n ≤ 1000000)

-- --port gives this port, at most 65535, or is left out, and the port is 0
abbrev pub HasPort : List Row → ℕ → Type 0
HasPort rows port =
    (IsLeftOut rows (codes "port") × (port ≡ 0))
    ⊎ (HasNumber rows (codes "port") port × (port ≤ 65535))
