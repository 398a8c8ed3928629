-- What is kept of a card row.
use Rattle.std.specs.Prelude.{◌&&◌, ℕ, ℤ, pos, Bool, is_some, List, [], Option, if◌then◌else◌, length}
use Rattle.std.specs.Prelude.{nat_lt, position, string_bytes}
use Rattle.std.specs.Int.RustNames.{int_le}
use Rattle.std.specs.Ordering.{int_eq}
use Rattle.vault_core.specs.Keys.{Bytes}
use Rattle.vault_rules.specs.Lookups.{merchant_of, used_by}
use Rattle.vault_rules.specs.declared.rows.RawCard.{RawCard}
use Rattle.vault_rules.specs.declared.rows.RawEntry.{RawEntry}
use Rattle.vault_rules.specs.declared.rows.RawMerchant.{RawMerchant}

-- its id and its uses, its merchant, where it exists, and its number
pub record KeptCard : Type 0 where
  pub id : ℤ
  pub uses : ℤ
  pub merchant : Option RawMerchant
  pub number : Bytes

-- a text of at most 19 bytes, and nothing of a longer one
abbrev pub short_text : Bytes → Bytes
short_text text = if nat_lt (length text) 20 then text else []

-- the merchant of a card row, where it exists
abbrev pub card_merchant : List RawMerchant → RawCard → Option RawMerchant
card_merchant merchants c = merchant_of merchants (string_bytes c.merchant)

-- what the rules need of a card row
abbrev pub kept_card : List RawMerchant → RawCard → KeptCard
kept_card merchants c = record {
  id = c.id;
  uses = c.uses;
  merchant = card_merchant merchants c;
  number = short_text (string_bytes c.number);
}

-- the place of the first card row of an id
abbrev pub place_of : List RawCard → ℤ → Option ℕ
place_of cards id = position (λ c. int_eq c.id id) cards

-- its merchant exists, and its uses are the number of entries that point at it, 1 or more
abbrev pub is_used : List RawEntry → KeptCard → Bool
is_used entries c =
    is_some c.merchant && int_le (pos 1) c.uses && int_eq c.uses (pos (used_by entries c.id))
