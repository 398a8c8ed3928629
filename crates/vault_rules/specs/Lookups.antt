-- What the rows have at a name or a key: the first row of it.
use Rattle.std.specs.Prelude.{ℕ, ℤ, pos, ◌&&◌, Bool, false, List, length, filter, Option, option_map}
use Rattle.std.specs.Prelude.{option_and_then, is_some, bytes_eq, string_bytes}
use Rattle.std.specs.List.{find}
use Rattle.std.specs.Option.{option_map_or}
use Rattle.std.specs.Ordering.{int_eq}
use Rattle.vault_core.specs.Keys.{Bytes}
use Rattle.vault_rules.specs.declared.rows.RawMerchant.{RawMerchant}
use Rattle.vault_rules.specs.declared.rows.RawCount.{RawCount}
use Rattle.vault_rules.specs.declared.rows.RawCard.{RawCard}
use Rattle.vault_rules.specs.declared.rows.RawEntry.{RawEntry}

-- the merchant of a name
abbrev pub merchant_of : List RawMerchant → Bytes → Option RawMerchant
merchant_of merchants name = find (λ m. bytes_eq (string_bytes m.name) name) merchants

-- whether there is such a merchant
abbrev pub is_known : List RawMerchant → Bytes → Bool
is_known merchants name = is_some (merchant_of merchants name)

-- a merchant's moment
abbrev pub moment_of : List RawMerchant → Bytes → Option ℤ
moment_of merchants name = option_map (λ m. m.moment) (merchant_of merchants name)

-- the total of a merchant's count of this kind; 0 where it has no row
abbrev pub total_of : List RawCount → Bytes → ℤ → ℤ
total_of counts name kind =
    option_map_or (λ (c : RawCount). c.total)
    (find (λ c. bytes_eq (string_bytes c.merchant) name && int_eq c.kind kind) counts) (pos 0)

-- how many entries a merchant has
abbrev pub held_by : List RawEntry → Bytes → ℕ
held_by entries name = length (filter (λ e. bytes_eq (string_bytes e.merchant) name) entries)

-- the entry of a merchant's token
abbrev pub entry_of : List RawEntry → Bytes → Bytes → Option RawEntry
entry_of entries name token =
    find (λ e. bytes_eq (string_bytes e.merchant) name && bytes_eq (string_bytes e.token) token) entries

-- the usage of a merchant's token
abbrev pub token_usage : List RawEntry → Bytes → Bytes → Option ℤ
token_usage entries name token = option_map (λ (e : RawEntry). e.usage) (entry_of entries name token)

-- the card row of an id
abbrev pub card_of : List RawCard → ℤ → Option RawCard
card_of cards id = find (λ c. int_eq c.id id) cards

-- the number of an entry: that of its card row, where there is one
abbrev pub number_of : List RawCard → RawEntry → Option Bytes
number_of cards e = option_map (λ c. string_bytes c.number) (option_and_then (card_of cards) e.card)

-- how many entries point at the card row of an id
abbrev pub used_by : List RawEntry → ℤ → ℕ
used_by entries id = length (filter (λ e. option_map_or (λ card. int_eq card id) e.card false) entries)
