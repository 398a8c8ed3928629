-- The vault that rows stand for.
use Rattle.std.specs.Prelude.{◌≢◌, ℕ, ℤ, pos, List, [], ◌∷◌, map, option_map, string_bytes}
use Rattle.std.specs.FinMap as finite
use Rattle.sqlite_rules.specs.Lists.{Has}
use Rattle.vault_core.specs.Keys.{Bytes}
use Rattle.vault_core.specs.Lives.{counted_merchant}
use Rattle.vault_core.specs.Vault.{Vault, Merchant}
use Rattle.vault_core.specs.declared.right.Right.{Right}
use Rattle.vault_core.specs.declared.row.Entry.{Entry}
use Rattle.vault_core.specs.declared.row.GrantRow.{GrantRow}
use Rattle.vault_core.specs.declared.row.Record.{Record}
use Rattle.vault_rules.specs.Codes.{natural, right_of, use_of}
use Rattle.vault_rules.specs.Lookups.{total_of, number_of}
use Rattle.vault_rules.specs.MerchantRows.{raw_lives}
use Rattle.vault_rules.specs.declared.rows.RawMerchant.{RawMerchant}
use Rattle.vault_rules.specs.declared.rows.RawCount.{RawCount}
use Rattle.vault_rules.specs.declared.rows.RawCard.{RawCard}
use Rattle.vault_rules.specs.declared.rows.RawEntry.{RawEntry}
use Rattle.vault_rules.specs.declared.rows.RawRecord.{RawRecord}
use Rattle.vault_rules.specs.declared.rows.RawRight.{RawRight}
use Rattle.vault_rules.specs.AllRows.{Rows}

-- a merchant, with its counts of numbers given (2) and denied (3)
abbrev pub merchant_value : List RawCount → RawMerchant → Merchant
merchant_value counts m =
    counted_merchant (raw_lives m) (natural (total_of counts (string_bytes m.name) (pos 2)))
    (natural (total_of counts (string_bytes m.name) (pos 3)))

-- an entry's merchant and token
abbrev pub entry_key : RawEntry → Bytes × Bytes
entry_key e = (string_bytes e.merchant, string_bytes e.token)

-- what a row, with its card row, says of an entry
abbrev pub entry_value : List RawCard → RawEntry → Entry
entry_value cards e = record {
  number = number_of cards e;
  usage = use_of e.usage;
  birth = natural e.birth;
  expires = natural e.expires;
  revoked = option_map natural e.revoked;
}

-- a record's caller and request
abbrev pub record_key : RawRecord → Bytes × ℕ
record_key r = (string_bytes r.caller, natural r.request)

-- what a row says of a record
abbrev pub record_value : RawRecord → Record
record_value r =
    record { merchant = string_bytes r.merchant; token = string_bytes r.token; usage = use_of r.usage }

-- a right, by its caller and merchant
abbrev pub right_key : RawRight → Bytes × (Bytes × Right)
right_key r = (string_bytes r.caller, (string_bytes r.merchant, right_of r.what))

-- what a row says of a right
abbrev pub grant_value : RawRight → GrantRow
grant_value r = record { ends = option_map natural r.ends }

-- the vault of rows in which no key comes twice
abbrev pub vault_of : Rows → Vault
vault_of rows = record {
  merchants =
      finite.from_entries
      (map (λ m. (string_bytes m.name, merchant_value rows.counts m)) rows.merchants);
  entries = finite.from_entries (map (λ e. (entry_key e, entry_value rows.cards e)) rows.entries);
  records = finite.from_entries (map (λ r. (record_key r, record_value r)) rows.records);
  rights = finite.from_entries (map (λ r. (right_key r, grant_value r)) rows.rights);
}

-- keys as they stand
abbrev pub count_key : RawCount → Bytes × ℤ
count_key c = (string_bytes c.merchant, c.kind)

-- a card number at its merchant
abbrev pub card_key : RawCard → Bytes × Bytes
card_key c = (string_bytes c.merchant, string_bytes c.number)

-- a request as it stands
abbrev pub request_key : RawRecord → Bytes × ℤ
request_key r = (string_bytes r.caller, r.request)

-- a right as it stands
abbrev pub number_key : RawRight → Bytes × (Bytes × ℤ)
number_key r = (string_bytes r.caller, (string_bytes r.merchant, r.what))

-- no key comes twice
abbrev pub AreKeysApart : {R K : Type 0} → (R → K) → List R → Type 0
AreKeysApart key [] = Unit {0}
AreKeysApart key (row ∷ rows) = ((other : _) → Has rows other → key row ≢ key other) × AreKeysApart key rows

-- of each table; of the cards no id
pub record HasKeysApart (rows : Rows) : Type 0 where
  pub merchants : AreKeysApart (λ m. string_bytes m.name) rows.merchants
  pub counts : AreKeysApart count_key rows.counts
  pub cards : AreKeysApart (λ c. c.id) rows.cards
  pub entries : AreKeysApart entry_key rows.entries
  pub records : AreKeysApart request_key rows.records
  pub rights : AreKeysApart number_key rows.rights
