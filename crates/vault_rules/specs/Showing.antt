-- Rows that show a vault.
use Rattle.std.specs.Prelude.{◌≡◌, ◌<◌, ◌⊎◌, ℕ, ℤ, pos, List, [], ◌∷◌, length, Some, option_map}
use Rattle.std.specs.Prelude.{string_bytes}
use Rattle.std.specs.FinMap as finite
use Rattle.sqlite_rules.specs.Lists.{Has}
use Rattle.vault_core.specs.Keys.{Bytes}
use Rattle.vault_core.specs.Numbers.{right_number, use_number}
use Rattle.vault_core.specs.Vault.{Vault, Merchant, merchant_at, entry_at, record_at, right_at, made_count}
use Rattle.vault_core.specs.declared.right.Right.{Right}
use Rattle.vault_core.specs.declared.row.Entry.{Entry}
use Rattle.vault_core.specs.declared.row.GrantRow.{GrantRow}
use Rattle.vault_core.specs.declared.row.Record.{Record}
use Rattle.vault_rules.specs.Lookups.{total_of, held_by, card_of, number_of, used_by}
use Rattle.vault_rules.specs.declared.rows.RawVersion.{RawVersion}
use Rattle.vault_rules.specs.declared.rows.RawMerchant.{RawMerchant}
use Rattle.vault_rules.specs.declared.rows.RawCount.{RawCount}
use Rattle.vault_rules.specs.declared.rows.RawCard.{RawCard}
use Rattle.vault_rules.specs.declared.rows.RawEntry.{RawEntry}
use Rattle.vault_rules.specs.declared.rows.RawRecord.{RawRecord}
use Rattle.vault_rules.specs.declared.rows.RawRight.{RawRight}
use Rattle.vault_rules.specs.AllRows.{Rows}
use Rattle.vault_rules.specs.MerchantRows.{ShowsMerchant}

-- the card of an entry, unless it is purged, is a card row of its merchant
abbrev pub HasCard : List RawCard → RawEntry → Type 0
HasCard cards e =
    (id : ℤ) → e.card ≡ Some id
    → (c : RawCard) × (card_of cards id ≡ Some c) × (string_bytes c.merchant ≡ string_bytes e.merchant)

-- a row has the columns of an entry, and its card row has the number
pub record ShowsEntry (cards : List RawCard) (e : RawEntry) (entry : Entry) : Type 0 where
  pub number : number_of cards e ≡ entry.number
  pub card : HasCard cards e
  pub usage : e.usage ≡ pos (use_number entry.usage)
  pub birth : e.birth ≡ pos entry.birth
  pub expires : e.expires ≡ pos entry.expires
  pub revoked : e.revoked ≡ option_map pos entry.revoked

-- a card row counts the entries that point at it, which are one or more
pub record ShowsCard (entries : List RawEntry) (c : RawCard) : Type 0 where
  pub uses : c.uses ≡ pos (used_by entries c.id)
  pub used : 0 < used_by entries c.id

-- a row has the columns of a record
pub record ShowsRecord (r : RawRecord) (shown : Record) : Type 0 where
  pub merchant : string_bytes r.merchant ≡ shown.merchant
  pub token : string_bytes r.token ≡ shown.token
  pub usage : r.usage ≡ pos (use_number shown.usage)

-- a row is one of a merchant's counts: of tokens made (1), of numbers given (2) or denied (3)
pub record ShowsCount (c : RawCount) (V : Vault) : Type 0 where
  pub kind : ℕ
  pub total : ℕ
  pub kind_is : c.kind ≡ pos kind
  pub total_is : c.total ≡ pos total
  pub some : 0 < total
  pub counted : (kind ≡ 1) × (total ≡ made_count V (string_bytes c.merchant))
      ⊎ (merchant : Merchant) × (merchant_at V (string_bytes c.merchant) ≡ Some merchant)
      × ((kind ≡ 2) × (total ≡ merchant.given) ⊎ (kind ≡ 3) × (total ≡ merchant.denied))

-- a row has the columns of a right
abbrev pub ShowsRight : RawRight → Vault → Type 0
ShowsRight r V =
    (right : Right) × (g : GrantRow) × (r.what ≡ pos (right_number right))
    × (right_at V (string_bytes r.caller) (string_bytes r.merchant) right ≡ Some g)
    × (r.ends ≡ option_map pos g.ends)

-- the rows of each table are the pairs of a vault
pub record Shows (rows : Rows) (V : Vault) : Type 0 where
  pub version : RawVersion
  pub versions : rows.versions ≡ version ∷ []
  pub id : version.id ≡ pos 1
  pub replaced : rows.replaced ≡ 0
  pub many : length rows.merchants ≡ finite.len V.merchants
  pub merchants : (m : RawMerchant) → Has rows.merchants m
      → (merchant : Merchant) × (merchant_at V (string_bytes m.name) ≡ Some merchant)
      × ShowsMerchant m merchant
  pub merchants_there : (name : Bytes) (merchant : Merchant) → merchant_at V name ≡ Some merchant
      → (m : RawMerchant) × Has rows.merchants m × (string_bytes m.name ≡ name)
  pub counts : (c : RawCount) → Has rows.counts c → ShowsCount c V
  pub counted : (name : Bytes) → total_of rows.counts name (pos 1) ≡ pos (made_count V name)
  pub held : (name : Bytes) → held_by rows.entries name ≡ made_count V name
  pub entries : (e : RawEntry) → Has rows.entries e
      → (entry : Entry) × (entry_at V (string_bytes e.merchant) (string_bytes e.token) ≡ Some entry)
      × ShowsEntry rows.cards e entry
  pub cards : (c : RawCard) → Has rows.cards c → ShowsCard rows.entries c
  pub entries_there : (m token : Bytes) (entry : Entry) → entry_at V m token ≡ Some entry
      → (e : RawEntry) × Has rows.entries e × (string_bytes e.merchant ≡ m)
      × (string_bytes e.token ≡ token)
  pub records : (r : RawRecord) → Has rows.records r
      → (request : ℕ) × (shown : Record) × (r.request ≡ pos request)
      × (record_at V (string_bytes r.caller) request ≡ Some shown) × ShowsRecord r shown
  pub rights : (r : RawRight) → Has rows.rights r → ShowsRight r V
