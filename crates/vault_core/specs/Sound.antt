-- What holds of every vault that commands make.
use Rattle.std.specs.Prelude.{◌≡◌, ℕ, ◌+◌, ◌<◌, ◌≤◌, ◌⊎◌, true, Option, Some, None, IsSome, IfSome}
use Rattle.std.specs.FinMap as map
use Rattle.vault_pan.specs.CardText.{IsPan, IsToken, fits}
use Rattle.vault_core.specs.Keys.{Bytes}
use Rattle.vault_core.specs.Lives.{AreLives, lives_in}
use Rattle.vault_core.specs.Name.{IsName}
use Rattle.vault_core.specs.Repeats.{is_reusable}
use Rattle.vault_core.specs.Scalar.{IsMoment, IsRequest}
use Rattle.vault_core.specs.Vault.{Vault, Merchant, merchant_at, entry_at, record_at, right_at, made_count}
use Rattle.vault_core.specs.declared.limit.TheConstants.{MOST_MERCHANTS, MOST_TOKENS, MOST_COUNT}
use Rattle.vault_core.specs.declared.limit.TheConstants.{LONGEST_LIFE}
use Rattle.vault_core.specs.declared.right.Right.{Right}
use Rattle.vault_core.specs.declared.row.Entry.{Entry}
use Rattle.vault_core.specs.declared.row.GrantRow.{GrantRow}
use Rattle.vault_core.specs.declared.row.Record.{Record}

-- a count of numbers given or denied
abbrev pub IsCount : ℕ → Type 0
IsCount n = n ≤ MOST_COUNT

-- a merchant's name is a name; its lives, its moment and its counts are within their limits
pub record IsSoundMerchant (m : Bytes) (merchant : Merchant) : Type 0 where
  pub name : IsName m
  pub lives : AreLives (lives_in merchant)
  pub moment : IsMoment merchant.moment
  pub given : IsCount merchant.given
  pub denied : IsCount merchant.denied

-- never, or a moment from the birth of an entry to its merchant's
abbrev pub IsRevocation : Entry → ℕ → Option ℕ → Type 0
IsRevocation entry moment None = Unit {0}
IsRevocation entry moment (Some at) = (entry.birth ≤ at) × (at ≤ moment)

-- a number is a card number that fits its token; an entry without one is revoked or has expired
abbrev pub IsNumber : Bytes → Entry → ℕ → Option Bytes → Type 0
IsNumber token entry moment (Some number) = IsPan number × (fits token number ≡ true)
IsNumber token entry moment None = IsSome entry.revoked ⊎ (entry.expires ≤ moment)

-- an entry of a merchant: born by its merchant's moment, with a life of 1 second to 100 years
pub record IsSoundEntry (token : Bytes) (entry : Entry) (merchant : Merchant) : Type 0 where
  pub token_fails : IsToken token
  pub number : IsNumber token entry merchant.moment entry.number
  pub birth : entry.birth ≤ merchant.moment
  pub lives : entry.birth < entry.expires
  pub life : entry.expires ≤ entry.birth + LONGEST_LIFE
  pub revoked : IsRevocation entry merchant.moment entry.revoked

-- the entry of a record is there, with the record's use
abbrev pub IsEntryOf : Record → Option Entry → Type 0
IsEntryOf r found = (entry : Entry) × (found ≡ Some entry) × (entry.usage ≡ r.usage)

-- what holds of a vault: of one merchant and number at most one multi-use token is live
pub record Sound (V : Vault) : Type 0 where
  pub few : map.len V.merchants ≤ MOST_MERCHANTS
  pub merchants : (m : Bytes) (merchant : Merchant)
      → merchant_at V m ≡ Some merchant → IsSoundMerchant m merchant
  pub made_few : (m : Bytes) → made_count V m ≤ MOST_TOKENS
  pub entries : (m token : Bytes) (entry : Entry) → entry_at V m token ≡ Some entry
      → (merchant : Merchant) × (merchant_at V m ≡ Some merchant) × IsSoundEntry token entry merchant
  pub alone : (m pan token other : Bytes) (entry entry' : Entry) (merchant : Merchant)
      → merchant_at V m ≡ Some merchant
      → entry_at V m token ≡ Some entry → is_reusable pan merchant.moment entry ≡ true
      → entry_at V m other ≡ Some entry' → is_reusable pan merchant.moment entry' ≡ true
      → token ≡ other
  pub records : (caller : Bytes) (request : ℕ) (r : Record)
      → record_at V caller request ≡ Some r
      → IsName caller × IsRequest request × IsEntryOf r (entry_at V r.merchant r.token)
  pub rights : (caller m : Bytes) (right : Right) (g : GrantRow) → right_at V caller m right ≡ Some g
      → IsName caller × (merchant : Merchant) × (merchant_at V m ≡ Some merchant) × IfSome g.ends IsMoment
