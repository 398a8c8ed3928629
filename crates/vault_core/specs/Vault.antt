-- A vault: four finite maps.
use Rattle.std.specs.Prelude.{ℕ, ◌&&◌, Bool, true, false, Option, max, is_none, is_some, nat_lt}
use Rattle.std.specs.Prelude.{if◌then◌else◌}
use Rattle.std.specs.Option.{option_map_or}
use Rattle.std.specs.FinMap as map
use Rattle.std.specs.Ordering.{eq_by_cmp}
use Rattle.vault_pan.specs.declared.lead.Lead.{Lead}
use Rattle.vault_core.specs.Keys.{Bytes, bytes_cmp, entry_cmp, record_cmp, right_cmp}
use Rattle.vault_core.specs.declared.reply.State.{State}
use Rattle.vault_core.specs.declared.reply.State.TheVariants.{Live, Expired, Revoked}
use Rattle.vault_core.specs.declared.right.Right.{Right}
use Rattle.vault_core.specs.declared.row.Entry.{Entry}
use Rattle.vault_core.specs.declared.row.EntryState.{EntryState}
use Rattle.vault_core.specs.declared.row.EntryState.TheVariants.{Kept, Purged}
use Rattle.vault_core.specs.declared.row.GrantRow.{GrantRow}
use Rattle.vault_core.specs.declared.row.Record.{Record}
use Rattle.vault_core.specs.declared.usage.Use.{Use}
use Rattle.vault_core.specs.declared.usage.Use.TheVariants.{Single, Multi}

-- how long a merchant's tokens live, how many digits its masks show at the left, when it last changed, and
-- how often a number was given or denied
pub record Merchant : Type 0 where
  pub single_life : ℕ
  pub multi_life : ℕ
  pub lead : Lead
  pub moment : ℕ
  pub given : ℕ
  pub denied : ℕ

-- merchants by name, entries by merchant and token, records by caller and request number, and the rights of
-- callers at merchants, each with its end
pub record Vault : Type 0 where
  pub merchants : map.FinMap bytes_cmp Merchant
  pub entries : map.FinMap entry_cmp Entry
  pub records : map.FinMap record_cmp Record
  pub rights : map.FinMap right_cmp GrantRow

-- the empty vault
abbrev pub empty_vault : Vault
empty_vault = record { merchants = map.empty; entries = map.empty; records = map.empty; rights = map.empty }

-- the merchant of a name
abbrev pub merchant_at : Vault → Bytes → Option Merchant
merchant_at V m = map.get V.merchants m

-- what a merchant's token stands for
abbrev pub entry_at : Vault → Bytes → Bytes → Option Entry
entry_at V m token = map.get V.entries (m, token)

-- what a caller's request was answered
abbrev pub record_at : Vault → Bytes → ℕ → Option Record
record_at V caller request = map.get V.records (caller, request)

-- the right of a caller at a merchant
abbrev pub right_at : Vault → Bytes → Bytes → Right → Option GrantRow
right_at V caller m right = map.get V.rights (caller, (m, right))

-- whether a right is there at a moment: before its end, where it has one
abbrev pub lasts : GrantRow → ℕ → Bool
lasts g at = option_map_or (λ end. nat_lt at end) g.ends true

-- whether a caller is entitled at a moment to what a right allows at a merchant
abbrev pub entitled : Vault → Bytes → Bytes → Right → ℕ → Bool
entitled V caller m right at = option_map_or (λ g. lasts g at) (right_at V caller m right) false

-- the entries of one merchant
abbrev pub entries_of : Vault → Bytes → map.FinMap entry_cmp Entry
entries_of V m = map.retain_keys V.entries (λ key. eq_by_cmp bytes_cmp m key.0)

-- how many tokens a merchant has, counted afresh
abbrev pub made_count : Vault → Bytes → ℕ
made_count V m = map.len (entries_of V m)

-- the moment of a command: the merchant's, unless the one handed in is later
abbrev pub time_at : Merchant → ℕ → ℕ
time_at merchant now = max merchant.moment now

-- the life of a use
abbrev pub life_for : Use → ℕ → ℕ → ℕ
life_for Single single multi = single
life_for Multi single multi = multi

-- an entry that is neither purged nor revoked nor expired
abbrev pub is_live : Entry → ℕ → Bool
is_live entry at = is_some entry.number && is_none entry.revoked && nat_lt at entry.expires

-- the state of an entry that has its number: live, else revoked, else expired
abbrev pub kept_state : Entry → ℕ → State
kept_state entry at =
    if is_live entry at then Live
    else if is_some entry.revoked then Revoked
    else Expired

-- the state of an entry at a moment
abbrev pub state_of : Entry → ℕ → EntryState
state_of entry at = option_map_or (λ number. Kept number (kept_state entry at)) entry.number Purged
