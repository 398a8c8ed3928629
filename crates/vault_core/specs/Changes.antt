-- Changes, and the vault with them.
use Rattle.std.specs.Prelude.{◌≡◌, ℕ, ◌+◌, Bool, true, false, Option, Some, None, max, is_none}
use Rattle.std.specs.Prelude.{if◌then◌else◌}
use Rattle.std.specs.FinMap as map
use Rattle.std.specs.Option.{option_map_or}
use Rattle.vault_core.specs.Keys.{Bytes, bytes_cmp, entry_cmp, record_cmp, right_cmp}
use Rattle.vault_core.specs.Lives.{new_merchant, row_lives, with_lives}
use Rattle.vault_core.specs.Outcome.{Outcome}
use Rattle.vault_core.specs.Named.{merchant_of, is_denial}
use Rattle.vault_core.specs.Sound.{Sound}
use Rattle.vault_core.specs.Table.{outcome}
use Rattle.vault_core.specs.Vault.{Vault, Merchant, merchant_at, entry_at}
use Rattle.vault_core.specs.Window.{IsWindow, row_of}
use Rattle.vault_core.specs.declared.changes.Changes.{Changes}
use Rattle.vault_core.specs.declared.changes.Count.{Count}
use Rattle.vault_core.specs.declared.changes.Count.TheVariants.{Made, Given, Denied}
use Rattle.vault_core.specs.declared.command.Command.{Command}
use Rattle.vault_core.specs.declared.command.TokenRequest.{TokenRequest}
use Rattle.vault_core.specs.declared.reply.Reply.{Reply}
use Rattle.vault_core.specs.declared.reply.Reply.TheVariants.{Refused}
use Rattle.vault_core.specs.declared.right.Right.{Right}
use Rattle.vault_core.specs.declared.row.Entry.{Entry}
use Rattle.vault_core.specs.declared.row.GrantRow.{GrantRow}
use Rattle.vault_core.specs.declared.row.Lives.{Lives}
use Rattle.vault_core.specs.declared.row.MerchantRow.{MerchantRow}
use Rattle.vault_core.specs.declared.row.Record.{Record}
use Rattle.vault_core.specs.declared.window.Window.{Window}

-- the merchant with its new lives and moment, and its counts as they were
abbrev pub merchant_with : Lives → Option Merchant → Merchant
merchant_with x None = new_merchant x
merchant_with x (Some old) = with_lives x old

-- one more number given or denied; how many tokens were made follows from the entries
abbrev pub merchant_with_count : Option Count → Merchant → Merchant
merchant_with_count None merchant = merchant
merchant_with_count (Some Made) merchant = merchant
merchant_with_count (Some Given) merchant = record merchant { given = merchant.given + 1 }
merchant_with_count (Some Denied) merchant = record merchant { denied = merchant.denied + 1 }

-- with the lives and the moment of a merchant, and a count raised
abbrev pub with_merchant : map.FinMap bytes_cmp Merchant → Option Count → Option (Bytes × Lives)
    → map.FinMap bytes_cmp Merchant
with_merchant merchants count None = merchants
with_merchant merchants count (Some x) =
    map.insert merchants x.0 (merchant_with_count count (merchant_with x.1 (map.get merchants x.0)))

-- with an entry put in
abbrev pub with_entry : map.FinMap entry_cmp Entry → Option (Bytes × Bytes × Entry)
    → map.FinMap entry_cmp Entry
with_entry entries None = entries
with_entry entries (Some x) = map.insert entries (x.0, x.1) x.2

-- with a record put in
abbrev pub with_record : map.FinMap record_cmp Record → Option (Bytes × ℕ × Record)
    → map.FinMap record_cmp Record
with_record records None = records
with_record records (Some x) = map.insert records (x.0, x.1) x.2

-- with a right put in, or taken out
abbrev pub with_right : map.FinMap right_cmp GrantRow → Option (Bytes × Bytes × Right × Option GrantRow)
    → map.FinMap right_cmp GrantRow
with_right rights None = rights
with_right rights (Some x) =
    option_map_or (map.insert rights (x.0, (x.1, x.2))) x.3 (map.remove rights (x.0, (x.1, x.2)))

-- a vault with the changes in it
abbrev pub plus : Vault → Changes → Vault
plus V ch = record {
  merchants = with_merchant V.merchants ch.count ch.lives;
  entries = with_entry V.entries ch.entry;
  records = with_record V.records ch.recorded;
  rights = with_right V.rights ch.right;
}

-- the count that goes up is that of tokens made
abbrev pub is_made : Option Count → Bool
is_made None = false
is_made (Some Made) = true
is_made (Some Given) = false
is_made (Some Denied) = false

-- the merchant whose made count goes up
abbrev pub made_raised : Option Count → Option (Bytes × Lives) → Option Bytes
made_raised count None = None
made_raised count (Some x) = if is_made count then Some x.0 else None

-- the merchant that gets an entry for a token that it never had
abbrev pub newly : Vault → Option (Bytes × Bytes × Entry) → Option Bytes
newly V None = None
newly V (Some x) = if is_none (entry_at V x.0 x.1) then Some x.0 else None

-- the made count goes up exactly where a new entry comes, and the vault stays sound
pub record Fit (V : Vault) (ch : Changes) : Type 0 where
  pub counted : made_raised ch.count ch.lives ≡ newly V ch.entry
  pub sound : Sound (plus V ch)

-- the answer of an outcome, and the changes that make its vault
pub record Yields (V : Vault) (o : Outcome) (d : Reply × Changes) : Type 0 where
  pub replies : d.0 ≡ o.reply
  pub counted : made_raised d.1.count d.1.lives ≡ newly V d.1.entry
  pub changes : plus V d.1 ≡ o.after

-- of whatever sound vault the window is, the decision is the command's outcome
abbrev pub Decides : Window → Command → Reply × Changes → Type 0
Decides w c d = (V : Vault) → Sound V → IsWindow V c w → Yields V (outcome V c) d

-- in each vault that has the row as the merchant's, the decision is an outcome
abbrev pub YieldsAt : Bytes → MerchantRow → (Vault → Merchant → Outcome) → Reply × Changes → Type 0
YieldsAt m row o d =
    (V : Vault) (known : Merchant) → merchant_at V m ≡ Some known → row ≡ row_of V m known
    → Yields V (o V known) d

-- of whatever sound vault the window is, the changes fit it
abbrev pub FitsVault : Window → Command → Changes → Type 0
FitsVault w c ch = (V : Vault) → Sound V → IsWindow V c w → Fit V ch

-- nothing changes
abbrev pub no_changes : Changes
no_changes = record { lives = None; count = None; entry = None; recorded = None; right = None }

-- the merchant's lives as they are, and its moment moved
abbrev pub moved_lives : Bytes → MerchantRow → ℕ → Bytes × Lives
moved_lives m row now = (m, record (row_lives row) { moment = max row.moment now })

-- a request is recorded with the token that it is answered, and the merchant's moment moves
abbrev pub record_changes : TokenRequest → MerchantRow → Bytes → Changes
record_changes a row token =
    let r : Record = record { merchant = a.merchant; token = token; usage = a.usage } in
    record no_changes {
      lives = Some (moved_lives a.merchant row a.moment);
      recorded = Some (a.caller, a.request, r);
    }

-- one more number was denied at the merchant, whose moment moves, and nothing else changes
abbrev pub CountsDenial : Bytes → Changes → Type 0
CountsDenial m ch =
    (lives : Lives) × (ch ≡ record no_changes { lives = Some (m, lives); count = Some Denied })

-- a refusal changes nothing, unless its number is one of these, by which a denial is counted
abbrev pub RefusesBy : (ℕ → Bool) → Bytes → Reply → Changes → Type 0
RefusesBy counted m (Refused number) ch =
    (counted number ≡ true → CountsDenial m ch) × (counted number ≡ false → ch ≡ no_changes)
RefusesBy counted m reply ch = Unit {0}

-- a refused command changes nothing, but that a denial is counted
abbrev pub RefusesQuietly : Command → Reply → Changes → Type 0
RefusesQuietly c reply ch = RefusesBy (is_denial c) (merchant_of c) reply ch
