-- The rows that a command needs, and the commands that change none.
use Rattle.std.specs.Prelude.{◌≡◌, ℕ, Option, Some, None, IsSome, IfNone, false, option_map}
use Rattle.std.specs.Option.{option_map_or}
use Rattle.std.specs.FinMap as map
use Rattle.vault_core.specs.Draw.{chosen_token}
use Rattle.vault_core.specs.Keys.{Bytes}
use Rattle.vault_core.specs.Lives.{counted_row, lives_in, row_lives}
use Rattle.vault_core.specs.Parts.{parts_of}
use Rattle.vault_core.specs.Repeats.{record_with_entry, current, reusable}
use Rattle.vault_core.specs.Scalar.{IsLife}
use Rattle.vault_core.specs.Vault.{Vault, Merchant, merchant_at, entry_at, entitled, made_count, time_at}
use Rattle.vault_core.specs.Vault.{life_for}
use Rattle.vault_core.specs.declared.command.Command.{Command}
use Rattle.vault_core.specs.declared.command.Command.TheVariants as command
use Rattle.vault_core.specs.declared.command.TokenCommand.{TokenCommand}
use Rattle.vault_core.specs.declared.command.TokenRequest.{TokenRequest}
use Rattle.vault_core.specs.declared.parts.Parts.{Parts}
use Rattle.vault_core.specs.declared.parts.Parts.TheVariants.{SetMerchant, Grant, Withdraw, Tokenize}
use Rattle.vault_core.specs.declared.parts.Parts.TheVariants.{Detokenize, View, Revoke, Purge, Audit}
use Rattle.vault_core.specs.declared.right.Right.TheVariants as right
use Rattle.vault_core.specs.declared.row.MerchantRow.{MerchantRow}
use Rattle.vault_core.specs.declared.window.Window.{Window}

-- a merchant with the number of its tokens
abbrev pub row_of : Vault → Bytes → Merchant → MerchantRow
row_of V m merchant =
    counted_row (lives_in merchant) (made_count V m) merchant.given merchant.denied

-- the row of a merchant's name
abbrev pub row_at : Vault → Bytes → Option MerchantRow
row_at V m = option_map (row_of V m) (merchant_at V m)

-- the moment of a command at a merchant: the one handed in where the merchant isn't known
abbrev pub moment_at : Vault → Bytes → ℕ → ℕ
moment_at V m now = option_map_or (λ merchant. time_at merchant now) (merchant_at V m) now

-- what the vault holds at the places that a Tokenize without a record needs: a candidate only where no live
-- token is given again
pub record ShowsNewRequest (V : Vault) (a : TokenRequest) (w : Window) : Type 0 where
  pub merchant : w.merchant ≡ row_at V a.merchant
  pub right : w.right ≡ entitled V a.caller a.merchant right.Tokenize (moment_at V a.merchant a.moment)
  pub held : w.current ≡ reusable a.usage (current V a.merchant a.pan (moment_at V a.merchant a.moment))
  pub candidate : IfNone w.current (w.candidate ≡ chosen_token V a.merchant a.pan a.digits)

-- what the vault holds at the places that a Tokenize needs: its record, and the others where none stands
pub record ShowsRequest (V : Vault) (a : TokenRequest) (w : Window) : Type 0 where
  pub before : w.recorded ≡ record_with_entry V a.caller a.request
  pub others : IfNone w.recorded (ShowsNewRequest V a w)

-- what the vault holds at the places that a command on a token needs
pub record ShowsToken (V : Vault) (t : TokenCommand) (w : Window) : Type 0 where
  pub merchant : w.merchant ≡ row_at V t.merchant
  pub right : w.right ≡ entitled V t.caller t.merchant t.right (moment_at V t.merchant t.moment)
  pub named : w.named ≡ entry_at V t.merchant t.token

-- what the vault holds at the places that these parts need
abbrev pub ShowsParts : Vault → Parts → Window → Type 0
ShowsParts V (SetMerchant m x) w = (w.merchant ≡ row_at V m) × (w.merchants ≡ map.len V.merchants)
ShowsParts V (Grant caller m right until now) w = w.merchant ≡ row_at V m
ShowsParts V (Withdraw caller m right now) w = w.merchant ≡ row_at V m
ShowsParts V (Tokenize a) w = ShowsRequest V a w
ShowsParts V (Detokenize t) w = ShowsToken V t w
ShowsParts V (View t) w = ShowsToken V t w
ShowsParts V (Revoke t) w = ShowsToken V t w
ShowsParts V (Purge t) w = ShowsToken V t w
ShowsParts V (Audit caller m now) w =
    (w.merchant ≡ row_at V m) × (w.right ≡ entitled V caller m right.Audit (moment_at V m now))

-- the window shows what the vault holds at the places that the command needs
abbrev pub IsWindow : Vault → Command → Window → Type 0
IsWindow V c w = ShowsParts V (parts_of c) w

-- a View, an Audit, and a request that the window shows to be recorded before change nothing
abbrev pub WritesNothing : Window → Command → Type 0
WritesNothing w (command.Tokenize caller m request usage pan digits now) = IsSome w.recorded
WritesNothing w (command.View caller m token now) = Unit {0}
WritesNothing w (command.Audit caller m now) = Unit {0}
WritesNothing w c = ⊥

-- nothing is shown
abbrev pub empty_window : Window
empty_window =
    record {
      merchant = None;
      merchants = 0;
      right = false;
      recorded = None;
      current = None;
      candidate = None;
      named = None;
    }

-- the window of a Tokenize without a record shows a merchant that is known
pub record ShowsMerchant (V : Vault) (a : TokenRequest) (known : Merchant) (w : Window)
    (row : MerchantRow) : Type 0 where
  pub known_as : merchant_at V a.merchant ≡ Some known
  pub lives : row_lives row ≡ lives_in known
  pub made_is : row.made ≡ made_count V a.merchant
  pub right : w.right ≡ entitled V a.caller a.merchant right.Tokenize (time_at known a.moment)
  pub held : w.current ≡ reusable a.usage (current V a.merchant a.pan (time_at known a.moment))
  pub life : IsLife (life_for a.usage known.single_life known.multi_life)
  pub candidate : IfNone w.current (w.candidate ≡ chosen_token V a.merchant a.pan a.digits)
