-- What holds over every list of commands from a sound vault.
use Rattle.std.specs.Prelude.{◌≡◌, ℕ, List, Option, Some, None, is_some, true, false}
use Rattle.vault_pan.specs.Luhn.{passes_check}
use Rattle.vault_core.specs.Keys.{Bytes}
use Rattle.vault_core.specs.Proper.{IsProper, AllProper}
use Rattle.vault_core.specs.Runs.{run, LeavesOut}
use Rattle.vault_core.specs.Sound.{Sound}
use Rattle.vault_core.specs.Parts.{command_of}
use Rattle.vault_core.specs.Table.{reply, after}
use Rattle.vault_core.specs.Vault.{Vault, entry_at}
use Rattle.vault_core.specs.declared.command.Command.{Command}
use Rattle.vault_core.specs.declared.command.TokenRequest.{TokenRequest}
use Rattle.vault_core.specs.declared.reply.Reply.TheVariants.{Token}
use Rattle.vault_core.specs.declared.row.Entry.{Entry}

-- the vault that commands leave is sound; as the list is any, so is every vault on the way
abbrev pub StaysSound : Type 0
StaysSound = (V : Vault) (cs : List Command) → Sound V → AllProper cs → Sound (run cs V)

-- no token of a merchant passes the card check
abbrev pub TokensFail : Type 0
TokensFail =
    (V : Vault) (cs : List Command) → Sound V → AllProper cs
    → (m token : Bytes) → is_some (entry_at (run cs V) m token) ≡ true → passes_check token ≡ false

-- this number, or none
abbrev pub IsOrPurged : Bytes → Option Bytes → Type 0
IsOrPurged number None = Unit {0}
IsOrPurged number (Some other) = other ≡ number

-- an entry that is found has this number, or none
abbrev pub HasOrPurged : Bytes → Option Entry → Type 0
HasOrPurged number found = (entry : Entry) × (found ≡ Some entry) × IsOrPurged number entry.number

-- no two card numbers ever share a merchant's token: an entry that once had a number has it, or is
-- purged, at every later place
abbrev pub NumbersNeverShare : Type 0
NumbersNeverShare =
    (V : Vault) (cs : List Command) → Sound V → AllProper cs
    → (m token number : Bytes) (entry : Entry) → entry_at V m token ≡ Some entry → entry.number ≡ Some number
    → HasOrPurged number (entry_at (run cs V) m token)

-- the request comes again: all but the digits and the moment are the same
pub record IsSameRequest (first again : TokenRequest) : Type 0 where
  pub caller : again.caller ≡ first.caller
  pub merchant : again.merchant ≡ first.merchant
  pub number : again.request ≡ first.request
  pub usage : again.usage ≡ first.usage
  pub pan : again.pan ≡ first.pan

-- a Tokenize that is answered with a token is answered the same whenever it comes again with its
-- caller, request number, merchant, use and card number, whatever comes between
abbrev pub RepeatsAnswerFirst : Type 0
RepeatsAnswerFirst =
    (V : Vault) (first again : TokenRequest) (between : List Command) (token : Bytes) (expires : ℕ)
    → Sound V → IsProper (command_of first) → AllProper between
    → IsSameRequest first again
    → reply V (command_of first) ≡ Token token expires
    → reply (run between (after V (command_of first))) (command_of again) ≡ Token token expires

-- leaving out commands that aren't accepted leaves the last vault as it is
abbrev pub UnacceptedCanBeLeftOut : Type 0
UnacceptedCanBeLeftOut =
    (V : Vault) (cs fewer : List Command) → LeavesOut cs fewer V → run fewer V ≡ run cs V
