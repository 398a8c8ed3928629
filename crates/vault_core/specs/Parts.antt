-- Commands taken apart, and put together again.
use Rattle.std.specs.Prelude.{◌≡◌, ℕ, Option, Some, None}
use Rattle.vault_core.specs.Keys.{Bytes}
use Rattle.vault_core.specs.Lives.{handed_lives, setting}
use Rattle.vault_core.specs.declared.command.Command.{Command}
use Rattle.vault_core.specs.declared.command.Command.TheVariants as command
use Rattle.vault_core.specs.declared.command.TokenCommand.{TokenCommand}
use Rattle.vault_core.specs.declared.command.TokenRequest.{TokenRequest}
use Rattle.vault_core.specs.declared.parts.Parts.{Parts}
use Rattle.vault_core.specs.declared.parts.Parts.TheVariants.{SetMerchant, Grant, Withdraw, Tokenize}
use Rattle.vault_core.specs.declared.parts.Parts.TheVariants.{Detokenize, View, Revoke, Purge, Audit}
use Rattle.vault_core.specs.declared.right.Right.{Right}
use Rattle.vault_core.specs.declared.right.Right.TheVariants as right
use Rattle.vault_core.specs.declared.usage.Use.{Use}

-- the parts of a Tokenize, with the moment and the drawn digits as a source gives them
abbrev pub token_request : Bytes → Bytes → ℕ → Use → Bytes → ℕ × Bytes → TokenRequest
token_request caller m request usage pan given =
    record {
      caller = caller;
      merchant = m;
      request = request;
      usage = usage;
      pan = pan;
      digits = given.1;
      moment = given.0;
    }

-- the command of a request for a token
abbrev pub command_of : TokenRequest → Command
command_of a = command.Tokenize a.caller a.merchant a.request a.usage a.pan a.digits a.moment

-- the parts of a command on one token, with the right that it asks for
abbrev pub token_command : Bytes → Bytes → Bytes → Right → ℕ → TokenCommand
token_command caller m token right now =
    record { caller = caller; merchant = m; token = token; right = right; moment = now }

-- the command of a kind with these parts
abbrev pub command_by : (Bytes → Bytes → Bytes → ℕ → Command) → TokenCommand → Command
command_by kind t = kind t.caller t.merchant t.token t.moment

-- the parts of a command, one kind for each; one on a token asks for its own right
abbrev pub parts_of : Command → Parts
parts_of (command.SetMerchant m single multi lead now) = SetMerchant m (handed_lives single multi lead now)
parts_of (command.Grant caller m right until now) = Grant caller m right until now
parts_of (command.Withdraw caller m right now) = Withdraw caller m right now
parts_of (command.Tokenize caller m request usage pan digits now) =
    Tokenize (token_request caller m request usage pan (now, digits))
parts_of (command.Detokenize caller m token now) =
    Detokenize (token_command caller m token right.Detokenize now)
parts_of (command.View caller m token now) = View (token_command caller m token right.View now)
parts_of (command.Revoke caller m token now) = Revoke (token_command caller m token right.Revoke now)
parts_of (command.Purge caller m token now) = Purge (token_command caller m token right.Purge now)
parts_of (command.Audit caller m now) = Audit caller m now

-- the command that has these parts
abbrev pub command_with : Parts → Command
command_with (SetMerchant m x) = setting m x
command_with (Grant caller m right until now) = command.Grant caller m right until now
command_with (Withdraw caller m right now) = command.Withdraw caller m right now
command_with (Tokenize a) = command_of a
command_with (Detokenize t) = command_by command.Detokenize t
command_with (View t) = command_by command.View t
command_with (Revoke t) = command_by command.Revoke t
command_with (Purge t) = command_by command.Purge t
command_with (Audit caller m now) = command.Audit caller m now

-- the request that a command is, where it asks for a token
abbrev pub request_in : Command → Option TokenRequest
request_in (command.Tokenize caller m request usage pan digits now) =
    Some (token_request caller m request usage pan (now, digits))
request_in c = None

-- the parts of a command, where it is one on a token
abbrev pub token_command_in : Command → Option TokenCommand
token_command_in (command.Detokenize caller m token now) =
    Some (token_command caller m token right.Detokenize now)
token_command_in (command.View caller m token now) = Some (token_command caller m token right.View now)
token_command_in (command.Revoke caller m token now) = Some (token_command caller m token right.Revoke now)
token_command_in (command.Purge caller m token now) = Some (token_command caller m token right.Purge now)
token_command_in c = None

-- the parts of a command on a token have its own right
abbrev pub AsksByRight : Parts → Type 0
AsksByRight (Detokenize t) = t.right ≡ right.Detokenize
AsksByRight (View t) = t.right ≡ right.View
AsksByRight (Revoke t) = t.right ≡ right.Revoke
AsksByRight (Purge t) = t.right ≡ right.Purge
AsksByRight p = Unit {0}
