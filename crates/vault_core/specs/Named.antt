-- Who asks what of whom: a command's merchant and caller, and which refusals of it are counted.
use Rattle.std.specs.Prelude.{◌||◌, ◌==◌, ℕ, Bool, true, false, Option, Some, None}
use Rattle.vault_core.specs.Keys.{Bytes}
use Rattle.vault_core.specs.Parts.{parts_of}
use Rattle.vault_core.specs.Refusals.{no_right, no_token, token_purged, token_revoked, token_expired}
use Rattle.vault_core.specs.declared.command.Command.{Command}
use Rattle.vault_core.specs.declared.command.Command.TheVariants as command
use Rattle.vault_core.specs.declared.parts.Parts.{Parts}
use Rattle.vault_core.specs.declared.parts.Parts.TheVariants.{SetMerchant, Grant, Withdraw, Tokenize}
use Rattle.vault_core.specs.declared.parts.Parts.TheVariants.{Detokenize, View, Revoke, Purge, Audit}

-- the merchant that parts name
abbrev pub merchant_in : Parts → Bytes
merchant_in (SetMerchant m x) = m
merchant_in (Grant caller m right until now) = m
merchant_in (Withdraw caller m right now) = m
merchant_in (Tokenize a) = a.merchant
merchant_in (Detokenize t) = t.merchant
merchant_in (View t) = t.merchant
merchant_in (Revoke t) = t.merchant
merchant_in (Purge t) = t.merchant
merchant_in (Audit caller m now) = m

-- the merchant that a command names
abbrev pub merchant_of : Command → Bytes
merchant_of c = merchant_in (parts_of c)

-- the caller who asks; whoever sets merchants and rights is none
abbrev pub caller_in : Parts → Option Bytes
caller_in (Tokenize a) = Some a.caller
caller_in (Detokenize t) = Some t.caller
caller_in (View t) = Some t.caller
caller_in (Revoke t) = Some t.caller
caller_in (Purge t) = Some t.caller
caller_in (Audit caller m now) = Some caller
caller_in p = None

-- the caller that makes a command
abbrev pub caller_of : Command → Option Bytes
caller_of c = caller_in (parts_of c)

-- whether a command asks for a number
abbrev pub is_redeem : Command → Bool
is_redeem (command.Detokenize caller m token now) = true
is_redeem c = false

-- the refusals by which a number is denied: 8 and 13 to 16
abbrev pub denies : ℕ → Bool
denies number =
    number == no_right || number == no_token
    || number == token_purged || number == token_revoked || number == token_expired

-- whether a refusal is a denial, which is counted: a number was asked for, of a merchant that is known
abbrev pub is_denial : Command → ℕ → Bool
is_denial (command.Detokenize caller m token now) number = denies number
is_denial c number = false
