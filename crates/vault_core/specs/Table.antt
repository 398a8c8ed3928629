-- What each command answers, and the vault that it leaves.
use Rattle.vault_core.specs.Merchants.{set_merchant, grant, withdraw}
use Rattle.vault_core.specs.Outcome.{Outcome}
use Rattle.vault_core.specs.Parts.{parts_of}
use Rattle.vault_core.specs.Redeem.{detokenize}
use Rattle.vault_core.specs.Retire.{revoke, purge}
use Rattle.vault_core.specs.Show.{view, audit}
use Rattle.vault_core.specs.Tokens.{tokenize}
use Rattle.vault_core.specs.Vault.{Vault}
use Rattle.vault_core.specs.declared.command.Command.{Command}
use Rattle.vault_core.specs.declared.parts.Parts.{Parts}
use Rattle.vault_core.specs.declared.parts.Parts.TheVariants.{SetMerchant, Grant, Withdraw, Tokenize}
use Rattle.vault_core.specs.declared.parts.Parts.TheVariants.{Detokenize, View, Revoke, Purge, Audit}
use Rattle.vault_core.specs.declared.reply.Reply.{Reply}

-- what these parts are answered, and the vault that they leave: the first case that applies
abbrev pub outcome_by : Vault → Parts → Outcome
outcome_by V (SetMerchant m x) = set_merchant V m x
outcome_by V (Grant caller m right until now) = grant V caller m right until now
outcome_by V (Withdraw caller m right now) = withdraw V caller m right now
outcome_by V (Tokenize a) = tokenize V a
outcome_by V (Detokenize t) = detokenize V t
outcome_by V (View t) = view V t
outcome_by V (Revoke t) = revoke V t
outcome_by V (Purge t) = purge V t
outcome_by V (Audit caller m now) = audit V caller m now

-- what a command is answered, and the vault that it leaves
abbrev pub outcome : Vault → Command → Outcome
outcome V c = outcome_by V (parts_of c)

-- what a command is answered
abbrev pub reply : Vault → Command → Reply
reply V c = (outcome V c).reply

-- the vault that a command leaves
abbrev pub after : Vault → Command → Vault
after V c = (outcome V c).after
