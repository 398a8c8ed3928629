-- The purges of a merchant's tokens.
use Rattle.std.specs.Prelude.{ℕ, List, map}
use Rattle.vault_core.specs.Keys.{Bytes}
use Rattle.vault_core.specs.declared.command.Command.{Command}
use Rattle.vault_core.specs.declared.command.Command.TheVariants.{Purge}

-- the commands by which a caller purges the numbers of a merchant's tokens at one moment, in their order
abbrev pub purges_of : Bytes → Bytes → ℕ → List Bytes → List Command
purges_of caller m now tokens = map (λ token. Purge caller m token now) tokens
