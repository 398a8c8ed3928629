-- What rows are replied to.
use Rattle.vault_core.specs.Vault.{Vault as Content}
use Rattle.vault_core.specs.declared.reply.Reply.{Reply}
use Rattle.vault_core.specs.declared.reply.Reply.TheVariants.{Token, Refused}
use Rattle.vault_engine.specs.Asking.{reply_to}
use Rattle.vault_batch.specs.Asking.{Asked, Asks}
use Rattle.vault_batch.specs.declared.asker.Asker.{Asker}

-- a token, or the number of a refusal
abbrev pub HasCells : Reply → Type 0
HasCells (Token token expires) = Unit {0}
HasCells (Refused n) = Unit {0}
HasCells other = ⊥

-- Whatever a row asks for, each vault replies to it by a token or by the number of a refusal.
abbrev pub RowsHaveLines : Type 0
RowsHaveLines = (who : Asker) (x : Asked) (V : Content) → Asks who x → HasCells (reply_to V x.wanted)
