-- Rows that are shown.
use Rattle.std.specs.Prelude.{[], ◌∷◌}
use Rattle.sqlite.specs.Order.{Row}
use Rattle.sqlite.specs.declared.types.Value.TheVariants.{Text}
use Rattle.vault_core.specs.Keys.{Bytes}

-- a row of one text
abbrev pub text_column : Bytes → Row
text_column text = Text text ∷ []
