use Rattle.std.proofs.lemmas.Str.{IsUtf8-from_ascii}
use Rattle.vault_pan.proofs.TextLemmas.{digits-IsAscii}
use Rattle.vault_pan.proofs.text.as_text.Goals as goal

pub unreachable-requires : goal.unreachable-requires
unreachable-requires c = c.in_default.ensures.cases.0 (IsUtf8-from_ascii _ (digits-IsAscii _ c.requires))
