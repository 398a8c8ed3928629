use Rattle.std.proofs.lemmas.Str.{IsUtf8-from_ascii}
use Rattle.vault_pan.proofs.MaskLemmas.{masked-IsAscii}
use Rattle.vault_pan.proofs.mask.Masked.as_str.Goals as goal

pub unreachable-requires : goal.unreachable-requires
unreachable-requires c =
    c.in_default.ensures.cases.0
    (IsUtf8-from_ascii _ (rw c.text.ensures.value (masked-IsAscii _ c.text.ensures.masked)))
