use Rattle.std.proofs.Common.{◌≡◌, take}
use Rattle.std.specs.Option.{option_copied}
use Rattle.vault_core.specs.Keys.{Bytes}
use Rattle.vault_rules.specs.Index.{at_text, made_of}
use Rattle.vault_rules.proofs.index.maps.made_by_merchant.Given as goal

abbrev pub invariant-loop-row : goal.invariant-loop-row
invariant-loop-row l =
    (name : Bytes) → option_copied (at_text l.map name) ≡ made_of (take l.row-index l.counts) name
