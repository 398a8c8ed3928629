use Rattle.std.proofs.Common.{◌≡◌, take}
use Rattle.std.specs.Option.{option_copied}
use Rattle.vault_core.specs.Keys.{Bytes}
use Rattle.vault_rules.specs.Index.{at_text}
use Rattle.vault_rules.specs.Lookups.{merchant_of}
use Rattle.vault_rules.proofs.index.maps.merchants_by_name.Given as goal

abbrev pub invariant-loop-row : goal.invariant-loop-row
invariant-loop-row l =
    (name : Bytes) → option_copied (at_text l.map name) ≡ merchant_of (take l.row-index l.merchants) name
