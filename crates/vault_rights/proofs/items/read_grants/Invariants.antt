use Rattle.std.proofs.Common.{◌≡◌, map, take}
use Rattle.toml.specs.View.{view}
use Rattle.vault_rights.proofs.Words.{grant_data, AreMoments}
use Rattle.vault_rights.proofs.items.read_grants.Given as goal

abbrev pub invariant-loop-item : goal.invariant-loop-item
invariant-loop-item l = record {
  read : map view (take l.item-index l.item-items) ≡ map grant_data l.grants.items;
  moments : AreMoments l.grants.items;
}
