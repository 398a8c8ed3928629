use Rattle.std.proofs.Common.{◌≡◌, ◌<◌, ◌^◌, map, take}
use Rattle.std.specs.List.{All}
use Rattle.vault_core.specs.Keys.{Bytes}
use Rattle.vault_core.specs.declared.row.Entry.{Entry}
use Rattle.vault_migrate.specs.Typed.{old_columns, typed_columns}
use Rattle.vault_migrate.proofs.typed.typed_piece.Given as goal

-- the entries so far are those of the old ones so far
abbrev pub invariant-loop-older : goal.invariant-loop-older
invariant-loop-older l =
    (map old_columns (take l.older-index l.olders) ≡ map typed_columns l.piece.items)
    × All (λ (x : Bytes × Bytes × Entry). x.2.expires < 2 ^ 63) l.piece.items
