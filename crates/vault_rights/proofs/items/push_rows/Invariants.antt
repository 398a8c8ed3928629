use Rattle.vault_rights.specs.Named.{IsExtendedBy}
use Rattle.vault_rights.proofs.Numbers.{IsRowUpTo}
use Rattle.vault_rights.proofs.items.push_rows.Given as goal

abbrev pub invariant-loop-right : goal.invariant-loop-right
invariant-loop-right l =
    IsExtendedBy (IsRowUpTo l.caller l.merchant l.grants l.right-index) l.initial.rows.items l.rows.items
