use Rattle.std.proofs.Common.{◌≡◌, ◌++◌}
use Rattle.vault_store.proofs.right_rows.rows_of.Given as goal

-- the rows so far and those that are left are all
abbrev pub invariant-loop-key : goal.invariant-loop-key
invariant-loop-key l = l.found.items ++ l.key-iterator ≡ l.rights.entries
