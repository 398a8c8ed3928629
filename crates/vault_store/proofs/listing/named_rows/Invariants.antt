use Rattle.std.proofs.Common.{◌≡◌, ◌++◌, drop}
use Rattle.vault_core.specs.Sound.{Sound}
use Rattle.vault_core.specs.Vault.{Vault}
use Rattle.vault_store.specs.Reads.{StillHolds}
use Rattle.vault_store.proofs.ListedRows.{rows_for}
use Rattle.vault_store.proofs.listing.named_rows.Given as goal

-- the rows so far and those of the names that are left are those of all names
abbrev pub invariant-loop-name : goal.invariant-loop-name
invariant-loop-name g l = record {
  honest : g.T.Tables.is_honest l.tables → g.T.Tables.is_honest l.initial.tables;
  kept : StillHolds (g.T.Tables.holds l.initial.tables) (g.T.Tables.holds l.tables);
  failing : g.T.Tables.has_failed l.tables ≡ g.T.Tables.has_failed l.initial.tables;
  listed : g.T.Tables.is_honest l.tables → (V : Vault) → g.T.Tables.holds l.initial.tables V → Sound V
      → l.rows.items ++ rows_for V (drop l.name-index l.name-items) ≡ rows_for V l.name-items;
}
