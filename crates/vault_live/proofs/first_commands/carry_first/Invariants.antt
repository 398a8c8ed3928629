use Rattle.std.proofs.Common.{◌≡◌, false, map, take}
use Rattle.vault_changes.specs.Grants.{AreDone}
use Rattle.vault_core.specs.Runs.{run}
use Rattle.vault_core.specs.Vault.{Vault as Content}
use Rattle.vault_store.specs.Applied.{Contains, is_broken, tables_of}
use Rattle.vault_live.proofs.first_commands.carry_first.Given as goal

abbrev pub invariant-loop-item : goal.invariant-loop-item
invariant-loop-item g l =
    let cs = map (g.O.Orders.command_of l.orders) l.items in
    record {
      count : l.done ≡ l.item-index;
      whole : is_broken l.vault ≡ false;
      honest : g.T.Tables.is_honest (tables_of l.vault) → g.T.Tables.is_honest (tables_of l.initial.vault);
      kept : (V : Content) → g.T.Tables.is_honest (tables_of l.vault)
          → Contains g.T.Tables.holds l.initial.vault V
          → AreDone l.done cs V × Contains g.T.Tables.holds l.vault (run (take l.done cs) V);
    }
