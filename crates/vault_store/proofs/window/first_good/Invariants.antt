use Rattle.std.proofs.Common.{◌≡◌}
use Rattle.vault_core.specs.Draw.{chosen_token}
use Rattle.vault_core.specs.Sound.{Sound}
use Rattle.vault_core.specs.Vault.{Vault}
use Rattle.vault_store.specs.Reads.{StillHolds}
use Rattle.vault_store.proofs.Drawn.{chosen_from}
use Rattle.vault_store.proofs.window.first_good.Given as goal

-- no candidate before k is good
abbrev pub invariant-loop-k : goal.invariant-loop-k
invariant-loop-k g l = record {
  honest : g.T.Tables.is_honest l.tables → g.T.Tables.is_honest l.initial.tables;
  kept : StillHolds (g.T.Tables.holds l.initial.tables) (g.T.Tables.holds l.tables);
  failing : g.T.Tables.has_failed l.tables ≡ g.T.Tables.has_failed l.initial.tables;
  passed : g.T.Tables.is_honest l.tables → (V : Vault) → g.T.Tables.holds l.initial.tables V → Sound V
      → chosen_token V l.asked.merchant l.asked.pan l.asked.digits
      ≡ chosen_from V l.asked.merchant l.asked.pan l.asked.digits l.k;
}
