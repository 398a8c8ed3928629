use Rattle.std.proofs.Common.{◌≡◌, false}
use Rattle.vault_engine.specs.Passing.{passage}
use Rattle.vault_store.specs.Applied.{is_broken, tables_of}
use Rattle.vault_jobs.proofs.Sweeping.{IsSweeping}
use Rattle.vault_jobs.proofs.sweep.sweep.Given as goal

abbrev pub invariant-loop : goal.invariant-loop
invariant-loop g l =
    (is_broken l.vault ≡ false)
    × (g.T.Tables.is_honest (tables_of l.vault) → g.T.Tables.is_honest (tables_of l.initial.vault))
    × IsSweeping l.asker l.now
    (passage g.T.Tables l.initial.vault l.vault)
    l.counter l.count
