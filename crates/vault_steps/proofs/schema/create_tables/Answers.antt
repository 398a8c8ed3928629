use Rattle.std.proofs.Common.{arith}
use Rattle.sqlite.specs.Held.{state}
use Rattle.sqlite.specs.State.{HasCleanDisk}
use Rattle.sql_tables.proofs.Calls.{on_ok}
use Rattle.vault_steps.proofs.schema.create_tables.Goals as goal

-- the tables of schema 1, and over them those that the later ones have besides
pub returns-clause-done : goal.returns-clause-done
returns-clause-done g c clean =
    let second : HasCleanDisk (state g.S.Store c.create_second.new.tx.conn.now) =
    omega (arith, c.create_last.ensures.goes_on.steps.clean, clean) in
    let first : HasCleanDisk (state g.S.Store c.create_first.new.tx.conn.now) =
    omega (arith, c.in_ok-create_second.ensures.goes_on.steps.clean, second) in
    on_ok c.create_last.result (c.create_last.ensures.done clean) (λ last base begun.
    last base (c.in_ok-create_second.ensures.done second base
    (c.in_ok-create_first.ensures.done first base begun)))
