use Rattle.std.proofs.Common.{◌∙◌, sym, Err}
use Rattle.vault_verdict.proofs.Results.{one_fault}
use Rattle.vault_migrate.proofs.open.open.Goals as goal

pub returns-in-Ok-clause-strange : goal.returns-in-Ok-clause-strange
returns-in-Ok-clause-strange g c foreign unversioned whole =
    absurd (let clash = sym c.in-Ok.is ∙ (c.ready.ensures.foreign.strange foreign unversioned whole).0 in cc)

pub returns-in-Err-clause-mixed : goal.returns-in-Err-clause-mixed
returns-in-Err-clause-mixed g c foreign unversioned mixed =
    let told = c.ready.ensures.foreign.mixed foreign unversioned mixed in
    λ i. Err (one_fault _ _ _ c.in-Err.is told.0 i, told.1 i)

pub returns-in-Err-clause-strange : goal.returns-in-Err-clause-strange
returns-in-Err-clause-strange g c foreign unversioned whole =
    let told = c.ready.ensures.foreign.strange foreign unversioned whole in
    λ i. Err (one_fault _ _ _ c.in-Err.is told.0 i, told.1 i)
