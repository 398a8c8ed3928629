use Rattle.std.proofs.Math.Logic.{∥∥₁_map}
use Rattle.vault_promise.proofs.JoinedRuns.{fewer_left}
use Rattle.vault_promise.proofs.kept.KeptFiles.stopped.Goals as goal

pub invariant_of-result : goal.invariant_of-result
invariant_of-result c = record {
  kept = ∥∥₁_map c.args.self.kept (λ (V, rs, have). (
    V,
    rs,
    fewer_left _ _ (λ next may. (c.crash.ensures.crash _ may.0, c.crash-2.ensures.crash _ may.1)) V rs have,
  ));
}

pub returns-clause-kept : goal.returns-clause-kept
returns-clause-kept c V rs have =
    fewer_left _ _ (λ next may. (c.crash.ensures.crash _ may.0, c.crash-2.ensures.crash _ may.1)) V rs have
