use Rattle.std.proofs.Common.{[]}
use Rattle.std.proofs.Math.Logic.{∥∥₁_elim, ∥∥₁_prop}
use Rattle.vault_promise.proofs.Witnessing.{some_at}
use Rattle.vault_promise.proofs.twice.twice.Goals as goal

pub returns : goal.returns
returns g c =
    let (r, call, follows) =
    some_at _ _ c.in_ok-middle.field-0 c.in_ok-middle.was c.again-first.ensures.follows in
    let (s, call_again, follows_again) =
    some_at _ _ c.in_ok-left.field-0 c.in_ok-left.was c.again-second.ensures.follows in (
      r,
      s,
      record {
        files = c.in_ok-middle.field-0;
        network = c.again-first.new.network;
        output = c.again-first.new.output;
        errors = c.again-first.new.errors;
      },
      call,
      call_again,
      ∥∥₁_elim c.args.kept.kept ∥∥₁_prop (λ (V, rs, have).
          follows_again.1 V rs [] r (follows.0 V rs have)),
    )
