use Rattle.std.proofs.Common.{◌∙◌, ◌≡◌, subst}
use Rattle.std.proofs.IntoIterSteps.{All-taken}
use Rattle.sqlite.specs.Held.{state}
use Rattle.vault_steps.proofs.Entered.{AreWritten, piece_turned}
use Rattle.vault_steps.specs.Entries.{joined}
use Rattle.vault_steps.proofs.cards.put_pieces.Goals as goal

pub loop-piece-preserved : goal.loop-piece-preserved
loop-piece-preserved g c = (
  c.in_ok-put_entries.ensures.same_reference ∙ c.loop-piece.invariant.0,
  piece_turned c.loop-piece.yielded c.in-Some.piece c.loop-piece.invariant.1
      (rw (c.as_slice.ensures.value) at c.in_ok-put_entries.ensures.done),
)

pub returns : goal.returns
returns g c =
    let all : c.loop-piece.yielded ≡ c.args.pieces.items =
    All-taken c.into_iter-piece-iterator.result c.loop-piece.yielded
    (c.next.new.self, (c.loop-piece.piece-iterator, c.loop-piece.yielded_by, c.in-None.ensures.steps))
    ∙ c.into_iter-piece-iterator.ensures.into_iter_gives.0 in
    record {
      same_reference = c.loop-piece.invariant.0;
      done =
          subst (λ pieces. AreWritten (state g.S.Store c.args.tx.now.conn.now)
          (state g.S.Store c.loop-piece.tx.conn.now) (joined pieces)) all c.loop-piece.invariant.1;
    }
