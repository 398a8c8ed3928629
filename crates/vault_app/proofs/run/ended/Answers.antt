use Rattle.std.proofs.Common.{◌≡◌, [], inl, inr, refl, subst}
use Rattle.vault_jobs.specs.Streams.{seen_as, streams, with_turns}
use Rattle.vault_listen.proofs.ServedConnections.{none_then}
use Rattle.vault_app.specs.Jobs.{DoesPlan}
use Rattle.vault_app.specs.World.{World, world_at}
use Rattle.vault_app.proofs.Unread.{unasked}
use Rattle.vault_app.proofs.run.ended.Goals as goal

pub returns-in-Ok-clause-does : goal.returns-in-Ok-clause-does
returns-in-Ok-clause-does g c =
    let asked = c.in-Ok.ensures.planned.1 in
    let it = c.carry_out-ending.ensures.does in
    let world : World = world_at g.P.Paths (g.K.Timekeeper.tells c.args.time.now)
    (g.D.Desk.says c.args.desk.now)
    c.args.paths in rw (c.of.ensures.ending) (
      it.0,
      it.1,
      inl (
        asked.0,
        asked.1,
        inl (
          c.in-Ok.plan,
          asked.2,
          c.in-Ok.ensures.proper,
          subst (λ o. DoesPlan world c.carry_out-ending.result.1 c.in-Ok.plan c.carry_out-ending.result.0
              (seen_as (c.carry_out-ending.new.input ≡ c.args.input.now) (c.carry_out-ending.new.output ≡ o)
              (with_turns (streams g.R.Read.remaining c.args.input.now c.carry_out-ending.new.input
              g.W.Write.contents o c.carry_out-ending.new.output) it.0))) c.in-Ok.ensures.planned.0 it.2,
        ),
      ),
    )

pub returns-in-Err-clause-does : goal.returns-in-Err-clause-does
returns-in-Err-clause-does g c = (
  [],
  none_then (g.N.Network.tells c.args.network.now),
  elim c.in-Err.ensures.planless [
    | inl h ↦ inl (h.0.0, h.0.1, inr (h.0.2, refl, refl, h.1))
    | inr u ↦ inr (refl, unasked _ c.in-Err.conclusion.ending _ _ refl u)
  ],
)
