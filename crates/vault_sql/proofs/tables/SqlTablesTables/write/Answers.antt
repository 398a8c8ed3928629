use Rattle.std.proofs.Common.{arith}
use Rattle.vault_sql.proofs.tables.SqlTablesTables.write.Goals as goal

pub returns-in-Ok-clause-done : goal.returns-in-Ok-clause-done
returns-in-Ok-clause-done g c clean V held sound fit = (
  held.0,
  λ honest.
      let was = held.1 (omega (arith, c.write.ensures.clean, honest)) in (
        c.in-Ok.ensures.done honest V (record {
          held = was.0;
          known_so = c.before-known.ensures V was.1.1;
          sound = sound;
          fits = fit;
        }),
        (c.place_after-self.ensures.past V was.1.0, c.change.ensures V was.1.1 sound fit),
      ),
)
