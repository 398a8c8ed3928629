use Rattle.std.proofs.Common.{◌≡◌, [], Some, ap, inl, inr, refl, subst, sym, ◌∙◌}
use Rattle.vault_file.specs.declared.fault.NotOpened.TheVariants as file
use Rattle.vault_verdict.specs.declared.fault.OpenFault.TheVariants.{Memory}
use Rattle.vault_jobs.proofs.Parts.{unlinked}
use Rattle.vault_jobs.specs.Streams.{Streams, seen_as, streams, with_turns}
use Rattle.vault_listen.proofs.ServedConnections.{none_then}
use Rattle.vault_sql.proofs.Remembering.{nothing_is}
use Rattle.vault_sql.specs.Held.{Know}
use Rattle.vault_sql.specs.Places.{IsPast}
use Rattle.vault_sql.specs.Remembered.{IsOf}
use Rattle.vault_recover.specs.declared.unopened.Unopened.TheVariants.{Missing}
use Rattle.vault_app.proofs.Files.{ended, refused_file, works}
use Rattle.vault_app.specs.Files.{EndsOnFile}
use Rattle.vault_app.specs.World.{World, outside_in, world_at}
use Rattle.vault_app.proofs.on_file.do_on_file.Goals as goal

pub returns-in-Err-open_vault : goal.returns-in-Err-open_vault
returns-in-Err-open_vault g c =
    let world : World = world_at g.P.Paths (g.K.Timekeeper.tells c.args.time.now)
    (g.D.Desk.says c.args.desk.now)
    c.args.paths in
    let s : Streams = with_turns (streams g.R.Read.remaining c.args.input.now c.args.input.now
    g.W.Write.contents c.args.output.now c.args.output.now) [] in
    let told = c.in-Err-open_vault.ensures in
    record {
      does = unlinked (g.N.Network.tells c.args.network.now) _ (refused_file world c.args.path.now
          (c.args.input.now ≡ c.args.input.now) (c.args.output.now ≡ c.args.output.now) s
          c.in-Err-open_vault.left
          c.args.task.now c.in-Err-open_vault.fault told.refused told.refused_there told.rightly
          told.left told.same refl refl);
    }

pub returns-in-Ok-true : goal.returns-in-Ok-true
returns-in-Ok-true g c =
    record {
      does = (
        [],
        none_then (g.N.Network.tells c.args.network.now),
        (
          file.Refused Missing,
          refl,
          inr (inl (
            refl,
            c.only_shows.ensures c.if-only_shows.true,
            c.in-Ok-true.ensures c.in-Ok-true.field-0-test,
          )),
          refl,
          refl,
        ),
      );
    }

pub returns-in-Err : goal.returns-in-Err
returns-in-Err g c =
    record {
      does = (
        [],
        none_then (g.N.Network.tells c.args.network.now),
        (
          file.Fault Memory,
          refl,
          inr (inr (refl, c.only_shows.ensures c.if-only_shows.true)),
          refl,
          refl,
        ),
      );
    }

pub returns : goal.returns
returns g c =
    let it = c.do_task-outcome.ensures.does in
    let world : World = world_at g.P.Paths (g.K.Timekeeper.tells c.args.time.now)
    (g.D.Desk.says c.args.desk.now)
    c.args.paths in
    let s : Streams = with_turns (streams g.R.Read.remaining c.args.input.now c.do_task-outcome.new.input
    g.W.Write.contents c.args.output.now c.do_task-outcome.new.output) it.0 in
    let unread : Type 0 = c.do_task-outcome.new.input ≡ c.args.input.now in
    let unsent : Type 0 = c.do_task-outcome.new.output ≡ c.args.output.now in
    let left = c.close-left.result in
    let fresh = c.in-Ok.ensures.fresh in
    record {
      does = (
        it.0,
        it.1,
        subst (λ e. EndsOnFile world c.args.path.now (Some left) c.args.task.now e (seen_as unread unsent s))
            (sym c.ending_of.ensures)
            (ended world c.args.path.now unread unsent s left c.args.task.now c.do_task-outcome.result.0
            c.do_task-outcome.result.1
            (works (λ t. t.conn) (λ t. t.failed) (λ t V. Know t V) (outside_in world)
            (world.holds c.args.path.now) c.in-Ok.vault
            c.do_task-outcome.new.vault left c.args.task.now c.do_task-outcome.result.0
            c.do_task-outcome.result.1
            unread unsent s c.in-Ok.ensures.found (
              fresh.1.0,
              λ V. (
                subst (λ place. IsPast place V) (sym fresh.1.1) tt,
                subst (λ r. IsOf r V) (sym fresh.1.2) (nothing_is V),
              ),
            )
            c.do_task-outcome.ensures.disk_honest
            c.into_connection.result (c.into_connection.ensures ∙ ap (λ t. t.conn) c.into_tables.ensures)
            c.close-left.ensures.clean c.close-left.ensures.after it.2)),
      );
    }
