use Rattle.std.proofs.Common.{Err, inr, refl, true}
use Rattle.vault_file.specs.declared.fault.NotOpened.TheVariants as file
use Rattle.vault_verdict.specs.declared.fault.OpenFault.TheVariants.{Memory}
use Rattle.vault_jobs.proofs.Parts.{unlinked}
use Rattle.vault_app.proofs.Files.{checked, if_ok, moved}
use Rattle.vault_app.proofs.Values.{has_lives}
use Rattle.vault_app.specs.World.{World, world_at}
use Rattle.vault_app.proofs.run.carry_out.Goals as goal

pub do_on_file-requires : goal.do_on_file-requires
do_on_file-requires g c = record { proper = has_lives c.in-Do.task (rw c.in-Do.is at c.requires) }

pub returns-in-Ok : goal.returns-in-Ok
returns-in-Ok g c =
    let world : World = world_at g.P.Paths (g.K.Timekeeper.tells c.args.time.now)
    (g.D.Desk.says c.args.desk.now)
    c.args.paths in
    let told = c.check_file-checked.ensures in
    let is = checked world c.in-Check.path.now c.check_file-checked.result.1 c.check_file-checked.result.0
    told.empty told.refused told.refused_there told.sound told.rightly told.same told.left in
    rw c.in-Check.is (record {
      does = unlinked (g.N.Network.tells c.args.network.now) _ (
        refl,
        (
          c.check_file-checked.result.0,
          is,
          (c.in-Ok.has_log, if_ok c.check_file-checked.result.0 c.in-Ok.ensures, c.tell_sizes.ensures),
        ),
      );
    })

pub returns-in_default : goal.returns-in_default
returns-in_default g c =
    rw c.in-Check.is (record {
      does = unlinked (g.N.Network.tells c.args.network.now) _
          (refl, (Err (file.Fault Memory), inr refl, (true, tt, (refl, refl))));
    })

pub returns-in-Migrate : goal.returns-in-Migrate
returns-in-Migrate g c =
    let world : World = world_at g.P.Paths (g.K.Timekeeper.tells c.args.time.now)
    (g.D.Desk.says c.args.desk.now)
    c.args.paths in
    let told = c.migrate_file-moved.ensures in
    let is = moved world c.in-Migrate.path.now c.migrate_file-moved.result.1 c.migrate_file-moved.result.0
    told.refused told.refused_there told.moved told.left in
    rw c.in-Migrate.is (record {
      does = unlinked (g.N.Network.tells c.args.network.now) _ (
        refl,
        (
          c.migrate_file-moved.result.0,
          is,
          (c.has_no_vault-was_empty.result, c.has_no_vault-was_empty.ensures, c.tell_moved.ensures),
        ),
      );
    })

pub returns-in-Do : goal.returns-in-Do
returns-in-Do g c = rw c.in-Do.is c.do_on_file.ensures

pub returns-in-Trial : goal.returns-in-Trial
returns-in-Trial g c =
    rw c.in-Trial.is
    (record { does = unlinked (g.N.Network.tells c.args.network.now) _ (refl, c.serve.ensures) })
