use Rattle.sqlite.specs.Held.{state}
use Rattle.vault_migrate.proofs.Entries.{are_for}
use Rattle.vault_migrate.proofs.Moving.{full_held, still_held}
use Rattle.vault_migrate.proofs.movable.judged.Goals as goal

pub returns-clause-given : goal.returns-clause-given
returns-clause-given g c clean V h =
    let old = state g.S.Store c.args.conn.now in
    are_for c.args.version old.now.trees V h.is.stand c.in_ok-olders.field-0.olders.items _
    (c.in_ok-olders.ensures.olders clean (full_held c.args.version V old h))
    c.in_ok-typed_entries.ensures.rows

pub returns-clause-held : goal.returns-clause-held
returns-clause-held g c clean V h =
    still_held c.args.version V (state g.S.Store c.args.conn.now) (state g.S.Store c.verdict.new.conn) h
    (c.in_ok-olders.ensures.kept clean h.is.schema) c.verdict.ensures.nothing_new.limit

pub returns-clause-sound : goal.returns-clause-sound
returns-clause-sound g c clean full =
    let sound = c.in_ok-olders.ensures.sound clean full in
    (sound.is, sound.it)
