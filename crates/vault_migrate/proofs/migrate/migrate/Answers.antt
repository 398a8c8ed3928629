use Rattle.std.proofs.Common.{refl, ◌∙◌, ap, inl, subst, sym}
use Rattle.sqlite.specs.Held.{state}
use Rattle.vault_migrate.proofs.Migrating.{migrates_else, migrates_older}
use Rattle.vault_migrate.proofs.Moving.{IsInOlder, is_newest, kept_newest}
use Rattle.vault_migrate.proofs.Moving.{older_found}
use Rattle.vault_migrate.proofs.migrate.migrate.Given.{Over}
use Rattle.vault_migrate.proofs.migrate.migrate.Goals as goal
use Rattle.vault_migrate.specs.Moved.{IsNoOlder, LeavesStep}
use Rattle.vault_schema.proofs.Newest.{one_version}
use Rattle.vault_schema.specs.Holds.{AreIn, HoldsIn}
use Rattle.vault_schema.specs.Versions.{next_of, number_of}
use Rattle.vault_schema.specs.declared.version.Version.{Version}
use Rattle.vault_verdict.proofs.Results.{if_ok}

-- ---- an older version

older : (g : Over) (c : goal.After-move_up g)
    → IsInOlder c.in-Some.version (state g.S.Store c.args.conn.now).now
older g c =
    let it = rw c.in-Some.is at c.older_in.ensures in (it.older, sym c.schema.ensures.value ∙ it.found)

pub returns-in-Some-clause-next : goal.returns-in-Some-clause-next
returns-in-Some-clause-next g c = if_ok c.move_up.result (λ n is v there.
    is ∙ ap (λ (x : Version). number_of (next_of x))
    (one_version c.in-Some.version v (sym (older g c).1 ∙ there)))
    c.move_up.ensures.next

pub returns-in-Some-clause-made : goal.returns-in-Some-clause-made
returns-in-Some-clause-made g c = if_ok c.move_up.result (λ n is none.
    absurd (none c.in-Some.version (older g c).0 (older g c).1)) c.move_up.ensures.next

pub returns-in-Some-clause-crash : goal.returns-in-Some-clause-crash
returns-in-Some-clause-crash g c clean = record {
  older = λ v V h.
      let one = one_version c.in-Some.version v (sym (older g c).1 ∙ h.is.schema) in
      subst (λ (x : Version). LeavesStep x V (state g.S.Store c.move_up.new.conn)) one
      (c.move_up.ensures.crash clean V
      (subst (λ (x : Version). HoldsIn x V (state g.S.Store c.args.conn.now)) (sym one) h));
  found = older_found c.in-Some.version (state g.S.Store c.args.conn.now) (state g.S.Store c.move_up.new.conn)
      (older g c).1 (older g c).0;
}

pub returns-in-Some-clause-migrates : goal.returns-in-Some-clause-migrates
returns-in-Some-clause-migrates g c =
    migrates_older next_of c.in-Some.version (older g c).0 (older g c).1
    c.move_up.ensures.moves

-- ---- no older version

none_older : (g : Over) (c : goal.After-make_or_check g) → IsNoOlder (state g.S.Store c.args.conn.now).now
none_older g c v was is = (rw c.in-None.is at c.older_in.ensures.none) v was (c.schema.ensures.value ∙ is)

pub returns-in-None-clause-next : goal.returns-in-None-clause-next
returns-in-None-clause-next g c = if_ok c.make_or_check.result (λ n is v there.
    is ∙ ap (λ (x : Version). number_of (next_of x))
    (sym (is_newest (state g.S.Store c.args.conn.now).now (none_older g c) v there)))
    c.make_or_check.ensures.newest

pub returns-in-None-clause-made : goal.returns-in-None-clause-made
returns-in-None-clause-made g c =
    if_ok c.make_or_check.result (λ n is none. is) c.make_or_check.ensures.newest

pub returns-in-None-clause-crash : goal.returns-in-None-clause-crash
returns-in-None-clause-crash g c clean = record {
  older = λ v V h db left.
      let it = kept_newest _ _ (none_older g c) (c.make_or_check.ensures.does.left clean) v V h in
      inl (subst (λ (x : Version). AreIn x V db) (sym it.0) (it.1 db left));
  found = c.make_or_check.ensures.does.left clean;
}

pub returns-in-None-clause-migrates : goal.returns-in-None-clause-migrates
returns-in-None-clause-migrates g c =
    migrates_else next_of refl (none_older g c) c.make_or_check.ensures.does
