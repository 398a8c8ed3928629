use Rattle.std.proofs.Common.{refl, ◌∙◌, subst, sym}
use Rattle.sqlite.specs.Held.{state}
use Rattle.vault_migrate.proofs.Migrating.{migrates_else, migrates_older}
use Rattle.vault_migrate.proofs.Moving.{IsInOlder, kept_newest}
use Rattle.vault_migrate.proofs.Moving.{older_found}
use Rattle.vault_migrate.proofs.Moving.{sound_where_full}
use Rattle.vault_migrate.proofs.migrate.migrate_all.Given.{Over}
use Rattle.vault_migrate.proofs.migrate.migrate_all.Goals as goal
use Rattle.vault_migrate.specs.Moved.{IsNoOlder}
use Rattle.vault_schema.proofs.Newest.{one_version}
use Rattle.vault_schema.specs.Holds.{HoldsIn}
use Rattle.vault_schema.specs.Stands.{newest}
use Rattle.vault_schema.specs.declared.version.Version.{Version}
use Rattle.vault_verdict.proofs.Results.{if_so, on_ok}
use Rattle.vault_verdict.specs.Opened.{StandsSoundIn}
use Rattle.vault_verdict.specs.ReadAs.{IsFullIn}

-- ---- an older version

older : (g : Over) (c : goal.After-climb_up g)
    → IsInOlder c.in-Some.version (state g.S.Store c.args.conn.now).now
older g c =
    let it = rw c.in-Some.is at c.older_in.ensures in (it.older, sym c.schema.ensures.value ∙ it.found)

pub returns-in-Some-clause-known : goal.returns-in-Some-clause-known
returns-in-Some-clause-known g c =
    on_ok c.climb_up.result (λ none. absurd (none c.in-Some.version (older g c).1))

pub returns-in-Some-clause-stood : goal.returns-in-Some-clause-stood
returns-in-Some-clause-stood g c clean = if_so c.climb_up.result (λ stood v full.
    let one = one_version c.in-Some.version v (sym (older g c).1 ∙ full.schema) in
    subst (λ (x : Version). StandsSoundIn x (state g.S.Store c.args.conn.now).now) one (stood
    (subst (λ (x : Version). IsFullIn x (state g.S.Store c.args.conn.now).now) (sym one) full)))
    (c.climb_up.ensures.stood clean)

pub returns-in-Some-clause-crash : goal.returns-in-Some-clause-crash
returns-in-Some-clause-crash g c clean = record {
  older = λ v V h.
      let one = one_version c.in-Some.version v (sym (older g c).1 ∙ h.is.schema) in
      c.climb_up.ensures.crash clean V
      (subst (λ (x : Version). HoldsIn x V (state g.S.Store c.args.conn.now)) (sym one) h);
  found = older_found c.in-Some.version (state g.S.Store c.args.conn.now)
      (state g.S.Store c.climb_up.new.conn)
      (older g c).1 (older g c).0;
}

pub returns-in-Some-clause-migrates : goal.returns-in-Some-clause-migrates
returns-in-Some-clause-migrates g c =
    migrates_older (λ v. newest) c.in-Some.version (older g c).0 (older g c).1
    c.climb_up.ensures.moves

-- ---- no older version

none_older : (g : Over) (c : goal.After-make_or_check g) → IsNoOlder (state g.S.Store c.args.conn.now).now
none_older g c v was is = (rw c.in-None.is at c.older_in.ensures.none) v was (c.schema.ensures.value ∙ is)

pub returns-in-None-clause-known : goal.returns-in-None-clause-known
returns-in-None-clause-known g c =
    if_so c.make_or_check.result (λ known none. known (none newest)) c.make_or_check.ensures.known

pub returns-in-None-clause-stood : goal.returns-in-None-clause-stood
returns-in-None-clause-stood g c clean =
    if_so c.make_or_check.result
    (sound_where_full (state g.S.Store c.args.conn.now).now (none_older g c))
    (c.make_or_check.ensures.does.checked clean)

pub returns-in-None-clause-crash : goal.returns-in-None-clause-crash
returns-in-None-clause-crash g c clean = record {
  older = λ v V h db left.
      let it = kept_newest _ _ (none_older g c) (c.make_or_check.ensures.does.left clean) v V h in
      (newest, it.1 db left);
  found = c.make_or_check.ensures.does.left clean;
}

pub returns-in-None-clause-migrates : goal.returns-in-None-clause-migrates
returns-in-None-clause-migrates g c =
    migrates_else (λ v. newest) refl (none_older g c) c.make_or_check.ensures.does
