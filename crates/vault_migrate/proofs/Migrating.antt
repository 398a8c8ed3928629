-- A migration, of what is in an older version and of all else.
use Rattle.std.proofs.Common.{◌≡◌, ◌∙◌, ℤ, Result, subst, sym}
use Rattle.sqlite.specs.Held.{Held, state}
use Rattle.sqlite_trees.specs.declared.store.Store.{Ghosts}
use Rattle.vault_migrate.proofs.Moving.{broken_else, broken_in, each_err, held_newest, left_newest}
use Rattle.vault_migrate.proofs.Moving.{movable_else, movable_in, never_blank, older_schema}
use Rattle.vault_migrate.proofs.Moving.{version_else, version_in}
use Rattle.vault_migrate.specs.Migrated.{MakesOrChecks, Migrates, Moves}
use Rattle.vault_migrate.specs.Moved.{HoldsSoundIn, IsNoOlder, IsOlder, LeavesIn}
use Rattle.vault_schema.proofs.Newest.{held_in_newest, one_version}
use Rattle.vault_schema.specs.Holds.{HoldsIn}
use Rattle.vault_schema.specs.Stands.{newest}
use Rattle.vault_schema.specs.Versions.{schema_of}
use Rattle.vault_schema.specs.declared.version.Version.{Version}
use Rattle.vault_verdict.proofs.Results.{if_err, if_so, on_ok}
use Rattle.vault_verdict.specs.ReadAs.{IsFullIn}
use Rattle.vault_verdict.specs.declared.fault.OpenFault.{OpenFault}

module _ {S : Type 0} {g : Ghosts S} {old new : Held S} {result : Result ℤ OpenFault} where
  pub migrates_older : (to : Version → Version) (v : Version) → IsOlder v
      → (state g old).now.schema ≡ schema_of v → Moves g v (to v) old new result
      → Migrates g to old new result
  migrates_older to v older is it = record {
    idle = it.idle;
    clean = it.clean;
    moved = λ clean. if_so result (λ moved w V h.
        let one = one_version v w (sym is ∙ h.is.schema) in
        subst (λ (x : Version). HoldsIn (to x) V (state g new)) one
        (moved V (subst (λ (x : Version). HoldsIn x V (state g old)) (sym one) h))) (it.moved clean);
    whole = λ clean. if_so result (λ whole w V h.
        let one = one_version v w (sym is ∙ h.is.schema) in
        subst (λ (x : Version). LeavesIn (to x) V (state g new)) one
        (whole V (subst (λ (x : Version). HoldsIn x V (state g old)) (sym one) h))) (it.whole clean);
    sound = λ clean. if_so result (λ sound w was full.
        let one = one_version v w (sym is ∙ full.schema) in
        subst (λ (x : Version). HoldsSoundIn (to x) (state g new)) one
        (sound (subst (λ (x : Version). IsFullIn x (state g old).now) (sym one) full))) (it.sound clean);
    same = λ clean. on_ok result (λ newer. absurd (older_schema v older (sym is ∙ newer)));
    blank = λ clean. on_ok result (λ ready none. absurd (never_blank v (sym is ∙ none)));
    checked = λ clean. on_ok result (λ none. absurd (none v older is));
    stays = λ clean. if_err result (λ e stays other w V h.
        let one = one_version v w (sym is ∙ h.is.schema) in
        subst (λ (x : Version). LeavesIn x V (state g new)) one
        (stays other V (subst (λ (x : Version). HoldsIn x V (state g old)) (sym one) h))) (it.stays clean);
    unwritten = λ clean. if_err result (λ e less other. less other is) (it.unwritten clean);
    unmoved = λ clean. each_err result (λ e none. absurd (none v older is));
    damaged = λ clean. broken_in v older (state g old).now is result (it.damaged clean);
    wrong = λ clean. version_in v older (state g old).now is result (it.wrong clean);
    spared = λ clean. movable_in v older (state g old).now is result (it.damaged clean) (it.wrong clean);
  }

  pub migrates_else : (to : Version → Version) → to newest ≡ newest → IsNoOlder (state g old).now
      → MakesOrChecks g old new result → Migrates g to old new result
  migrates_else to fixed none it = record {
    idle = it.idle;
    clean = it.clean;
    moved = λ clean. if_so result (λ kept w V h.
        let was = held_newest (state g old) none w V h in
        subst (λ (x : Version). HoldsIn (to x) V (state g new)) (sym was.0)
        (subst (λ (x : Version). HoldsIn x V (state g new)) (sym fixed)
        (held_in_newest V (state g new) (kept V was.1)))) (it.kept clean);
    whole = λ clean. on_ok result (λ w V h.
        let was = held_newest (state g old) none w V h in
        subst (λ (x : Version). LeavesIn (to x) V (state g new)) (sym was.0)
        (subst (λ (x : Version). LeavesIn x V (state g new)) (sym fixed)
        (left_newest V (state g new) ((it.left clean).held V was.1))));
    sound = λ clean. on_ok result (λ w was full. absurd (none w was full.schema));
    same = it.same;
    blank = it.blank;
    checked = λ clean. if_so result (λ fit none. fit) (it.checked clean);
    stays = λ clean. each_err result (λ e other w V h.
        let was = held_newest (state g old) none w V h in
        subst (λ (x : Version). LeavesIn x V (state g new)) (sym was.0)
        (left_newest V (state g new) ((it.left clean).held V was.1)));
    unwritten = it.unwritten;
    unmoved = λ clean. if_err result (λ e less none. less) (it.unmade clean);
    damaged = λ clean. broken_else (state g old).now none result (it.rows.damaged clean);
    wrong = λ clean. version_else (state g old).now none result (it.rows.wrong clean);
    spared = λ clean. movable_else (state g old).now none result (it.rows.spared clean);
  }
