use Rattle.std.proofs.Common.{◌≡◌, ◌∙◌, ap, arith, inl, inr, rules, Err}
use Rattle.sqlite.specs.Held.{state}
use Rattle.vault_migrate.proofs.Moving.{checked_less, each_err, found_after}
use Rattle.vault_verdict.proofs.Results.{passed_as}
use Rattle.vault_migrate.proofs.migrate.make_or_check.Given.{Over}
use Rattle.vault_migrate.proofs.migrate.make_or_check.Goals.{After-check}
use Rattle.vault_migrate.proofs.migrate.make_or_check.Goals as goal
use Rattle.sqlite.specs.State.{HasCleanDisk}
use Rattle.sql_tables.specs.Transactions.{KeepsDoubts}
use Rattle.sql_tables.specs.States.{LeavesNoMore}
use Rattle.vault_steps.specs.declared.schema.SchemaFault.TheVariants.{Taken}
use Rattle.vault_verdict.specs.Opened.{LeavesFound}

-- a database with tables is checked as it was found
module _ (g : Over) (c : After-check g) where
  taken : c.make_schema.result ≡ Err Taken
  taken = c.in-Err-Taken.is ∙ ap (λ e. Err e) c.in-Err-Taken.field-0-is

  same : c.make_schema.new.conn ≡ c.args.conn.now
  same = c.make_schema.ensures.unchanged taken

  clean_before : KeepsDoubts g.S.Store c.args.conn.now c.check.new.conn
  clean_before = omega (arith, c.make_schema.ensures.clean, c.check.ensures.nothing_new.clean)

  module _ (clean : HasCleanDisk (state g.S.Store c.check.new.conn)) where
    found : LeavesFound (state g.S.Store c.args.conn.now) (state g.S.Store c.check.new.conn)
    found = found_after (state g.S.Store c.args.conn.now) (state g.S.Store c.check.new.conn)
        (rw same at c.check.ensures.nothing_new) clean
        (λ V h db left. g.met.S.Store.settled c.args.conn.now.store db h.is_open left)
        (c.make_schema.ensures.taken.0 taken)

    no_more : LeavesNoMore (state g.S.Store c.args.conn.now) (state g.S.Store c.check.new.conn)
    no_more =
        let told = c.schema.ensures.value ∙ ap (λ h. (state g.S.Store h).now.schema) same in
        checked_less _ _ c.has_version-told.result (rw told at c.has_version-told.ensures)
        (rw same at c.check.ensures.nothing_new)
        (λ none. ap (state g.S.Store) ((rw same at c.check.ensures.untouched) none)) clean

-- ---- a refusal

pub returns-in_err-check-in-Err-Taken-clause-does : goal.returns-in_err-check-in-Err-Taken-clause-does
returns-in_err-check-in-Err-Taken-clause-does g c =
    let at = (goal.at.returns-in_err-check-in-Err-Taken-clause-does g c).After-check in
    let same = same g at in
    let rows = rw same at c.check.ensures.rows in
    let failed = c.from_residual.ensures.1 in
    record {
      idle = search rules;
      clean = clean_before g at;
      kept = search rules;
      same = search rules;
      blank = search rules;
      checked = search rules;
      left = λ clean. found g at clean;
      unwritten = λ clean. each_err c.from_residual.result (λ e other. no_more g at clean);
      unmade = λ clean. each_err c.from_residual.result (λ e some. no_more g at clean);
      rows = record {
        damaged = λ clean. passed_as _ c.from_residual.result _ failed
            (rw same at (c.in_err-check-in-Err-Taken.ensures.rows.damaged clean));
        wrong = λ clean. passed_as _ c.from_residual.result _ failed
            (rw same at (c.in_err-check-in-Err-Taken.ensures.rows.wrong clean));
        spared = λ clean. passed_as _ c.from_residual.result _ failed
            (rw same at (c.in_err-check-in-Err-Taken.ensures.rows.spared clean));
      };
    }

-- ---- a vault that is as it should be

pub returns-in_ok-check-in-Err-Taken-clause-does : goal.returns-in_ok-check-in-Err-Taken-clause-does
returns-in_ok-check-in-Err-Taken-clause-does g c =
    let at = (goal.at.returns-in_ok-check-in-Err-Taken-clause-does g c).After-check in
    let same = same g at in
    record {
      idle = search rules;
      clean = clean_before g at;
      kept = search rules;
      same = search rules;
      blank = search rules;
      checked = λ clean full.
          elim ((rw same at (c.in_ok-check-in-Err-Taken.ensures.sound clean)) full)
          [ inl none ↦ inr none.0 | inr it ↦ inl it.it ];
      left = λ clean. found g at clean;
      unwritten = search rules;
      unmade = search rules;
      rows = search rules;
    }

pub returns-in_ok-check-in-Err-Taken-clause-known : goal.returns-in_ok-check-in-Err-Taken-clause-known
returns-in_ok-check-in-Err-Taken-clause-known g c other =
    let at = (goal.at.returns-in_ok-check-in-Err-Taken-clause-known g c).After-check in
    let same = same g at in
    absurd ((rw same at c.in_ok-check-in-Err-Taken.ensures.foreign.refused)
    (record { some = c.make_schema.ensures.taken.0 (taken g at); other = other }))
