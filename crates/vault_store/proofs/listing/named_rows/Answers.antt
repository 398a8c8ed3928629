use Rattle.std.proofs.Common.{◌≡◌, ◌+◌, false, List, Option, Result, Ok, Err, refl, sym, ap, ◌∙◌, ◌++◌, drop}
use Rattle.std.proofs.Common.{append-nil, drop_of_length-le, Vec, Global, if◌then◌else◌}
use Rattle.std.specs.Result.{is_err, is_ok}
use Rattle.std.proofs.lemmas.Result.{err_from_is_err_and}
use Rattle.vault_core.specs.Keys.{Bytes}
use Rattle.vault_core.specs.declared.row.MerchantRow.{MerchantRow}
use Rattle.vault_store.proofs.Results.{kept_by}
use Rattle.vault_store.proofs.ListedRows.{rows_for, rows-all, rows-step, rows-skip}
use Rattle.vault_store.proofs.listing.named_rows.Goals.{in-Some+else-is_err, in_default}
use Rattle.vault_store.proofs.listing.named_rows.Goals as goal

abbrev NamedRow : Type 0
NamedRow = Bytes × MerchantRow

-- a list that a row was pushed onto
pushed : {X A E : Type 0} (r : Result A E) (was now grown : List X) → is_err r ≡ false
    → now ≡ (if is_ok r then grown else was) → now ≡ grown
pushed (Ok a) was now grown fine is = is
pushed (Err e) was now grown fine is = cc

pub loop-name-init : goal.loop-name-init
loop-name-init g c = record {
  honest = λ h. h;
  kept = λ V h. h;
  failing = refl;
  listed = λ _ V _ _.
      ap (λ rows. rows ++ rows_for V c.deref-name-items.result.now) c.new-rows.ensures.items;
}

pub loop-name-preserved : goal.loop-name-preserved
loop-name-preserved g c =
    let inv = c.loop-name.invariant in
    let told = c.in_ok-row.ensures in
    let names = c.deref-name-items.result.now in
    let rows = c.loop-name.rows.items in
    let i = c.loop-name.name-index in
    let name = c.name-item.result in
    record {
      honest = λ h. inv.honest (told.disk_honest h);
      kept = λ V held. told.kept V (inv.kept V held);
      failing = told.failing ∙ inv.failing;
      listed = λ h V held sound.
          let found = told.told h V (inv.kept V held) sound in
          let before = inv.listed (told.disk_honest h) V held sound in
          elim c.match-branch-3.branch [
            | in-Some+else-is_err w ↦
                let fine = sym w.is_err.ensures.value ∙ w.if-is_err.false in
                let grown =
                ap (λ (v : Vec NamedRow Global). v.items) w.rows-is
                ∙ pushed w.push.result rows _ _ fine w.push.ensures.items in
                ap (λ (all : List NamedRow). all ++ rows_for V (drop (i + 1) names)) grown
                ∙ rows-step V names rows i name w.in-Some.row c.loop-name-test.true c.name-item.is
                (sym found ∙ w.in-Some.is)
                ∙ before
            | in_default w ↦
                ap (λ (v : Vec NamedRow Global). v.items ++ rows_for V (drop (i + 1) names)) w.rows-is
                ∙ rows-skip V names rows i name c.loop-name-test.true c.name-item.is
                (sym found ∙ w.in_default.is)
                ∙ before
          ];
    }

pub returns-clause-told : goal.returns-clause-told
returns-clause-told g c honest V held sound =
    let inv = c.loop-name.invariant in
    let xs = c.loop-name.rows.items in
    let names = c.deref-name-items.result.now in
    sym (append-nil xs)
    ∙ sym (ap (λ left. xs ++ rows_for V left) (drop_of_length-le names c.loop-name-test.false))
    ∙ inv.listed honest V (c.in_ok-names.ensures.kept V held) sound
    ∙ ap (rows_for V) (c.deref-name-items.ensures.value
    ∙ c.in_ok-names.ensures.told (inv.honest honest) V held sound)
    ∙ rows-all V

pub returns-in_err-row-clause-kept : goal.returns-in_err-row-clause-kept
returns-in_err-row-clause-kept g c =
    let r = c.from_residual-in_err-row in
    let p = err_from_is_err_and r.result r.ensures.1 in
    rw (p.1, p.2)
    (kept_by (Option MerchantRow) (Vec NamedRow Global) c.in_err-row.field-0.0
    (g.T.Tables.holds c.args.tables.now) (g.T.Tables.holds c.loop-name.tables)
    (g.T.Tables.holds c.merchant.new.self)
    (λ V held. c.loop-name.invariant.kept V (c.in_ok-names.ensures.kept V held)) c.in_err-row.ensures.kept)
