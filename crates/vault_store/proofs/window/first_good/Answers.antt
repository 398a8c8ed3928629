use Rattle.std.proofs.Common.{◌≡◌, Option, Some, None, is_some, true, false, not, sym, ap, ◌∙◌, refl, arith}
use Rattle.std.proofs.Common.{subst}
use Rattle.vault_pan.specs.Luhn.{passes_check}
use Rattle.vault_core.specs.Vault.{entry_at}
use Rattle.vault_core.specs.declared.row.Entry.{Entry}
use Rattle.vault_store.proofs.Drawn.{chosen-all, chosen_from, chosen_from-none, chosen_from-good}
use Rattle.vault_store.proofs.Drawn.{chosen_from-passes, chosen_from-taken}
use Rattle.vault_store.proofs.window.first_good.Goals.{in-Some+in_ok-entry+else-is_none, in_default}
use Rattle.vault_store.proofs.window.first_good.Goals as goal

pub loop-k-init : goal.loop-k-init
loop-k-init g c =
    record { honest = λ h. h; kept = λ V h. h; failing = refl; passed = λ _ V _ _. chosen-all V _ _ _ }

none_is : (o : Option Entry) → is_some o ≡ false → o ≡ None
none_is None h = refl
none_is (Some e) h = cc

some_is : (o : Option Entry) → is_some o ≡ true → (e : Entry) × (o ≡ Some e)
some_is None h = cc
some_is (Some e) h = (e, refl)

pub returns-then-is_none : goal.returns-then-is_none
returns-then-is_none g c =
    let inv = c.loop-k.invariant in
    let read = c.in_ok-entry.ensures in
    record {
      disk_honest = λ honest. inv.honest (read.disk_honest honest);
      told = λ honest V held sound.
          let a = c.args.asked.now in
          let token = c.in-Some.ensures in
          let new : entry_at V a.merchant c.in-Some.token ≡ None =
          sym (read.told honest V (inv.kept V held) sound)
          ∙ none_is c.in_ok-entry.field-0 (c.is_none.ensures ∙ ap not c.if-is_none.true) in
          let good = chosen_from-good V a.merchant a.pan a.digits c.loop-k.k c.loop-k-test.true
          (ap passes_check (sym token.0) ∙ token.1) (ap (entry_at V a.merchant) (sym token.0) ∙ new) in
          ap Some token.0 ∙ sym (inv.passed (read.disk_honest honest) V held sound ∙ good);
      kept = λ V held. read.kept V (inv.kept V held);
      crash = λ honest V held. read.crash honest V (inv.kept V held);
      failing = read.failing ∙ inv.failing;
      allowed = tt;
    }

pub loop-k-preserved : goal.loop-k-preserved
loop-k-preserved g c =
    let a = c.args.asked.now in
    let inv = c.loop-k.invariant in
    let now = g.T.Tables.is_honest in
    let holds = g.T.Tables.holds in
    let failed = g.T.Tables.has_failed in
    elim c.match-candidate.branch [
      | in-Some+in_ok-entry+else-is_none w ↦
          let told = w.in_ok-entry.ensures in
          record {
            honest = λ h. inv.honest (told.disk_honest (subst now w.tables-is h));
            kept = λ V held. subst (λ t. holds t V) (sym w.tables-is) (told.kept V (inv.kept V held));
            failing = ap failed w.tables-is ∙ told.failing ∙ inv.failing;
            passed = λ h V held sound.
                let honest = subst now w.tables-is h in
                let there = some_is w.in_ok-entry.field-0 (w.is_none.ensures ∙ ap not w.if-is_none.false) in
                let token = w.in-Some.ensures in
                let found = sym (told.told honest V (inv.kept V held) sound) ∙ there.1 in
                inv.passed (told.disk_honest honest) V held sound
                ∙ chosen_from-taken V a.merchant a.pan a.digits c.loop-k.k there.0 c.loop-k-test.true
                (ap (entry_at V a.merchant) (sym token.0) ∙ found);
          }
      | in_default w ↦
          record {
            honest = λ h. inv.honest (subst now w.tables-is h);
            kept = λ V held. subst (λ t. holds t V) (sym w.tables-is) (inv.kept V held);
            failing = ap failed w.tables-is ∙ inv.failing;
            passed = λ h V held sound.
                inv.passed (subst now w.tables-is h) V held sound
                ∙ chosen_from-passes V a.merchant a.pan a.digits c.loop-k.k c.loop-k-test.true
                w.in_default.ensures;
          }
    ]

pub returns : goal.returns
returns g c =
    let inv = c.loop-k.invariant in
    record {
      disk_honest = inv.honest;
      told = λ honest V held sound.
          let last : c.loop-k.k ≡ 20 = omega (arith, c.loop-k.auto.k-end, c.loop-k-test.false) in
          sym (inv.passed honest V held sound
          ∙ ap (chosen_from V c.args.asked.now.merchant c.args.asked.now.pan c.args.asked.now.digits) last
          ∙ chosen_from-none V _ _ _);
      kept = inv.kept;
      crash = λ honest V held. g.met.T.Tables.settled c.loop-k.tables V (inv.kept V held) honest;
      failing = inv.failing;
      allowed = tt;
    }
