use Rattle.std.proofs.Common.{ap, sym, ◌∙◌, subst}
use Rattle.std.proofs.lemmas.Result.{on_err_weaker}
use Rattle.vault_core.proofs.Maps.{record_exact}
use Rattle.vault_core.specs.Changes.{with_record}
use Rattle.vault_core.specs.Keys.{record_cmp}
use Rattle.vault_store.specs.Shown.{Shows}
use Rattle.vault_store.proofs.AddsLemmas.{adds_record}
use Rattle.vault_store.proofs.Results.{on_err}
use Rattle.vault_store.proofs.memory.write.write_record.Goals as goal

pub returns-in_default-clause-kept : goal.returns-in_default-clause-kept
returns-in_default-clause-kept c =
    on_err_weaker c.write_right.result
    (λ kept V h. record { records_are = h.records_are; others = kept V h.others })
    c.write_right.ensures.kept

pub returns-in_err-was-clause-kept : goal.returns-in_err-was-clause-kept
returns-in_err-was-clause-kept c =
    on_err c.from_residual.result
    (λ V h. record { records_are = c.in_err-was.ensures.err V.records h.records_are; others = h.others })

pub returns-in_err-was-clause-allowed : goal.returns-in_err-was-clause-allowed
returns-in_err-was-clause-allowed c V h adds =
    let x = c.in-Some in
    absurd (adds_record V c.args.ch.now (x.caller, x.request, x.recorded) x.is
    (sym (h.records_are.at (x.caller, x.request)) ∙ c.in_err-was.ensures.new) adds)

pub returns-in-Err-clause-kept : goal.returns-in-Err-clause-kept
returns-in-Err-clause-kept c V h =
    let x = c.in-Some in
    let put = c.in_ok-was.ensures in
    record {
      records_are =
          c.put_back.ensures record_exact V.records x.recorded
          (put.was ∙ h.records_are.at (x.caller, x.request))
          (put.ok V.records h.records_are);
      others = c.in-Err.ensures.kept V h.others;
    }

pub returns-clause-done : goal.returns-clause-done
returns-clause-done c V h sound fit = record {
  records_are =
      subst (λ F. Shows record_cmp c.put.new.rows F) (sym (ap (with_record V.records) c.in-Some.is))
      (c.in_ok-was.ensures.ok V.records h.records_are);
  others = c.in_default-write_right.ensures.done V h.others sound fit;
}
