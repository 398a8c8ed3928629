use Rattle.vault_words.proofs.Readings.{none_found}
use Rattle.vault_words.proofs.commands.merchant.MerchantJob.read.Goals as goal

pub returns-in_err-lead : goal.returns-in_err-lead
returns-in_err-lead c =
    let r = c.from_residual-in_err-lead in
    none_found r.result _ r.ensures.0 (λ job h. c.in_err-lead.ensures job.lead h.1)

pub returns-in_err-life : goal.returns-in_err-life
returns-in_err-life c =
    let r = c.from_residual-in_err-life in
    none_found r.result _ r.ensures.0 (λ job h. c.in_err-life.ensures job.single_life h.4)

pub returns-in_err-life-2 : goal.returns-in_err-life-2
returns-in_err-life-2 c =
    let r = c.from_residual-in_err-life-2 in
    none_found r.result _ r.ensures.0 (λ job h. c.in_err-life-2.ensures job.multi_life h.5)
