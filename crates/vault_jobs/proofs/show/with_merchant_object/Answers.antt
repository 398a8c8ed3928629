use Rattle.std.proofs.Common.{ap, decimal}
use Rattle.std.proofs.lemmas.Result.{IfOk-weaker}
use Rattle.vault_jobs.proofs.Lines.{line_of}
use Rattle.vault_jobs.proofs.show.with_merchant_object.Goals as goal

pub returns : goal.returns
returns c =
    IfOk-weaker c.numbered-7.result _ _
    (λ v is. line_of _ _ _ _ _ _ _ _ _ _ _ _ _ _ _ _ _ _ _ _ _ _ _ _ _ _ _ _ _ _ c.in_ok-text.ensures
    c.in_ok-text-2.ensures c.in_ok-text-3.ensures c.in_ok-text-4.ensures c.in_ok-text-5.ensures
    c.in_ok-text-6.ensures c.in_ok-text-7.ensures c.in_ok-text-8.ensures is c.bytes.ensures.value
    (ap decimal c.digits.ensures) (ap decimal c.seconds.ensures.value))
    c.numbered-7.ensures
