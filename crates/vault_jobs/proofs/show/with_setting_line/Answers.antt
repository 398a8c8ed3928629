use Rattle.std.proofs.Common.{◌∙◌, append_assoc}
use Rattle.std.proofs.lemmas.Result.{IfOk-weaker}
use Rattle.vault_jobs.proofs.show.with_setting_line.Goals as goal

pub returns : goal.returns
returns c =
    IfOk-weaker c.numbered-3.result _ _
    (λ v is. is ∙ simp (
      c.in_ok-text-4.ensures,
      c.in_ok-text-3.ensures,
      c.in_ok-text-2.ensures,
      c.in_ok-text.ensures,
      c.bytes.ensures.value,
      c.digits.ensures,
      append_assoc,
    ))
    c.numbered-3.ensures
