use Rattle.std.proofs.Common.{◌∙◌, append_assoc}
use Rattle.std.proofs.lemmas.Result.{IfOk-weaker}
use Rattle.vault_jobs.proofs.show.with_right_text.Goals as goal

pub returns : goal.returns
returns c =
    IfOk-weaker c.with_until.result _ _
    (λ v is. is ∙ simp (
      c.in_ok-text-3.ensures,
      c.in_ok-text-2.ensures,
      c.in_ok-text.ensures,
      c.word_of.ensures,
      c.as_bytes.ensures.value,
      append_assoc,
    ))
    c.with_until.ensures
