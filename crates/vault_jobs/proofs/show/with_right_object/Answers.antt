use Rattle.std.proofs.Common.{◌∙◌, append_assoc}
use Rattle.std.proofs.lemmas.Result.{IfOk-weaker}
use Rattle.vault_jobs.proofs.show.with_right_object.Goals as goal

pub returns : goal.returns
returns c =
    IfOk-weaker c.with_until_value.result _ _
    (λ v is. is ∙ simp (
      c.in_ok-text-4.ensures,
      c.in_ok-text-3.ensures,
      c.in_ok-text-2.ensures,
      c.in_ok-text.ensures,
      c.bytes.ensures.value,
      c.bytes-2.ensures.value,
      c.word_of.ensures,
      c.as_bytes.ensures.value,
      append_assoc,
    ))
    c.with_until_value.ensures
