use Rattle.std.proofs.Common.{◌∙◌, None}
use Rattle.vault_http.proofs.Answering.{ok_as, written_text}
use Rattle.vault_http.proofs.unit.written.Goals as goal

pub returns : goal.returns
returns c =
    let body = c.deref.ensures.value ∙ c.in_ok-body.ensures in
    ok_as c.answer_text.result (λ out. out.items) _ _
    (written_text _ _ None _ _ c.args.closes c.status_of.ensures.code body) c.answer_text.ensures
