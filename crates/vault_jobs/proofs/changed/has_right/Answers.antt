use Rattle.std.proofs.Common.{◌∙◌, ap}
use Rattle.vault_jobs.proofs.RightsHeld.{among_rights}
use Rattle.vault_jobs.specs.Notes.{is_among}
use Rattle.vault_jobs.proofs.changed.has_right.Goals as goal

pub returns-in-Ok-clause-told : goal.returns-in-Ok-clause-told
returns-in-Ok-clause-told g c = λ V b.
    let it = c.in-Ok.ensures.told b.0 V b.1 in (
      c.is_among.ensures ∙ ap (λ held. is_among held c.args.right) (c.as_slice.ensures.value ∙ it.0)
          ∙ among_rights V c.args.right,
      (it.1, c.in-Ok.ensures.crash b.0 V b.1),
    )
