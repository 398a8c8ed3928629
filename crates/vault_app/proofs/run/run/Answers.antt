use Rattle.std.proofs.Common.{◌≡◌, ◌⊎◌, ℕ, inl, inr, subst, sym, ◌∙◌}
use Rattle.vault_words.specs.Why.{HasFewDigits}
use Rattle.vault_app.specs.Ending.{status_of}
use Rattle.vault_app.specs.declared.ending.Ending.{Ending}
use Rattle.vault_app.proofs.Errors.{misnamed_at, noted_at}
use Rattle.vault_app.proofs.Unread.{calm_at, refused_at, said_at}
use Rattle.vault_app.proofs.run.run.Goals as goal

pub returns-clause-does : goal.returns-clause-does
returns-clause-does g c = (
  c.ended-it.new.output,
  (
    c.ended-it.ensures.does.0,
    c.ended-it.ensures.does.1,
    record {
      ending = c.ended-it.result.0.ending;
      exits = c.report.ensures.status;
      why = c.as_str.result.now;
      few = subst HasFewDigits (sym c.as_str.ensures.value) c.ended-it.ensures.few;
      says = c.report.ensures.said;
      does = c.ended-it.ensures.does.2;
    },
  ),
)

-- the status of the run is that of its ending
status_at : (ending : Ending) (status : ℕ) → status ≡ status_of ending → (status ≡ 2) ⊎ (status ≡ 3)
    → (status_of ending ≡ 2) ⊎ (status_of ending ≡ 3)
status_at ending status is (inl two) = inl (sym is ∙ two)
status_at ending status is (inr three) = inr (sym is ∙ three)

pub returns-clause-unread : goal.returns-clause-unread
returns-clause-unread g c = λ at.
    let end = status_at c.ended-it.result.0.ending _ c.report.ensures.status at in
    (calm_at _ _ _ _ _ _ c.ended-it.result.0.ending end c.ended-it.ensures.does.2).0

pub returns-clause-unsent : goal.returns-clause-unsent
returns-clause-unsent g c = λ at.
    let end = status_at c.ended-it.result.0.ending _ c.report.ensures.status at in
    said_at _ c.ended-it.result.0.ending _ _ end c.report.ensures.said
    ∙ (calm_at _ _ _ _ _ _ c.ended-it.result.0.ending end c.ended-it.ensures.does.2).1

pub returns-clause-unread_refused : goal.returns-clause-unread_refused
returns-clause-unread_refused g c = λ one. refused_at _ _ _ _ _ _ c.ended-it.result.0.ending
    (sym c.report.ensures.status ∙ one) c.ended-it.ensures.does.2

pub returns-clause-silent_done : goal.returns-clause-silent_done
returns-clause-silent_done g c = λ zero. noted_at _ _ _ _ _ _ c.ended-it.result.0.ending _ _ _
    (sym c.report.ensures.status ∙ zero) c.ended-it.ensures.does.2 c.report.ensures.said

pub returns-clause-silent : goal.returns-clause-silent
returns-clause-silent g c = λ one. misnamed_at _ _ _ _ _ _ c.ended-it.result.0.ending _ _ _
    (sym c.report.ensures.status ∙ one) c.ended-it.ensures.does.2 c.report.ensures.said
