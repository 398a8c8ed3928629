use Rattle.std.proofs.Common.{arith, sym, ◌∙◌, ◌≡◌, is_none, true}
use Rattle.std.proofs.lemmas.Grind.{common_steps}
use Rattle.vault_core.specs.Vault.{entry_at}
use Rattle.vault_core.proofs.DrawLemmas.{chosen-new}
use Rattle.vault_core.proofs.decide.token.new_request.Goals as goal

pub returns-clause-yields : goal.returns-clause-yields
returns-clause-yields c V known shows =
    let candidate = rw c.in_default.is at shows.candidate in
    let new : is_none (entry_at V c.args.asked.now.merchant c.in-Some-candidate.token) ≡ true =
    chosen-new V _ c.args.asked.now.pan c.args.asked.now.digits c.in-Some-candidate.token
    (sym candidate ∙ c.in-Some-candidate.is)
    in
    grind (arith, common_steps)
