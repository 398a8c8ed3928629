use Rattle.std.proofs.Common.{sym, ◌∙◌}
use Rattle.vault_sql.proofs.Calls.{answers}
use Rattle.vault_sql.proofs.Lookups.{moment_none, moment_some}
use Rattle.vault_sql.proofs.merchants.moment.Goals as goal

pub returns-in-Some : goal.returns-in-Some
returns-in-Some g c =
    answers c.in_ok-lives.ensures (λ V told.
    c.later.ensures ∙ moment_some V c.args.m.now c.args.now c.in-Some.lives (sym c.in-Some.is ∙ told))

pub returns-in-None : goal.returns-in-None
returns-in-None g c =
    answers c.in_ok-lives.ensures (λ V told. moment_none V c.args.m.now c.args.now (sym c.in-None.is ∙ told))
