use Rattle.std.proofs.Common.{ap, map, take, ◌∙◌}
use Rattle.vault_sql.proofs.Calls.{answers}
use Rattle.vault_core.specs.Dead.{dead_tokens}
use Rattle.vault_tables.specs.Shown.{text_column}
use Rattle.vault_sql.proofs.entries.dead.Goals as goal

pub returns : goal.returns
returns g c =
    answers (rw (c.merchant_text.ensures, c.seconds.ensures.value) at c.in_ok-dead_rows.ensures)
    (λ V shown none now is. shown none now is
    ∙ ap (λ many. map text_column (take many (dead_tokens V c.args.m.now now))) c.min-many.ensures)
