use Rattle.std.proofs.Common.{w64}
use Rattle.std.proofs.lemmas.Int.{to_z-of_z}
use Rattle.vault_tables.proofs.Told.{tables_so}
use Rattle.vault_tables.proofs.TextRow.{maybe_shown, no_text}
use Rattle.vault_tables.proofs.cards.number_at.Goals as goal

pub returns-in-Some : goal.returns-in-Some
returns-in-Some g c =
    tables_so (rw (to_z-of_z w64 c.args.id c.ranges.id) at c.in_ok-rows.ensures) (λ t shown.
    maybe_shown _ _ c.in_ok-rows.rows.items c.in-Some.row.now shown
    (rw (c.deref.ensures.value) at c.in-Some.ensures.value) c.in_ok-number_in-in-Some.ensures)

pub returns : goal.returns
returns g c =
    tables_so (rw (to_z-of_z w64 c.args.id c.ranges.id) at c.in_ok-rows.ensures) (λ t shown.
    no_text _ c.in_ok-rows.rows.items shown (rw (c.deref.ensures.value) at c.in-None.ensures.value))
