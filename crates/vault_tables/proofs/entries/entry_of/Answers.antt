use Rattle.std.proofs.Common.{ap, ◌∙◌, Some, w64}
use Rattle.std.proofs.lemmas.Int.{to_z-of_z}
use Rattle.vault_tables.specs.CardUses.{numbered}
use Rattle.vault_tables.proofs.Told.{tables_so}
use Rattle.vault_tables.proofs.entries.entry_of.Goals as goal

pub returns : goal.returns
returns g c =
    tables_so (rw (to_z-of_z w64 c.args.id c.ranges.id) at c.in_ok-number.ensures)
    (λ t is. ap (λ x. Some x) c.entry_with.ensures ∙ ap (λ n. Some (numbered n c.args.found.now)) is)
