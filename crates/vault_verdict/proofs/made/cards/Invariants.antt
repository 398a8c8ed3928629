use Rattle.std.proofs.Common.{◌≡◌, List, map, take}
use Rattle.std.specs.List.{filter_map}
use Rattle.vault_verdict.specs.Made.{as_card}
use Rattle.vault_tables.specs.CardTexts.{card_values}
use Rattle.vault_tables.specs.Taken.{CardsTaken}
use Rattle.vault_rules.specs.declared.rows.RawCard.{RawCard}
use Rattle.vault_verdict.proofs.made.cards.Given as goal

-- the cards so far are those of the old entries so far
abbrev pub invariant-loop-older : goal.invariant-loop-older
invariant-loop-older l =
    (raws : List RawCard) × CardsTaken l.fn.start l.index raws
    × (filter_map as_card (take l.older-index l.olders) ≡ map card_values raws)
