-- Card rows that came one after the other.
use Rattle.std.specs.Prelude.{◌≡◌, List, map}
use Rattle.std.specs.Option.{option_copied}
use Rattle.vault_rules.specs.Kept.{KeptCard, kept_card}
use Rattle.vault_rules.specs.RisingNumbers.{IsRisingOver}
use Rattle.vault_rules.specs.declared.card_rows.Card.{Card}
use Rattle.vault_rules.specs.declared.card_rows.Cards.{Cards}
use Rattle.vault_rules.specs.declared.rows.RawCard.{RawCard}
use Rattle.vault_rules.specs.declared.rows.RawMerchant.{RawMerchant}

-- a card row as it lies in memory
abbrev pub seen_card : Card → KeptCard
seen_card c =
    record { id = c.id; uses = c.uses; merchant = option_copied c.merchant; number = c.number }

-- what is kept of each, and whether their ids rise
pub record HoldCards (merchants : List RawMerchant) (it : Cards) (cards : List RawCard) : Type 0 where
  pub kept : map seen_card it.kept.items ≡ map (kept_card merchants) cards
  pub rowids : IsRisingOver it.rowids (map (λ c. c.id) cards)
