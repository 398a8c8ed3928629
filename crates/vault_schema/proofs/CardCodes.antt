-- Each card is told by its columns, and where its table stands.
use Rattle.std.proofs.Common.{◌≡◌, refl}
use Rattle.sqlite.specs.Order.{column}
use Rattle.sql_tables.proofs.ById.{ById}
use Rattle.sql_tables.specs.Codes.{fits}
use Rattle.vault_schema.proofs.Values.{number_in, text_in}
use Rattle.vault_schema.specs.Cards.{card_columns, cards}
use Rattle.vault_schema.specs.Schemas.{v2}
use Rattle.vault_schema.specs.declared.rows.Card.{Card}

-- the columns of a card tell it
pub card_back : (x y : Card) → card_columns x ≡ card_columns y → x ≡ y
card_back x y e = λ i. record {
  merchant = text_in (column (e i) 1);
  number = text_in (column (e i) 2);
  uses = number_in (column (e i) 3);
}

-- the cards, by their ids
abbrev pub cards_in_second : ById v2 card_columns
cards_in_second = record { table = cards; place = 6; here = refl; fits = λ c. refl }
