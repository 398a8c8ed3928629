-- The table of cards: its columns, its index, and how its rows stand for them.
use Rattle.std.specs.Prelude.{List, [], ◌∷◌, Some, codes, pos}
use Rattle.sqlite.specs.Kind.TheVariants.{Integer, Text as Words}
use Rattle.sqlite.specs.Order.{Row}
use Rattle.sqlite.specs.declared.types.Value.TheVariants.{Null, Int, Text}
use Rattle.sqlite_schema.specs.declared.schema.Index.{Index}
use Rattle.sql_tables.specs.Schema.{Descriptor, key_index, present, optional}
use Rattle.vault_schema.specs.declared.rows.Card.{Card}

-- cards by their id, which stands in the rowid; no two have the same merchant and number
abbrev pub cards : Descriptor
cards = record {
  name = codes "cards2";
  tree = 12;
  columns = optional (codes "id") Integer ∷ present (codes "merchant") Words ∷ present (codes "number") Words
      ∷ present (codes "uses") Integer ∷ [];
  rowid = Some 0;
  primary = 0 ∷ [];
  uniques = (2 ∷ 3 ∷ []) ∷ [];
}

-- the index of a merchant and a number
abbrev pub card_indexes : List Index
card_indexes = key_index 13 (codes "sqlite_autoindex_cards2_1") 12 (2 ∷ 3 ∷ []) ∷ []

-- a card, behind its id: the id stands in the rowid, and its own column has NULL
abbrev pub card_columns : Card → Row
card_columns c = Null ∷ Text c.merchant ∷ Text c.number ∷ Int (pos c.uses) ∷ []
