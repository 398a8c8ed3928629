-- What the texts that make schema 2 of schema 1 define, one after the other.
use Rattle.std.proofs.Common.{◌≡◌, [], ◌∷◌, codes, refl}
use Rattle.sqlite.specs.Change.{created, indexed}
use Rattle.sqlite.specs.Listing.{understood}
use Rattle.sqlite.specs.Schema.{Schema}
use Rattle.sqlite_schema.specs.declared.schema.Index.{Index}
use Rattle.sqlite_tied.specs.Compute.{everything}
use Rattle.sql_tables.specs.Schema.{table_of, plain_index}
use Rattle.sql_tables.specs.Texts.{MakesTable, MakesIndex}
use Rattle.vault_schema.proofs.Meanings.{treeless}
use Rattle.vault_schema.specs.Cards.{cards}
use Rattle.vault_schema.specs.Entries.{entries}
use Rattle.vault_schema.specs.Schemas.{v1, v2}
use Rattle.vault_tables.specs.declared.cards.TheConstants.{CREATE_CARDS}
use Rattle.vault_tables.specs.declared.entries.TheConstants.{CREATE_ENTRIES, CREATE_ENTRIES_CARD}

-- schema 1 with the table of cards
abbrev pub with_cards : Schema
with_cards = created v1 (treeless cards)

-- with the table of entries, too
abbrev pub with_entries : Schema
with_entries = created with_cards (treeless entries)

-- the index by card, before it has a tree
abbrev pub card_index : Index
card_index = plain_index 0 (codes "entries2_card") 14 (1 ∷ 3 ∷ [])

-- what each text makes of the schema that those before it made, of which the last is schema 2
pub record MakesSecond : Type 0 where
  pub for_cards : MakesTable v1 CREATE_CARDS.now (treeless cards)
  pub for_entries : MakesTable with_cards CREATE_ENTRIES.now (treeless entries)
  pub for_card : MakesIndex with_entries CREATE_ENTRIES_CARD.now 7 (table_of entries) card_index
  pub all : indexed with_entries (table_of entries) card_index ≡ v2

pub makes_second : MakesSecond
unfolding understood everything
makes_second = record {
  for_cards = record { is = refl; whole = refl; plain = (refl, refl); defines = refl; uncounted = refl };
  for_entries = record { is = refl; whole = refl; plain = (refl, refl); defines = refl; uncounted = refl };
  for_card = record { is = refl; whole = refl; plain = (refl, refl); here = refl; defines = refl };
  all = refl;
}
