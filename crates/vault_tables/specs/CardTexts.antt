-- What the texts of cards mean, in each schema that has them, and how the table is read whole.
use Rattle.std.proofs.Common.{pos, List, [], ◌∷◌, refl}
use Rattle.std.specs.Prelude.{string_bytes}
use Rattle.sqlite.specs.Listing.{understood}
use Rattle.sqlite.specs.Order.{Row}
use Rattle.sqlite.specs.Table.{Table}
use Rattle.sqlite.specs.Term.{Term, lit, col}
use Rattle.sqlite.specs.declared.types.Value.TheVariants.{Null, Int, Text}
use Rattle.sqlite_schema.specs.declared.schema.Index.{Index}
use Rattle.sqlite_tied.specs.Compute.{everything}
use Rattle.sql_tables.proofs.ById.{ById}
use Rattle.sql_tables.proofs.Scans.{id_scan}
use Rattle.sql_tables.specs.Scans.{Scan}
use Rattle.sql_tables.specs.Schema.{grown}
use Rattle.sql_tables.specs.Texts.{IsQuery, IsWrite, query_of, sorted_of, ordered_by, update, by_id, eq}
use Rattle.sql_tables.specs.Texts.{insert_or_ignore, delete}
use Rattle.vault_rules.specs.declared.rows.RawCard.{RawCard}
use Rattle.vault_schema.specs.Cards.{card_columns, cards}
use Rattle.vault_schema.specs.Schemas.{v2}
use Rattle.vault_tables.specs.declared.cards.TheConstants.{FIND_CARD, FIND_NUMBER, FIND_USES, ADD_CARD}
use Rattle.vault_tables.specs.declared.cards.TheConstants.{SET_USES, DROP_CARD, READ_CARDS}

-- of `cards2`, as a query shows it
abbrev pub card_values : RawCard → Row
card_values c =
    Int c.id ∷ Text (string_bytes c.merchant) ∷ Text (string_bytes c.number) ∷ Int c.uses ∷ []

-- and as it stands: the database keeps the id as the rowid, and NULL in its column
abbrev pub card_row : RawCard → Row
card_row c =
    Int c.id ∷ Null ∷ Text (string_bytes c.merchant) ∷ Text (string_bytes c.number) ∷ Int c.uses ∷ []

-- ---- the texts

-- the card with the merchant and the number that the parameters say
abbrev pub card_tests : List Term
card_tests = eq (col 1 2) (col 0 0) ∷ eq (col 1 3) (col 0 1) ∷ []

-- the columns of a card after an update of its uses
abbrev pub uses_set : List Term
uses_set = lit Null ∷ col 1 2 ∷ col 1 3 ∷ col 0 1 ∷ []

module _ (ts : List Table) (is : List Index) where
  pub card_is : IsQuery (grown v2 ts is) FIND_CARD.now (query_of 12 card_tests (col 1 0 ∷ col 1 4 ∷ []))
  unfolding understood everything
  card_is = record { names = _; is = refl; plain = (refl, refl); unlisted = refl }

  pub number_is : IsQuery (grown v2 ts is) FIND_NUMBER.now (query_of 12 (by_id 0) (col 1 3 ∷ []))
  unfolding understood everything
  number_is = record { names = _; is = refl; plain = (refl, refl); unlisted = refl }

  pub uses_is : IsQuery (grown v2 ts is) FIND_USES.now (query_of 12 (by_id 0) (col 1 4 ∷ []))
  unfolding understood everything
  uses_is = record { names = _; is = refl; plain = (refl, refl); unlisted = refl }

  pub read_cards_is : IsQuery (grown v2 ts is) READ_CARDS.now
      (sorted_of 12 [] (col 1 0 ∷ col 1 2 ∷ col 1 3 ∷ col 1 4 ∷ []) [] (ordered_by (0 ∷ [])))
  unfolding understood everything
  read_cards_is = record { names = _; is = refl; plain = (refl, refl); unlisted = refl }

  pub add_card_is : IsWrite (grown v2 ts is) ADD_CARD.now
      (insert_or_ignore 6 5 (lit Null ∷ lit Null ∷ col 0 0 ∷ col 0 1 ∷ lit (Int (pos 1)) ∷ []))
  unfolding understood everything
  add_card_is = record { is = refl; plain = (refl, refl) }

  pub set_uses_is : IsWrite (grown v2 ts is) SET_USES.now (update 6 12 (by_id 0) uses_set)
  unfolding understood everything
  set_uses_is = record { is = refl; plain = (refl, refl) }

  pub drop_card_is : IsWrite (grown v2 ts is) DROP_CARD.now (delete 6 12 (by_id 0))
  unfolding understood everything
  drop_card_is = record { is = refl; plain = (refl, refl) }

abbrev card_table : ById v2 card_columns
card_table = record { table = cards; place = 6; here = refl; fits = λ c. refl }

abbrev pub card_scan : Scan RawCard
card_scan =
    id_scan card_values (λ c. c.id) (λ c. refl) v2 READ_CARDS.now card_table 2 refl refl refl
    read_cards_is
