-- What queries show of cards.
use Rattle.std.proofs.Common.{◌≡◌, ℤ, List, [], ◌∷◌, Option, Some, None, option_map, refl, ◌∙◌}
use Rattle.sqlite.specs.Order.{Row}
use Rattle.sqlite.specs.State.{State, Shown}
use Rattle.sqlite.specs.declared.types.Value.TheVariants.{Int, Text}
use Rattle.sql_tables.proofs.ById.{look_up_id}
use Rattle.sql_tables.specs.Rows.{one_of}
use Rattle.sql_tables.specs.States.{Stands}
use Rattle.vault_core.specs.Keys.{Bytes}
use Rattle.vault_schema.proofs.Newest.{behind_second, indexes_behind_second, card_table}
use Rattle.vault_schema.specs.Joined.{number_of}
use Rattle.vault_schema.specs.Schema.{newest_schema}
use Rattle.vault_schema.specs.Stands.{newest_claims}
use Rattle.vault_schema.specs.Versions.{Tables}
use Rattle.vault_schema.specs.declared.rows.Card.{Card}
use Rattle.vault_tables.proofs.Shown.{one_card}
use Rattle.vault_tables.specs.CardTexts.{card_is, number_is}
use Rattle.vault_tables.specs.CardUses.{ShowsCard}
use Rattle.vault_tables.specs.Shown.{text_column}
use Rattle.vault_tables.specs.declared.cards.TheConstants.{FIND_CARD, FIND_NUMBER}

module _ {t : Tables} (old new : State) (it : Stands newest_schema (newest_claims t) old.now)
    (rows : List Row) where
  -- a merchant's number comes once
  pub shows_card : (m number : Bytes) → Shown FIND_CARD.now (Text m ∷ Text number ∷ []) old new rows
      → ShowsCard rows t.cards m number
  shows_card m number shown =
      one_card old new it rows t.cards card_table (λ are. are) it.rows.1.1.1.1.1.1.0
      (record { index = _; only = refl; order = refl; columns = refl })
      (card_is behind_second indexes_behind_second) m number shown

  pub shows_number : (id : ℤ) → Shown FIND_NUMBER.now (Int id ∷ []) old new rows
      → rows ≡ one_of text_column (number_of t.cards id)
  shows_number id shown =
      look_up_id old new it _ _ rows shown card_table t.cards (λ are. are) 0 _
      (number_is behind_second indexes_behind_second) id refl
      (λ (c : Card). text_column c.number) (λ c. refl) ∙ mapped (t.cards id)
    where
      mapped : (o : Option Card) → one_of (λ (c : Card). text_column c.number) o
          ≡ one_of text_column (option_map (λ (c : Card). c.number) o)
      mapped None = refl
      mapped (Some c) = refl
