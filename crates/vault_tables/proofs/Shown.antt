-- What queries show of cards and entries in a version that has them.
use Rattle.std.proofs.Common.{◌≡◌, ◌&&◌, ◌∙◌, ℤ, pos, List, [], ◌∷◌, Option, Some, None, inl, inr, is_eq}
use Rattle.std.proofs.Common.{Bool, true, refl, sym, ap, int_cmp}
use Rattle.std.proofs.lemmas.Bool.{and_parts}
use Rattle.std.specs.Cmp.{tied_itself}
use Rattle.sqlite.specs.Effect.{Database}
use Rattle.sqlite.specs.Order.{Row}
use Rattle.sqlite.specs.Schema.{Schema}
use Rattle.sqlite.specs.State.{State, Shown}
use Rattle.sqlite.specs.Term.{col}
use Rattle.sqlite.specs.declared.types.Value.TheVariants.{Int, Text}
use Rattle.sql_tables.proofs.ById.{ById, look_up_id, shown_once}
use Rattle.sql_tables.proofs.KeyTests.{and_true, equal_is, text_eq}
use Rattle.sql_tables.proofs.Reading.{look_up}
use Rattle.sql_tables.proofs.SoundById.{unique_id}
use Rattle.sql_tables.specs.Maps.{IsGuarded, claim_at}
use Rattle.sql_tables.specs.Rows.{AreRowsById, one_of, put}
use Rattle.sql_tables.specs.Schema.{table_of}
use Rattle.sql_tables.specs.States.{Claim, Stands}
use Rattle.sql_tables.specs.Texts.{IsQuery, query_of}
use Rattle.vault_core.proofs.Maps.{bytes_exact, bytes_total}
use Rattle.vault_core.specs.Keys.{Bytes, bytes_cmp}
use Rattle.vault_schema.proofs.ByTable.{second_claims}
use Rattle.vault_schema.proofs.CardJoining.{put_far, put_id}
use Rattle.vault_schema.proofs.TablesBehind.{behind_two, cards_guarded, indexes_behind_two}
use Rattle.vault_schema.specs.Cards.{card_columns}
use Rattle.vault_schema.specs.Entries.{pointing_columns}
use Rattle.vault_schema.specs.Versions.{Tables, claims_of, schema_of}
use Rattle.vault_schema.specs.declared.rows.Card.{Card}
use Rattle.vault_schema.specs.declared.version.Version.{Version}
use Rattle.vault_tables.proofs.Places.{HasCards, card_table, cards_where, pointing_table, said_second, second}
use Rattle.vault_tables.specs.Calls.{HasTables}
use Rattle.vault_tables.specs.CardTexts.{card_is, card_tests, uses_is}
use Rattle.vault_tables.specs.CardUses.{HasNoCard, ShowsCard, card_made, card_shown, uses_column}
use Rattle.vault_tables.specs.EntryTexts.{entry_is}
use Rattle.vault_tables.specs.declared.cards.TheConstants.{FIND_CARD, FIND_USES}
use Rattle.vault_tables.specs.declared.entries.TheConstants.{FIND_ENTRY}

abbrev is_wanted : Bytes → Bytes → ℤ → Card → Bool
is_wanted m number id c = is_eq (bytes_cmp c.merchant m) && is_eq (bytes_cmp c.number number)

exact : (a b : Bytes) → is_eq (bytes_cmp a b) ≡ true → a ≡ b
exact a b e = bytes_exact a b (equal_is _ e)

-- in whatever schema has the table of cards, a merchant's number comes once
pub one_card : {s : Schema} {claims : List Claim} (old new : State) (it : Stands s claims old.now)
    (rows : List Row)
    (cards : ℤ → Option Card) (table : ById s card_columns)
    → ((claim_at claims table.place (old.now.trees table.table.tree))
    → AreRowsById card_columns (old.now.trees table.table.tree) cards)
    → AreRowsById card_columns (old.now.trees table.table.tree) cards
    → IsGuarded s.indexes (table_of table.table) (2 ∷ 3 ∷ [])
    → IsQuery s FIND_CARD.now (query_of table.table.tree card_tests (col 1 0 ∷ col 1 4 ∷ []))
    → (m number : Bytes)
    → Shown FIND_CARD.now (Text m ∷ Text number ∷ []) old new rows → ShowsCard rows cards m number
one_card old new it rows cards table said are guarded means m number shown =
    elim (shown_once old new it _ _ rows shown table cards said card_tests _ [] means
    (is_wanted m number)
    (λ id c. rw (text_eq c.merchant m, text_eq c.number number)
    (ap (λ b. is_eq (bytes_cmp c.merchant m) && b) (and_true _))) card_shown (λ id c. refl)
    (λ n k x y is fits and passes.
    unique_id table old.now it.schema it.sound are
    (2 ∷ 3 ∷ []) guarded n k x y is and
    (let a = and_parts _ _ fits in let b = and_parts _ _ passes in (
      (m, ap Text (exact x.merchant m a.0), ap Text (exact y.merchant m b.0)),
      ((number, ap Text (exact x.number number a.1), ap Text (exact y.number number b.1)), tt),
    )))) [
      | inl none ↦ inl (none.0, λ id c is. none.1 id c is.there (itself c is.merchant is.number))
      | inr one ↦
          let both = and_parts _ _ one.3 in
          inr (
            one.0,
            one.1,
            record {
              there = one.2;
              merchant = exact one.1.merchant m both.0;
              number = exact one.1.number number both.1;
            },
            one.4,
          )
    ]
  where
    itself : (c : Card) → c.merchant ≡ m → c.number ≡ number → is_wanted m number (pos 0) c ≡ true
    itself c own same = rw (own, same, tied_itself bytes_total m, tied_itself bytes_total number) refl

module _ (v : Version) (t : Tables) (old new : State) (it : Stands (schema_of v) (claims_of v t) old.now)
    (rows : List Row) where
  has : HasCards v
  has = cards_where v t old.now.trees it.rows

  stands : Stands (second v) (second_claims v t) old.now
  stands = said_second v has (λ s claims. Stands s claims old.now) t it

  pub shows_card : (m number : Bytes) → Shown FIND_CARD.now (Text m ∷ Text number ∷ []) old new rows
      → ShowsCard rows t.cards m number
  shows_card m number shown =
      one_card old new stands rows t.cards (card_table v) (λ are. are) stands.rows.1.1.1.1.1.1.0
      (cards_guarded v) (card_is (behind_two v) (indexes_behind_two v)) m number shown

  pub shows_uses : (id : ℤ) → Shown FIND_USES.now (Int id ∷ []) old new rows
      → rows ≡ one_of uses_column (t.cards id)
  shows_uses id shown =
      look_up_id old new stands _ _ rows shown (card_table v) t.cards (λ are. are) 0 _
      (uses_is (behind_two v) (indexes_behind_two v)) id refl uses_column (λ c. refl)

  pub shows_pointing : (key : Bytes × Bytes)
      → Shown FIND_ENTRY.now (Text key.0 ∷ Text key.1 ∷ []) old new rows
      → rows ≡ one_of pointing_columns (t.pointing key)
  shows_pointing key shown =
      look_up old new stands _ _ rows shown (pointing_table v) t.pointing (λ are. are) _
      (entry_is (behind_two v) (indexes_behind_two v)) key refl pointing_columns (λ n x. refl)

-- a card that came is the only one of its number, so the number had none before
pub first_of_number : (v : Version) (t : Tables) (new : State) (base : Database) (id : ℤ) (m number : Bytes)
    → t.cards id ≡ None
    → HasTables v new base (record t { cards = put int_cmp t.cards id (Some (card_made m number)) })
    → HasNoCard t.cards m number
first_of_number v t new base id m number free w other c is =
    let has = cards_where v _ new.now.trees w.stands.rows in
    let it = said_second v has (λ s claims. Stands s claims new.now)
    (record t { cards = put int_cmp t.cards id (Some (card_made m number)) }) w.stands in
    let far : other ≡ id → ⊥ = λ same. (let clash : Some c ≡ None = sym is.there ∙ ap t.cards same ∙ free in
    cc) in
    far (unique_id (card_table v) new.now it.schema it.sound it.rows.1.1.1.1.1.1.0 (2 ∷ 3 ∷ [])
    (cards_guarded v) other id c (card_made m number)
    (put_far t.cards id (Some (card_made m number)) other far ∙ is.there)
    (put_id t.cards id (Some (card_made m number)))
    ((m, ap Text is.merchant, refl), ((number, ap Text is.number, refl), tt)))
