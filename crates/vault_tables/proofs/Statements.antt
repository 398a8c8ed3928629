-- What each statement makes of the tables of a version that has cards, inside a transaction.
use Rattle.std.proofs.Common.{◌≡◌, ◌⊎◌, inl, inr, ◌∙◌, ℤ, ℕ, pos, List, [], ◌∷◌, ◌++◌, Some, None, refl}
use Rattle.std.proofs.Common.{int_cmp, subst, sym}
use Rattle.sqlite.specs.Effect.{Database}
use Rattle.sqlite.specs.Order.{Row}
use Rattle.sqlite.specs.State.{State}
use Rattle.sqlite.specs.declared.types.Value.TheVariants.{Int, Text}
use Rattle.sql_tables.proofs.ById.{change_id, drop_id, try_id}
use Rattle.sql_tables.proofs.Statements.{Ran, insert_in, upsert_in}
use Rattle.sql_tables.specs.Rows.{put}
use Rattle.vault_core.specs.Keys.{Bytes, entry_cmp}
use Rattle.vault_schema.proofs.TablesBehind.{behind_two, indexes_behind_two, plain_second}
use Rattle.vault_schema.specs.Entries.{entry_key, pointing_columns}
use Rattle.vault_schema.specs.Versions.{Tables, claims_of, schema_of}
use Rattle.vault_schema.specs.declared.rows.Card.{Card}
use Rattle.vault_schema.specs.declared.rows.Pointing.{Pointing}
use Rattle.vault_schema.specs.declared.version.Version.{Version}
use Rattle.vault_tables.proofs.Places.{HasCards, card_table, cards_where, counted_second, pointing_table}
use Rattle.vault_tables.proofs.Places.{ran_second, tables_of_second}
use Rattle.vault_tables.specs.Calls.{HasTables}
use Rattle.vault_tables.specs.CardTexts.{add_card_is, drop_card_is, set_uses_is, uses_set}
use Rattle.vault_tables.specs.CardUses.{card_made}
use Rattle.vault_tables.specs.EntryTexts.{add_entry_is, put_entry_is}
use Rattle.vault_tables.specs.declared.cards.TheConstants.{ADD_CARD, SET_USES, DROP_CARD}
use Rattle.vault_tables.specs.declared.entries.TheConstants.{ADD_ENTRY, PUT_ENTRY}

-- the card with this id came, which wasn't there
abbrev pub HasAdded : Version → Tables → Database → State → Bytes → Bytes → ℤ → Type 0
HasAdded v t base new m number id =
    (t.cards id ≡ None)
    × HasTables v new base (record t { cards = put int_cmp t.cards id (Some (card_made m number)) })

module _ (t : Tables) {base : Database} {old new : State} (v : Version) where
  -- what ran, ran in a version with cards
  had : {text : List ℕ} {params : Row} → Ran (schema_of v) (claims_of v t) base old new text params
      → HasCards v
  had run = cards_where v t old.now.trees run.within.stands.rows

  -- a card came, whose id is the last rowid, or nothing changed
  pub card_tried : (m number : Bytes)
      → (run : Ran (schema_of v) (claims_of v t) base old new ADD_CARD.now (Text m ∷ Text number ∷ []))
      → ((run.count ≡ 1) × HasAdded v t base new m number new.last_rowid)
      ⊎ ((run.count ≡ 0) × HasTables v new base t)
  card_tried m number run =
      let has = had run in
      let of = counted_second v has t run in
      elim (try_id (plain_second v has) of.0 (card_table v) t.cards (λ are. are) (card_made m number) 5 _
      (add_card_is (behind_two v) (indexes_behind_two v)) refl)
      as (λ _. ((run.count ≡ 1) × HasAdded v t base new m number new.last_rowid)
      ⊎ ((run.count ≡ 0) × HasTables v new base t)) [
        | inl came ↦
            inl (
              sym of.1 ∙ came.0,
              subst (HasAdded v t base new m number) (sym came.3)
                  (came.1, tables_of_second v has _ came.2),
            )
        | inr still ↦ inr (sym of.1 ∙ still.0, tables_of_second v has t still.1)
      ]

  pub card_used : (id : ℤ) (c : Card) → t.cards id ≡ Some c → (uses : ℕ)
      → Ran (schema_of v) (claims_of v t) base old new SET_USES.now (Int id ∷ Int (pos uses) ∷ [])
      → HasTables v new base (record t { cards = put int_cmp t.cards id (Some (record c { uses = uses })) })
  card_used id c is uses run =
      let has = had run in
      tables_of_second v has _ (change_id (plain_second v has) (ran_second v has t run) (card_table v) t.cards
      (λ are. are) 0 id refl uses_set (set_uses_is (behind_two v) (indexes_behind_two v)) c
      (record c { uses = uses }) is refl)

  pub card_dropped : (id : ℤ)
      → Ran (schema_of v) (claims_of v t) base old new DROP_CARD.now (Int id ∷ [])
      → HasTables v new base (record t { cards = put int_cmp t.cards id None })
  card_dropped id run =
      let has = had run in
      tables_of_second v has _ (drop_id (plain_second v has) (ran_second v has t run) (card_table v) t.cards
      (λ are. are) 0 id refl (drop_card_is (behind_two v) (indexes_behind_two v)))

  pub pointing_put : (at : Bytes × Bytes) (x : Pointing)
      → Ran (schema_of v) (claims_of v t) base old new PUT_ENTRY.now (entry_key at ++ pointing_columns x)
      → HasTables v new base (record t { pointing = put entry_cmp t.pointing at (Some x) })
  pointing_put at x run =
      let has = had run in
      tables_of_second v has _ (upsert_in (plain_second v has) (ran_second v has t run) (pointing_table v)
      t.pointing (λ are. are) at x 8 _ 7 _ (put_entry_is (behind_two v) (indexes_behind_two v)) refl
      (λ n. refl) (λ n y is. refl))

  pub pointing_added : (at : Bytes × Bytes) (x : Pointing)
      → Ran (schema_of v) (claims_of v t) base old new ADD_ENTRY.now (entry_key at ++ pointing_columns x)
      → (t.pointing at ≡ None)
      × HasTables v new base (record t { pointing = put entry_cmp t.pointing at (Some x) })
  pointing_added at x run =
      let has = had run in
      let it = insert_in (plain_second v has) (ran_second v has t run) (pointing_table v) t.pointing
      (λ are. are) at x 8 _ (add_entry_is (behind_two v) (indexes_behind_two v)) refl in
      (it.0, tables_of_second v has _ it.1)
