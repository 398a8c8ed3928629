-- Where cards and entries stand in each version that has them, and what their texts mean there.
use Rattle.std.proofs.Common.{◌≡◌, ℕ, true, false, List, [], ◌∷◌, None, refl, subst, sym}
use Rattle.sqlite.specs.Effect.{Database}
use Rattle.sqlite.specs.Order.{Row}
use Rattle.sqlite.specs.Schema.{Schema}
use Rattle.sqlite.specs.State.{State}
use Rattle.sqlite.specs.Term.{col}
use Rattle.sqlite.specs.Tree.{Trees}
use Rattle.sql_tables.proofs.ById.{ById}
use Rattle.sql_tables.proofs.Grown.{keyed_in_grown}
use Rattle.sql_tables.proofs.Statements.{Ran}
use Rattle.sql_tables.specs.Maps.{Keyed}
use Rattle.sql_tables.specs.Schema.{grown}
use Rattle.sql_tables.specs.States.{Claim, StandsIn, Within}
use Rattle.sql_tables.specs.Texts.{IsQuery, by_id, by_key, query_of}
use Rattle.vault_core.specs.Keys.{entry_cmp}
use Rattle.vault_schema.proofs.ByTable.{claims_are, second_claims}
use Rattle.vault_schema.proofs.EntryCodes.{entries_in_second}
use Rattle.vault_schema.proofs.TablesBehind.{behind_two, entries_free, indexes_behind_two, schema_second}
use Rattle.vault_schema.specs.Cards.{card_columns, cards}
use Rattle.vault_schema.specs.Entries.{entry_key, pointing_columns}
use Rattle.vault_schema.specs.Layers.{claims_at, claims_if}
use Rattle.vault_schema.specs.Schemas.{v2}
use Rattle.vault_schema.specs.Versions.{Tables, claims_of, has_cards, layers, schema_of}
use Rattle.vault_schema.specs.declared.version.Version.{Version}
use Rattle.vault_tables.specs.Calls.{HasTables}
use Rattle.vault_tables.specs.CardTexts.{card_is, card_tests, uses_is}
use Rattle.vault_tables.specs.EntryTexts.{entry_is}
use Rattle.vault_tables.specs.declared.cards.TheConstants.{FIND_CARD, FIND_USES}
use Rattle.vault_tables.specs.declared.entries.TheConstants.{FIND_ENTRY}

-- a version has cards
abbrev pub HasCards : Version → Type 0
HasCards v = has_cards v ≡ true

-- where something is held of cards, the version has them
pub cards_where : (v : Version) (t : Tables) (db : Trees) → StandsIn (schema_of v).tables (claims_of v t) db
    → HasCards v
cards_where v t db stands =
    elim (has_cards v) as (λ b. has_cards v ≡ b → StandsIn (schema_of v).tables
    (claims_if b (claims_at v layers (λ key. None, t))) db → HasCards v) [
      | true ↦ λ has rows. has
      | false ↦ λ none rows. absurd rows
    ] refl stands

-- ---- its schema begins with schema 2

module _ (v : Version) where
  abbrev pub second : Schema
  second = grown v2 (behind_two v) (indexes_behind_two v)

  abbrev pub card_table : ById second card_columns
  card_table = record { table = cards; place = 6; here = refl; fits = λ c. refl }

  abbrev pub pointing_table : Keyed second entry_cmp entry_key pointing_columns
  pointing_table =
      keyed_in_grown entries_in_second (behind_two v) (indexes_behind_two v) (entries_free v)

  module _ (has : HasCards v) where
    -- so what is said of it is said of that, and the other way round
    pub said_second : (P : Schema → List Claim → Type 0) (t : Tables) → P (schema_of v) (claims_of v t)
        → P second (second_claims v t)
    said_second P t said =
        subst (P second) (claims_are v has t) (subst (λ s. P s (claims_of v t)) (schema_second v has) said)

    pub said_of : (P : Schema → List Claim → Type 0) (t : Tables) → P second (second_claims v t)
        → P (schema_of v) (claims_of v t)
    said_of P t said =
        subst (λ s. P s (claims_of v t)) (sym (schema_second v has))
        (subst (P second) (sym (claims_are v has t)) said)

    pub ran_second : (t : Tables) {base : Database} {old new : State} {text : List ℕ} {params : Row}
        → Ran (schema_of v) (claims_of v t) base old new text params
        → Ran second (second_claims v t) base old new text params
    ran_second t {base} {old} {new} {text} {params} run =
        said_second (λ s claims. Ran s claims base old new text params) t run

    -- and it changed as many rows
    pub counted_second : (t : Tables) {base : Database} {old new : State} {text : List ℕ} {params : Row}
        → (run : Ran (schema_of v) (claims_of v t) base old new text params)
        → (it : Ran second (second_claims v t) base old new text params) × (it.count ≡ run.count)
    counted_second t {base} {old} {new} {text} {params} run =
        said_second
        (λ s claims. (it : Ran s claims base old new text params) × (it.count ≡ run.count)) t (run, refl)

    pub tables_of_second : {base : Database} {new : State} (t : Tables)
        → Within second (second_claims v t) base new → HasTables v new base t
    tables_of_second {base} {new} t w = said_of (λ s claims. Within s claims base new) t w

    -- its queries
    pub card_is_at : IsQuery (schema_of v) FIND_CARD.now (query_of 12 card_tests (col 1 0 ∷ col 1 4 ∷ []))
    card_is_at =
        subst (λ s. IsQuery s FIND_CARD.now (query_of 12 card_tests (col 1 0 ∷ col 1 4 ∷ [])))
        (sym (schema_second v has)) (card_is (behind_two v) (indexes_behind_two v))

    pub uses_is_at : IsQuery (schema_of v) FIND_USES.now (query_of 12 (by_id 0) (col 1 4 ∷ []))
    uses_is_at =
        subst (λ s. IsQuery s FIND_USES.now (query_of 12 (by_id 0) (col 1 4 ∷ [])))
        (sym (schema_second v has)) (uses_is (behind_two v) (indexes_behind_two v))

    pub entry_is_at : IsQuery (schema_of v) FIND_ENTRY.now
        (query_of 14 (by_key 2) (col 1 3 ∷ col 1 4 ∷ col 1 5 ∷ col 1 6 ∷ col 1 7 ∷ []))
    entry_is_at =
        subst (λ s. IsQuery s FIND_ENTRY.now
        (query_of 14 (by_key 2) (col 1 3 ∷ col 1 4 ∷ col 1 5 ∷ col 1 6 ∷ col 1 7 ∷ [])))
        (sym (schema_second v has)) (entry_is (behind_two v) (indexes_behind_two v))
