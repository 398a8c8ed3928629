-- The rows that stand in a version, table by table.
use Rattle.std.proofs.Common.{◌≡◌, ℕ, ℤ, List, ◌∷◌, true, false, Option, None, refl, subst}
use Rattle.sqlite.specs.Tree.{Trees}
use Rattle.sql_tables.specs.Rows.{AreRowsById, AreRowsOf}
use Rattle.sql_tables.specs.States.{Claim, IsEmpty, StandsIn}
use Rattle.vault_core.specs.Keys.{Bytes}
use Rattle.vault_core.specs.declared.row.Entry.{Entry}
use Rattle.vault_schema.proofs.Layers.{HoldAt, holds_at}
use Rattle.vault_schema.specs.Cards.{card_columns}
use Rattle.vault_schema.specs.Counts.{count_row}
use Rattle.vault_schema.specs.Entries.{entry_row, pointing_row}
use Rattle.vault_schema.specs.Layers.{Either, claim_or_empty, claims_at, claims_if, is_from}
use Rattle.vault_schema.specs.Records.{record_row}
use Rattle.vault_schema.specs.VersionRows.{IsVersion}
use Rattle.vault_schema.specs.Versions.{Lookups, StandJoined, StandRows, has_cards, layers, schema_of}
use Rattle.vault_schema.specs.Versions.{OldMerchants, OldRights, Tables, claims_of, natural_of, third_layers}
use Rattle.vault_schema.specs.Versions.{tables_of, uncarded_claims}
use Rattle.vault_schema.specs.declared.rows.Card.{Card}
use Rattle.vault_schema.specs.declared.rows.Pointing.{Pointing}
use Rattle.vault_schema.specs.declared.version.Version.{Version}
use Rattle.vault_schema.specs.declared.version.Version.TheVariants.{Three, Four}

-- what is said of the rows of a version with cards: the entries of schema 1 are gone
abbrev pub shared_claims : ℕ → Claim → Claim → Tables → List Claim → List Claim
shared_claims version merchants rights t others =
    IsVersion version ∷ merchants ∷ (λ rows. AreRowsOf count_row rows t.counts) ∷ IsEmpty
    ∷ (λ rows. AreRowsOf record_row rows t.records) ∷ rights
    ∷ (λ rows. AreRowsById card_columns rows t.cards) ∷ (λ rows. AreRowsOf pointing_row rows t.pointing)
    ∷ others

abbrev pub second_claims : Version → Tables → List Claim
second_claims v t =
    shared_claims (natural_of v) (claim_or_empty (is_from Three v) (OldMerchants t.merchants))
    (claim_or_empty (is_from Four v) (OldRights t.rights)) t (claims_at v third_layers (λ key. None, t))

pub claims_are : (v : Version) → has_cards v ≡ true → (t : Tables) → claims_of v t ≡ second_claims v t
claims_are v has t = rw (has) refl

module _ (v : Version) (db : Trees) (h : Lookups) where
  -- each table is as is said of it, with some entries of schema 1, some cards, and entries that point at them
  pub record AreHeld : Type 0 where
    pub entries : Bytes × Bytes → Option Entry
    pub cards : ℤ → Option Card
    pub pointing : Bytes × Bytes → Option Pointing
    pub hold : HoldAt v (entries, tables_of h cards pointing) db layers

  -- so it is where there are cards
  pub joined_hold : has_cards v ≡ true → (j : StandJoined v db h)
      → HoldAt v (λ key. None, tables_of h j.cards j.pointing) db layers
  joined_hold has j =
      holds_at v _ db layers (subst (λ b. StandsIn (schema_of v).tables
      (claims_if b (claims_at v layers (λ key. None, tables_of h j.cards j.pointing))) db) has j.rows)

  -- and in each version
  pub held : StandRows v db h → AreHeld
  held rows =
      elim (has_cards v) as (λ b. has_cards v ≡ b → Either b (StandJoined v db h)
      (StandsIn (schema_of v).tables (uncarded_claims v h) db) → AreHeld) [
        | true ↦ λ has j. record {
          entries = λ key. None;
          cards = j.cards;
          pointing = j.pointing;
          hold = joined_hold has j;
        }
        | false ↦ λ none stands. record {
          entries = h.entries;
          cards = λ id. None;
          pointing = λ key. None;
          hold = holds_at v _ db layers stands;
        }
      ] refl rows

  -- ---- its cards, and its entries

  module _ (has : has_cards v ≡ true) (j : StandJoined v db h) where
    pub joined_cards : AreRowsById card_columns (db 12) j.cards
    joined_cards = (joined_hold has j).1.1.1.1.1.1.0 has

    pub joined_pointing : AreRowsOf pointing_row (db 14) j.pointing
    joined_pointing = (joined_hold has j).1.1.1.1.1.1.1.0 has

  pub first_entries : has_cards v ≡ false → StandsIn (schema_of v).tables (uncarded_claims v h) db
      → AreRowsOf entry_row (db 5) h.entries
  first_entries none stands =
      subst (λ b. claim_or_empty b (λ rows. AreRowsOf entry_row rows h.entries) (db 5)) none
      ((holds_at v _ db layers stands).1.1.1.0 refl)
