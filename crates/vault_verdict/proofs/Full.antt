-- Rows that have all their columns: what the premise says of each table, and that rows that stand for a vault
-- keep it.
use Rattle.std.proofs.Common.{◌≡◌, ◌<◌, ℕ, true, false, List, [], ◌∷◌, ap, arith, drop, length, refl}
use Rattle.sqlite.specs.Effect.{Database}
use Rattle.sqlite.specs.Order.{Row}
use Rattle.sqlite.specs.Tree.{Trees}
use Rattle.sql_tables.specs.Rows.{AreRowsOf}
use Rattle.sql_tables.specs.States.{StandsIn}
use Rattle.sql_tables.specs.Reading.{AreLonger}
use Rattle.vault_core.specs.Keys.{Bytes}
use Rattle.vault_core.specs.declared.right.Right.{Right}
use Rattle.vault_schema.proofs.ByTable.{first_entries, held, joined_pointing}
use Rattle.vault_schema.specs.Layers.{Either, is_from}
use Rattle.vault_schema.specs.Entries.{entry_row}
use Rattle.vault_schema.specs.Entries.{pointing_row}
use Rattle.vault_schema.specs.Versions.{Lookups, Rights, Stand, StandJoined, has_cards, schema_of}
use Rattle.vault_schema.specs.Versions.{uncarded_claims}
use Rattle.vault_schema.specs.declared.version.Version.{Version}
use Rattle.vault_schema.specs.declared.version.Version.TheVariants.{Four}
use Rattle.vault_verdict.specs.ReadAs.{AreFull, AreMerchantsFull, AreRightsFull}

-- ---- table by table

-- of schema 1, and those that point at cards
pub entries_full : (v : Version) (db : Trees) → AreFull v db
    → Either (has_cards v) (AreLonger 7 (db 14)) (AreLonger 7 (db 5))
entries_full v db full =
    elim (has_cards v) as (λ b. Either b (Unit {0}) (AreLonger 7 (db 5))
    → Either b (AreLonger 7 (db 14)) (Unit {0}) → Either b (AreLonger 7 (db 14)) (AreLonger 7 (db 5))) [
      | true ↦ λ older newer. newer
      | false ↦ λ older newer. older
    ] full.1.1.1.0 full.1.1.1.1.1.1.1.0

pub merchants_full : (v : Version) (db : Database) → AreFull v db.trees → AreMerchantsFull v db
merchants_full v db full = tt

pub rights_full : (v : Version) (db : Database) → AreFull v db.trees → AreRightsFull v db
rights_full v db full = full.1.1.1.1.1.1.1.1.1.0

-- ---- rows that stand

behind : (n : ℕ) (row : Row) → length (drop 1 row) ≡ n → 0 < n → n < length row
behind n [] e some = absurd (omega (arith, e, some))
behind n (v ∷ row) e some = omega (arith, e)

-- rows of entries, and of rights that may end, have all their columns
pointing_full : {rows : List Row} {held : Bytes × Bytes → _} → AreRowsOf pointing_row rows held
    → AreLonger 7 rows
pointing_full are row there =
    let found = are.sound row there in behind 7 row (ap length found.2) (omega arith)

olders_full : {rows : List Row} {held : Bytes × Bytes → _} → AreRowsOf entry_row rows held → AreLonger 7 rows
olders_full are row there =
    let found = are.sound row there in behind 7 row (ap length found.2) (omega arith)

rights_are_full : {rows : List Row} {held : Bytes × (Bytes × Right) → _} → Rights held rows
    → AreLonger 4 rows
rights_are_full are row there =
    let found = are.sound row there in behind 4 row (ap length found.2) (omega arith)

module _ (v : Version) (db : Trees) (h : Lookups) (s : Stand v db h) where
  olders_stand_full : Either (has_cards v) (Unit {0}) (AreLonger 7 (db 5))
  olders_stand_full =
      elim (has_cards v) as (λ b. has_cards v ≡ b → Either b (StandJoined v db h)
      (StandsIn (schema_of v).tables (uncarded_claims v h) db) → Either b (Unit {0}) (AreLonger 7 (db 5))) [
        | true ↦ λ has j. tt
        | false ↦ λ none stands. olders_full (first_entries v db h none stands)
      ] refl s.rows

  pointing_stand_full : Either (has_cards v) (AreLonger 7 (db 14)) (Unit {0})
  pointing_stand_full =
      elim (has_cards v) as (λ b. has_cards v ≡ b → Either b (StandJoined v db h)
      (StandsIn (schema_of v).tables (uncarded_claims v h) db) → Either b (AreLonger 7 (db 14)) (Unit {0})) [
        | true ↦ λ has j. pointing_full (joined_pointing v db h has j)
        | false ↦ λ none stands. tt
      ] refl s.rows

  rights_stand_full : Either (is_from Four v) (AreLonger 4 (db 19)) (Unit {0})
  rights_stand_full =
      elim (is_from Four v) as (λ b. (b ≡ true → Rights h.rights (db 19))
      → Either b (AreLonger 4 (db 19)) (Unit {0})) [
        | true ↦ λ rights. rights_are_full (rights refl)
        | false ↦ λ rights. tt
      ] (held v db h s.rows).hold.1.1.1.1.1.1.1.1.1.0

  -- in the order of the tables
  pub full_of : AreFull v db
  full_of = (
    tt,
    (
      tt,
      (tt, (olders_stand_full, (tt, (tt, (tt, (pointing_stand_full, (tt, (rights_stand_full, tt)))))))),
    ),
  )
