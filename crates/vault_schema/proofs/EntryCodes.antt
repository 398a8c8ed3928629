-- Each entry is told by its columns, and where its table stands; now, and in schema 1.
use Rattle.std.proofs.Common.{refl, ap, drop, ◌≡◌, [], ◌∷◌, sym}
use Rattle.sqlite.specs.Order.{column}
use Rattle.sql_tables.proofs.ByKey.{Coding}
use Rattle.sql_tables.proofs.Keys.{coding}
use Rattle.sql_tables.specs.Codes.{Codes}
use Rattle.sql_tables.specs.Keyed.{at_least}
use Rattle.sql_tables.specs.Maps.{Keyed}
use Rattle.vault_core.specs.Keys.{entry_cmp}
use Rattle.vault_schema.proofs.KeyColumns.{token_codes}
use Rattle.vault_schema.proofs.Placed.{coded, placed}
use Rattle.vault_schema.proofs.Values.{id_fits, id_same, life_back, number_fits, text_fits, text_same}
use Rattle.vault_schema.specs.Entries.{entry_key, pointing_columns, pointing_row, entries, entry_columns}
use Rattle.vault_schema.specs.Entries.{entry_row, old_entries, ShowsPointing}
use Rattle.vault_schema.specs.Schemas.{v2, v1}
use Rattle.vault_schema.specs.declared.rows.Pointing.{Pointing}

pub pointing_codes : Codes entry_cmp entries.columns 2 entry_key pointing_columns
pointing_codes = coded token_codes
    (λ x y e.
    let card = id_same x.card y.card (ap (λ r. column r 0) e) in
    let life = life_back x.usage y.usage _ _ _ _ x.revoked y.revoked (ap (drop 1) e) in
    λ i. record { card = card i; usage = life.0 i; birth = life.1 i; expires = life.2 i; revoked = life.3 i })
    (λ k x. rw (id_fits x.card, number_fits x.revoked) refl)

-- rows tell their keys and values
pub pointing_coding : Coding entry_cmp pointing_row
pointing_coding = coding pointing_codes

abbrev pub entries_in_second : Keyed v2 entry_cmp entry_key pointing_columns
entries_in_second = placed entries 7 1 pointing_codes refl refl refl refl

-- and a row that shows an entry tells it
pub pointing_told : (x y : Pointing) → ShowsPointing (at_least (pointing_columns x)) y → y ≡ x
pointing_told x y e =
    pointing_codes.value_back y x
    (λ i. sym e.card i ∷ sym e.usage i ∷ sym e.birth i ∷ sym e.expires i ∷ sym e.revoked i ∷ [])

-- ---- those of schema 1

pub entry_codes : Codes entry_cmp old_entries.columns 2 entry_key entry_columns
entry_codes = coded token_codes
    (λ x y e.
    let number = text_same x.number y.number (ap (λ r. column r 0) e) in
    let life = life_back x.usage y.usage _ _ _ _ x.revoked y.revoked (ap (drop 1) e) in
    λ i. record {
      number = number i;
      usage = life.0 i;
      birth = life.1 i;
      expires = life.2 i;
      revoked = life.3 i;
    })
    (λ k x. rw (text_fits x.number, number_fits x.revoked) refl)

abbrev pub old_entries_in_first : Keyed v1 entry_cmp entry_key entry_columns
old_entries_in_first = placed old_entries 3 1 entry_codes refl refl refl refl

pub entry_coding : Coding entry_cmp entry_row
entry_coding = coding entry_codes
