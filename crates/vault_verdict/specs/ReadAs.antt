-- The rows of each version's tables, read as those of the newest one.
use Rattle.std.specs.Prelude.{◌≡◌, ◌+◌, ◌⊎◌, ℕ, Bool, false, List, [], ◌∷◌, map, cond, length, not}
use Rattle.std.specs.List.{filter_map}
use Rattle.std.specs.List.Sorted.{IsPermutation}
use Rattle.sqlite.specs.Effect.{Database}
use Rattle.sqlite.specs.Held.{Held}
use Rattle.sqlite.specs.Order.{Row}
use Rattle.sqlite.specs.Tree.{Trees}
use Rattle.sqlite_schema.specs.declared.schema.Column.{Column}
use Rattle.sqlite_trees.specs.declared.store.Store.{Ghosts}
use Rattle.sql_tables.specs.Reading.{AreLonger, IsAny, IsUnread, TableLook, any_left}
use Rattle.sql_tables.specs.Scans.{id_values}
use Rattle.vault_rules.specs.AllRows.{Rows}
use Rattle.vault_rules.specs.declared.rows.RawMerchant.{RawMerchant}
use Rattle.vault_rules.specs.declared.rows.RawRight.{RawRight}
use Rattle.vault_schema.specs.Layers.{Either, Layer, is_from, is_past}
use Rattle.vault_schema.specs.Versions.{has_cards, layers, schema_of}
use Rattle.vault_tables.specs.declared.entries.old.TheConstants.{READ_OLD_ENTRY_IDS}
use Rattle.vault_schema.specs.declared.version.Version.{Version}
use Rattle.vault_schema.specs.declared.version.Version.TheVariants.{Three, Four}
use Rattle.vault_tables.specs.MerchantTexts.{merchant_values, with_first_lead}
use Rattle.vault_tables.specs.RightTexts.{right_values, with_first_end}
use Rattle.vault_tables.specs.declared.merchants.TheConstants.{READ_MERCHANTS}
use Rattle.vault_tables.specs.declared.merchants.old.TheConstants.{READ_MERCHANT_IDS, READ_OLD_MERCHANTS}
use Rattle.vault_tables.specs.declared.rights.TheConstants.{READ_RIGHTS}
use Rattle.vault_tables.specs.declared.rights.old.TheConstants.{READ_OLD_RIGHTS, READ_RIGHT_IDS}
use Rattle.vault_verdict.specs.Made.{as_card, as_entry}
use Rattle.vault_tables.specs.CardTexts.{card_row, card_values}
use Rattle.vault_tables.specs.EntryTexts.{entry_values}
use Rattle.vault_tables.specs.EntryTexts.{old_entry_values}
use Rattle.vault_tables.specs.declared.entries.old.OldEntry.{OldEntry}

-- ---- the rows

-- its merchants, and its rights
abbrev pub merchants_in : Version → Trees → List Row
merchants_in v db = cond (is_from Three v) (db 17) (map with_first_lead (db 1))

abbrev pub rights_in : Version → Trees → List Row
rights_in v db = cond (is_from Four v) (db 19) (map with_first_end (db 10))

-- of these tables, how many were replaced by a version and still have rows
abbrev pub left_at : {T : Type 0} → Version → List (Layer T) → Trees → ℕ
left_at v [] db = 0
left_at v (l ∷ ls) db = cond (is_past v l.till) (any_left (db l.table.tree)) 0 + left_at v ls db

-- and of all tables
abbrev pub replaced_in : Version → Trees → ℕ
replaced_in v db = left_at v layers db

-- the same sum of entries, merchants and rights, which are all that were replaced
abbrev pub left_in : Version → ℕ → ℕ → ℕ → ℕ
left_in v entries merchants rights =
    cond (has_cards v) entries 0 + cond (is_from Three v) merchants 0 + cond (is_from Four v) rights 0

-- the rows of `cards2` and `entries2`
pub record AreCards (db : Trees) (rows : Rows) : Type 0 where
  pub cards : IsPermutation (db 12) (map card_row rows.cards)
  pub entries : IsPermutation (db 14) (map entry_values rows.entries)

-- the rows of `entries`, the table of schema 1, and what they are with cards
pub record AreOlders (db : Trees) (olders : List OldEntry) (rows : Rows) : Type 0 where
  pub stand : IsPermutation (db 5) (map old_entry_values olders)
  pub entries : map as_entry olders ≡ map entry_values rows.entries
  pub cards : filter_map as_card olders ≡ map card_values rows.cards

-- the entries and their cards: those of schema 1 have a card each of their own
abbrev pub AreEntries : Version → Trees → List OldEntry → Rows → Type 0
AreEntries v db olders rows = Either (has_cards v) (AreCards db rows) (AreOlders db olders rows)

-- ---- rows with all their columns

-- the last of these columns may be NULL
abbrev pub ends_open : List Column → Bool
ends_open [] = false
ends_open (c ∷ []) = not c.not_null
ends_open (c ∷ d ∷ cs) = ends_open (d ∷ cs)

-- each row of a table that a version has, and didn't replace, has all columns, where the last may be NULL
abbrev pub IsTableFull : {T : Type 0} → Version → Layer T → Trees → Type 0
IsTableFull v l db =
    Either (ends_open l.table.columns) (Either (is_from l.since v) (Either (is_past v l.till) (Unit {0})
    (AreLonger (length l.table.columns) (db l.table.tree))) (Unit {0})) (Unit {0})

-- so of each of these tables
abbrev pub AreTablesFull : {T : Type 0} → Version → List (Layer T) → Trees → Type 0
AreTablesFull v [] db = Unit {0}
AreTablesFull v (l ∷ ls) db = IsTableFull v l db × AreTablesFull v ls db

-- The premise on a file: each row of a table whose last column may be NULL has all its columns. Nothing else
-- says that no row was made before that column was added; no statement of this program adds one.
abbrev pub AreFull : Version → Trees → Type 0
AreFull v db = AreTablesFull v layers db

-- a database in the schema of a version, with full rows
pub record IsFullIn (v : Version) (db : Database) : Type 0 where
  pub schema : db.schema ≡ schema_of v
  pub full : AreFull v db.trees

-- ---- what reads them

-- the premise on the merchants of a version, and that on its rights
abbrev pub AreMerchantsFull : Version → Database → Type 0
AreMerchantsFull v = IsAny

abbrev pub AreRightsFull : Version → Database → Type 0
AreRightsFull v db = Either (is_from Four v) (AreLonger 4 (db.trees 19)) (Unit {0})

-- the text that reads its merchants, and that of its rights
abbrev pub merchants_text : Version → List ℕ
merchants_text v = cond (is_from Three v) READ_MERCHANTS.now READ_OLD_MERCHANTS.now

abbrev pub rights_text : Version → List ℕ
rights_text v = cond (is_from Four v) READ_RIGHTS.now READ_OLD_RIGHTS.now

-- how the merchants of a version are read, and its rights
abbrev pub merchants_look : Version → TableLook RawMerchant
merchants_look v = record {
  look = record { schema = schema_of v; text = merchants_text v; values = merchant_values };
  full = AreMerchantsFull v;
  rows = merchants_in v;
  stands = merchant_values;
  id = λ raw. raw.rowid;
}

abbrev pub rights_look : Version → TableLook RawRight
rights_look v = record {
  look = record { schema = schema_of v; text = rights_text v; values = right_values };
  full = AreRightsFull v;
  rows = rights_in v;
  stands = right_values;
  id = λ raw. raw.rowid;
}

-- why the tables that were replaced aren't counted, though memory is there
abbrev pub IsUnreadReplaced : {S : Type 0} → Ghosts S → Database → Held S → Type 0
IsUnreadReplaced g db new =
    IsUnread g READ_OLD_ENTRY_IDS.now id_values db new
    ⊎ (IsUnread g READ_MERCHANT_IDS.now id_values db new
    ⊎ IsUnread g READ_RIGHT_IDS.now id_values db new)
