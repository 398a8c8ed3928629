-- Rights in each version: what its tables have of them, read as the rows of the newest one.
use Rattle.std.proofs.Common.{◌≡◌, ◌∙◌, ℕ, ℤ, true, List, [], ◌∷◌, drop, map, Option, Some}
use Rattle.std.proofs.Common.{None, ap, arith, option_map, refl, sym}
use Rattle.std.specs.List.Sorted.{IsPermutation}
use Rattle.std.specs.Prelude.{string_bytes}
use Rattle.sqlite.specs.Effect.{Database, IsDatabase}
use Rattle.sqlite.specs.Order.{Row}
use Rattle.sqlite.specs.Table.{Table as SqlTable}
use Rattle.sqlite.specs.Tree.{Trees}
use Rattle.sqlite.specs.declared.types.Value.TheVariants.{Int, Null, Text}
use Rattle.sqlite_rules.specs.Lists.{Has}
use Rattle.sqlite_schema.specs.declared.schema.Index.{Index}
use Rattle.sql_tables.proofs.Grown.{keyed_in_grown}
use Rattle.sql_tables.specs.Rows.{IsApart}
use Rattle.sql_tables.specs.Schema.{columns_to}
use Rattle.sql_tables.specs.Values.{int_value}
use Rattle.vault_core.specs.Keys.{Bytes}
use Rattle.vault_core.specs.Vault.{Vault}
use Rattle.vault_core.specs.declared.right.Right.{Right}
use Rattle.vault_core.specs.declared.row.GrantRow.{GrantRow}
use Rattle.vault_rules.proofs.FoundRows.{right_row}
use Rattle.vault_rules.proofs.Options.{mapped_is}
use Rattle.vault_rules.proofs.RowsShow.{rows_show}
use Rattle.vault_rules.specs.AllRows.{Rows}
use Rattle.vault_rules.specs.Codes.{natural, right_of}
use Rattle.vault_rules.specs.Rules.{keeps}
use Rattle.vault_rules.specs.Showing.{Shows, ShowsRight}
use Rattle.vault_rules.specs.VaultOf.{AreKeysApart, HasKeysApart, number_key, vault_of}
use Rattle.vault_rules.specs.declared.rows.RawRight.{RawRight}
use Rattle.vault_schema.proofs.TablesBehind.{behind, behind_from, indexes_behind, indexes_behind_from}
use Rattle.vault_schema.proofs.TablesBehind.{schema_from, schema_is}
use Rattle.vault_schema.proofs.ByTable.{AreHeld}
use Rattle.vault_schema.proofs.Layers.{free_in, layers_after}
use Rattle.vault_schema.proofs.Newest as newest_tables
use Rattle.vault_schema.proofs.RightCodes.{old_rights_in_first}
use Rattle.vault_schema.proofs.RightCodes.{right_coding, rights_in_fourth}
use Rattle.vault_schema.specs.Stands.{lookups_of}
use Rattle.vault_schema.specs.Rights.{no_columns, old_right_row}
use Rattle.vault_schema.specs.Rights.{right_key}
use Rattle.vault_schema.specs.Values.{number_or_null}
use Rattle.vault_schema.specs.Rights.{old_rights}
use Rattle.vault_schema.specs.Rights.{ends_column, right_row as four_right_row, rights as rights_table}
use Rattle.vault_schema.specs.Rights.{older_right}
use Rattle.vault_schema.specs.Versions.{AreEndless, HasDefaults, Lookups, OldRights, Rights, layers, newest}
use Rattle.vault_schema.specs.Versions.{schema_of, second_layers}
use Rattle.vault_schema.specs.declared.version.Version.{Version}
use Rattle.vault_schema.specs.declared.version.Version.TheVariants.{Four}
use Rattle.vault_tables.specs.RightTexts.{with_first_end, right_values}
use Rattle.vault_verdict.proofs.Sources.{moment_as, moment_told}
use Rattle.vault_verdict.proofs.Left.{AreGone}
use Rattle.vault_verdict.proofs.ReplacedTable.{AreSaid, Replaced, by_table, narrow_up, said_of_read}
use Rattle.vault_verdict.proofs.ReplacedTable.{said_where_read}
use Rattle.vault_verdict.proofs.Table.{Listing, Table, keys_apart, listed_by, pair_of, stand_for}
use Rattle.vault_verdict.proofs.Tables.{IsFree, same_int, same_text}
use Rattle.vault_verdict.proofs.Widened.{widened}
use Rattle.vault_verdict.specs.ReadAs.{rights_in}

-- ---- the tables

-- two texts and a number
abbrev whose : Bytes × (Bytes × ℤ) → Row
whose q = Text q.0 ∷ Text q.1.0 ∷ Int q.1.1 ∷ []

abbrev right_told : Bytes × (Bytes × ℤ) → Bytes × (Bytes × Right)
right_told q = (q.0, (q.1.0, right_of q.1.1))

-- the columns of the key tell it
right_back : (q : Bytes × (Bytes × ℤ)) (k : Bytes × (Bytes × Right)) → whose q ≡ right_key k
    → right_told q ≡ k
right_back q k e = grind arith

abbrev by_right : Listing right_key 3 (Bytes × (Bytes × ℤ))
by_right = record {
  shows = whose;
  key_of = right_told;
  fits = λ q. (refl, rw (same_text q.0, same_text q.1.0, same_int q.1.1) refl);
  back = right_back;
}

-- what the older table has of a right
abbrev old_right_values : RawRight → Row
old_right_values r =
    Int r.rowid ∷ Text (string_bytes r.caller) ∷ Text (string_bytes r.merchant) ∷ Int r.what ∷ []

module _ (others : List SqlTable) (indexes : List Index) where
  -- without an end
  abbrev old_right_table : (free : IsFree others indexes old_rights 3)
      → Table (keyed_in_grown old_rights_in_first others indexes free) RawRight (Bytes × (Bytes × ℤ))
  old_right_table free = listed_by by_right old_right_values number_key (λ r. refl)

  -- with an end, or none
  abbrev ending_right_table : (free : IsFree others indexes rights_table 3)
      → Table (keyed_in_grown rights_in_fourth others indexes free) RawRight (Bytes × (Bytes × ℤ))
  ending_right_table free = listed_by by_right right_values number_key (λ r. refl)

-- that of the newest schema
abbrev newest_right_table : Table newest_tables.right_table RawRight (Bytes × (Bytes × ℤ))
newest_right_table = ending_right_table (behind_from newest Four) (indexes_behind_from newest Four) refl

-- no later index guards their keys
module _ (v : Version) where
  old_rights_free : IsFree (behind v) (indexes_behind v) old_rights 3
  old_rights_free = free_in v old_rights (columns_to 3) second_layers refl

  ending_rights_free : IsFree (behind_from v Four) (indexes_behind_from v Four) rights_table 3
  ending_rights_free = free_in v rights_table (columns_to 3) (layers_after Four layers) refl

-- the older table, and the one that came for it: what is read of the older one has no end
abbrev pub replaced_rights : Replaced RawRight
replaced_rights = record {
  since = Four;
  older = λ db. db 10;
  newer = 19;
  wide = right_values;
  narrow = old_right_values;
  extra = λ r. int_value r.ends;
  parts = λ r. refl;
  rowids = λ r. refl;
  default = Null;
}

-- no right comes twice in them, where no rowid does
pub rights_apart : (v : Version) (db : Database) → db.schema ≡ schema_of v → IsDatabase db
    → (items : List RawRight) → IsPermutation (rights_in v db.trees) (map right_values items)
    → IsApart (map right_values items) → AreKeysApart number_key items
rights_apart v db ours sound items are up =
    by_table replaced_rights v db.trees items are (λ b. AreKeysApart number_key items)
    (λ has these. keys_apart
    (ending_right_table (behind_from v Four) (indexes_behind_from v Four) (ending_rights_free v)) db
    (ours ∙ schema_from v Four refl has) sound items these up)
    (λ these none. keys_apart (old_right_table (behind v) (indexes_behind v) (old_rights_free v)) db
    (ours ∙ schema_is v) sound items these (narrow_up replaced_rights v db.trees items are up))

-- ---- from what a version says of its tables

-- the older table with no end beside each row
with_no_ends : (held : Bytes × (Bytes × Right) → _) (rows : List Row)
    → ((key : Bytes × (Bytes × Right)) (g : GrantRow) → held key ≡ Some g → number_or_null g.ends ≡ Null)
    → OldRights held rows → Rights held (map with_first_end rows)
with_no_ends held rows none are =
    widened Null right_key no_columns ends_column right_coding older_right
    (λ key g at. λ i. none key g at i ∷ []) are

-- what a version says of its tables is so of the rows that are read
pub rights_claimed : (v : Version) (db : Trees) (h : Lookups) → AreHeld v db h → HasDefaults v h
    → Rights h.rights (rights_in v db)
rights_claimed v db h it defaults =
    said_of_read replaced_rights v db (OldRights h.rights) (Rights h.rights) (AreEndless h)
    (record { older = it.hold.1.1.1.1.1.0 refl; newer = it.hold.1.1.1.1.1.1.1.1.1.0; default = defaults.1.0 })
    (λ none. with_no_ends h.rights (db 10) (λ key g at. ap number_or_null (none key g at)))

-- rows that stand for the rights of a vault show them
pub right_shown : (V : Vault) (tree : List Row) (items : List RawRight)
    → IsPermutation tree (map right_values items) → Rights (lookups_of V).rights tree
    → (r : RawRight) → Has items r → ShowsRight r V
right_shown V tree items are claimed r h =
    let it = pair_of newest_right_table _ are claimed r h in
    let ends : int_value r.ends ≡ number_or_null it.0.ends = grind (arith, it.1) in
    (right_of r.what, it.0, grind (arith, it.1), it.2, moment_told r.ends it.0.ends ends)

-- ---- from rows that keep the rules

-- NULL is no end
no_end : (ends : Option ℤ) → int_value ends ≡ Null → ends ≡ None
no_end None is = refl
no_end (Some n) is = absurd cc

module _ (rows : Rows) (apart : HasKeysApart rows) (keep : (r : ℕ) → keeps rows r ≡ true) where
  abbrev h : Lookups
  h = lookups_of (vault_of rows)

  shows : Shows rows (vault_of rows)
  shows = rows_show rows apart keep

  -- where no row has an end, no right ends
  are_endless : ((r : RawRight) → Has rows.rights r → int_value r.ends ≡ Null) → AreEndless h
  are_endless with_first_end key g is =
      let row = right_row rows key.0 key.1.0 key.1.1 g is in
      let none = no_end row.0.ends (with_first_end row.0 row.1) in
      sym (ap (λ (x : GrantRow). x.ends) row.3) ∙ ap (option_map natural) none

  -- each row has the columns of a right, and each right has its row
  listed : (r : RawRight) → Has rows.rights r
      → (key : Bytes × (Bytes × Right)) × (g : GrantRow) × (drop 1 (right_values r) ≡ four_right_row key g)
      × (h.rights key ≡ Some g)
  listed r there =
      let it = shows.rights r there in
      let what = it.2 in
      let ends : int_value r.ends ≡ number_or_null it.1.ends = ap int_value it.4 ∙ moment_as it.1.ends in (
        (string_bytes r.caller, (string_bytes r.merchant, it.0)),
        it.1,
        λ i. Text (string_bytes r.caller) ∷ Text (string_bytes r.merchant) ∷ Int (what i) ∷ ends i ∷ [],
        it.3,
      )

  row_there : (key : Bytes × (Bytes × Right)) (g : GrantRow) → h.rights key ≡ Some g
      → (r : RawRight) × Has rows.rights r × (right_told (number_key r) ≡ key)
  row_there key g is = let it = right_row rows key.0 key.1.0 key.1.1 g is in (it.0, it.1, it.2)

  -- so it is without the end
  old_listed : (r : RawRight) → Has rows.rights r
      → (key : Bytes × (Bytes × Right)) × (x : Unit {0}) × (drop 1 (old_right_values r) ≡ old_right_row key x)
      × (option_map older_right (h.rights key) ≡ Some x)
  old_listed r there =
      let it = listed r there in (it.0, tt, grind (arith, it.2), ap (option_map older_right) it.3)

  module _ (db : Database) (sound : IsDatabase db) (v : Version) (ours : db.schema ≡ schema_of v) where
    -- what is said of the table of schema 1, of that of schema 4, and of each end before schema 4
    pub rights_said : IsPermutation (rights_in v db.trees) (map right_values rows.rights)
        → IsApart (map right_values rows.rights) → AreGone v db.trees layers
        → AreSaid replaced_rights v db.trees (OldRights h.rights) (Rights h.rights) (AreEndless h)
    rights_said are up gone =
        said_where_read replaced_rights v db.trees rows.rights are up _ _ _ gone.1.1.1.1.1.0
        (λ has these up. stand_for
        (ending_right_table (behind_from v Four) (indexes_behind_from v Four) (ending_rights_free v)) db
        (ours ∙ schema_from v Four refl has) sound _ these up listed row_there)
        (λ these up. stand_for (old_right_table (behind v) (indexes_behind v) (old_rights_free v)) db
        (ours ∙ schema_is v) sound _ these up old_listed
        (λ key x is. let g = mapped_is older_right (h.rights key) x is in row_there key g.0 g.1)) are_endless
