-- What the texts of entries mean, in each schema, and how each version of the table is read whole.
use Rattle.std.proofs.Common.{pos, List, [], ◌∷◌, refl, ℕ}
use Rattle.std.specs.Prelude.{string_bytes}
use Rattle.sqlite.specs.Collation.TheVariants.{Binary}
use Rattle.sqlite.specs.Listing.{understood}
use Rattle.sqlite.specs.Order.{Row}
use Rattle.sqlite.specs.Table.{Table}
use Rattle.sqlite.specs.Source.TheVariants.{Values}
use Rattle.sqlite.specs.Term.{Term, lit, col, op2, op1}
use Rattle.sqlite.specs.declared.types.Value.TheVariants.{Null, Int, Text}
use Rattle.sqlite_schema.specs.declared.schema.Index.{Index}
use Rattle.sqlite_sql.specs.declared.ops.BinaryOp.TheVariants.{Compare, Is, Or}
use Rattle.sqlite_sql.specs.declared.ops.CompareOp.TheVariants.{Ge, Gt, Le}
use Rattle.sqlite_sql.specs.declared.ops.UnaryOp.TheVariants.{Not}
use Rattle.sqlite_tied.specs.Compute.{everything}
use Rattle.sql_tables.proofs.Scans.{long_scan}
use Rattle.sql_tables.specs.Scans.{Scan, IdScan}
use Rattle.sql_tables.specs.Schema.{grown}
use Rattle.sql_tables.specs.Texts.{IsQuery, IsWrite, query_of, by_key, insert, eq, met_update, upsert}
use Rattle.sql_tables.specs.Texts.{first_of}
use Rattle.sql_tables.specs.Texts.{sorted_of, ordered_by}
use Rattle.sql_tables.specs.Values.{int_value, maybe_text_value, row_text_value}
use Rattle.vault_rules.specs.declared.rows.RawEntry.{RawEntry}
use Rattle.vault_schema.proofs.Meanings.{whole_of}
use Rattle.vault_schema.specs.Entries.{entries, old_entries}
use Rattle.vault_schema.specs.Schemas.{v2, v1}
use Rattle.vault_tables.specs.declared.entries.TheConstants.{FIND_ENTRY, FIND_CURRENT, FIND_DEAD, ADD_ENTRY}
use Rattle.vault_tables.specs.declared.entries.TheConstants.{PUT_ENTRY, READ_ENTRIES}
use Rattle.vault_tables.specs.declared.entries.old.OldEntry.{OldEntry}
use Rattle.vault_tables.specs.declared.entries.old.TheConstants.{READ_OLD_ENTRIES, READ_OLD_ENTRY_IDS}

-- of `entries2`
abbrev pub entry_values : RawEntry → Row
entry_values e =
    Int e.rowid ∷ Text (string_bytes e.merchant) ∷ Text (string_bytes e.token) ∷ int_value e.card
    ∷ Int e.usage ∷ Int e.birth ∷ Int e.expires ∷ int_value e.revoked ∷ []

-- of `entries`, the table of schema 1
abbrev pub old_entry_values : OldEntry → Row
old_entry_values e =
    Int e.rowid ∷ row_text_value e.merchant ∷ row_text_value e.token ∷ maybe_text_value e.number
    ∷ Int e.usage ∷ Int e.birth ∷ Int e.expires ∷ int_value e.revoked ∷ []

-- ---- the texts

-- the tests of a live multi-use token
abbrev pub current_tests : List Term
current_tests =
    eq (col 1 1) (col 0 0) ∷ eq (col 1 3) (col 0 1) ∷ eq (col 1 4) (lit (Int (pos 2)))
    ∷ op2 (Is Binary) (col 1 7) (lit Null) ∷ op2 (Compare Gt Binary) (col 1 6) (col 0 2) ∷ []

-- a column that isn't NULL
abbrev not_null : ℕ → Term
not_null place = op1 Not (op2 (Is Binary) (col 1 place) (lit Null))

-- the tests of a token that is dead, and not before a text
abbrev pub dead_tests : List Term
dead_tests =
    eq (col 1 1) (col 0 0) ∷ op2 (Compare Ge Binary) (col 1 2) (col 0 1) ∷ not_null 3
    ∷ op2 Or (not_null 7) (op2 (Compare Le Binary) (col 1 6) (col 0 2)) ∷ []

-- the row of an entry that comes
abbrev pub entry_terms : List Term
entry_terms = lit Null ∷ col 0 0 ∷ col 0 1 ∷ col 0 2 ∷ col 0 3 ∷ col 0 4 ∷ col 0 5 ∷ col 0 6 ∷ []

-- the columns of an entry after an update
abbrev pub entry_set : List Term
entry_set = col 1 1 ∷ col 1 2 ∷ col 0 2 ∷ col 0 3 ∷ col 0 4 ∷ col 0 5 ∷ col 0 6 ∷ []

module _ (ts : List Table) (is : List Index) where
  pub entry_is : IsQuery (grown v2 ts is) FIND_ENTRY.now
      (query_of 14 (by_key 2) (col 1 3 ∷ col 1 4 ∷ col 1 5 ∷ col 1 6 ∷ col 1 7 ∷ []))
  unfolding understood everything
  entry_is = record { names = _; is = refl; plain = (refl, refl); unlisted = refl }

  pub current_is : IsQuery (grown v2 ts is) FIND_CURRENT.now (query_of 14 current_tests (col 1 2 ∷ []))
  unfolding understood everything
  current_is = record { names = _; is = refl; plain = (refl, refl); unlisted = refl }

  pub dead_is : IsQuery (grown v2 ts is) FIND_DEAD.now (first_of 14 dead_tests 2 3)
  unfolding understood everything
  dead_is = record { names = _; is = refl; plain = (refl, refl); unlisted = refl }

  pub read_entries_is : IsQuery (grown v2 ts is) READ_ENTRIES.now (whole_of 14 7)
  unfolding understood everything
  read_entries_is = record { names = _; is = refl; plain = (refl, refl); unlisted = refl }

  pub add_entry_is : IsWrite (grown v2 ts is) ADD_ENTRY.now (insert 7 8 entry_terms)
  unfolding understood everything
  add_entry_is = record { is = refl; plain = (refl, refl) }

  pub put_entry_is : IsWrite (grown v2 ts is) PUT_ENTRY.now
      (upsert 7 2 (Values entry_terms 8) (met_update 14 7 entry_set))
  unfolding understood everything
  put_entry_is = record { is = refl; plain = (refl, refl) }

abbrev pub entry_scan : Scan RawEntry
entry_scan =
    long_scan entry_values (λ e. e.rowid) (λ e. refl) v2 READ_ENTRIES.now entries 7 refl refl
    read_entries_is

-- ---- those of schema 1

module _ (ts : List Table) (is : List Index) where
  pub read_old_entries_is : IsQuery (grown v1 ts is) READ_OLD_ENTRIES.now (whole_of 5 7)
  unfolding understood everything
  read_old_entries_is = record { names = _; is = refl; plain = (refl, refl); unlisted = refl }

  pub read_old_entry_ids_is : IsQuery (grown v1 ts is) READ_OLD_ENTRY_IDS.now
      (sorted_of 5 [] (col 1 0 ∷ []) [] (ordered_by (0 ∷ [])))
  unfolding understood everything
  read_old_entry_ids_is = record { names = _; is = refl; plain = (refl, refl); unlisted = refl }

abbrev pub old_entry_scan : Scan OldEntry
old_entry_scan =
    long_scan old_entry_values (λ e. e.rowid) (λ e. refl) v1 READ_OLD_ENTRIES.now old_entries 3 refl refl
    read_old_entries_is

abbrev pub entry_id_scan : IdScan
entry_id_scan =
    record { base = v1; tree = 5; text = READ_OLD_ENTRY_IDS.now; means = read_old_entry_ids_is }
