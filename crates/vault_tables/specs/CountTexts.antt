-- What the texts of counts mean, in each schema, and how the table is read whole.
use Rattle.std.proofs.Common.{pos, List, [], ◌∷◌, refl}
use Rattle.std.specs.Prelude.{string_bytes}
use Rattle.sqlite.specs.Listing.{understood}
use Rattle.sqlite.specs.Order.{Row}
use Rattle.sqlite.specs.Table.{Table}
use Rattle.sqlite.specs.Term.{Term, lit, col, op2}
use Rattle.sqlite.specs.declared.types.Value.TheVariants.{Null, Int, Text}
use Rattle.sqlite_schema.specs.declared.schema.Index.{Index}
use Rattle.sqlite_sql.specs.declared.ops.ArithOp.TheVariants.{Add}
use Rattle.sqlite_sql.specs.declared.ops.BinaryOp.TheVariants.{Arith}
use Rattle.sqlite_tied.specs.Compute.{everything}
use Rattle.sql_tables.proofs.Scans.{present_scan}
use Rattle.sql_tables.specs.Scans.{Scan}
use Rattle.sql_tables.specs.Schema.{grown}
use Rattle.sql_tables.specs.Texts.{IsQuery, IsWrite, query_of, by_key, by_both, insert, update}
use Rattle.vault_rules.specs.declared.rows.RawCount.{RawCount}
use Rattle.vault_schema.proofs.Meanings.{whole_of}
use Rattle.vault_schema.specs.Counts.{counts}
use Rattle.vault_schema.specs.Schemas.{v1}
use Rattle.vault_tables.specs.declared.counts.TheConstants.{READ_COUNTS, FIND_COUNTS, FIND_COUNT_ID}
use Rattle.vault_tables.specs.declared.counts.TheConstants.{RAISE_COUNT, SET_COUNT, ADD_COUNT}

-- of `counts`
abbrev pub count_values : RawCount → Row
count_values c = Int c.rowid ∷ Text (string_bytes c.merchant) ∷ Int c.kind ∷ Int c.total ∷ []

-- ---- the texts

-- the columns of a count after an update
abbrev pub count_set : List Term
count_set = col 1 1 ∷ col 1 2 ∷ op2 (Arith Add) (col 1 3) (lit (Int (pos 1))) ∷ []

module _ (ts : List Table) (is : List Index) where
  pub counts_is : IsQuery (grown v1 ts is) FIND_COUNTS.now (query_of 3 (by_key 1) (col 1 2 ∷ col 1 3 ∷ []))
  unfolding understood everything
  counts_is = record { names = _; is = refl; plain = (refl, refl); unlisted = refl }

  pub count_id_is : IsQuery (grown v1 ts is) FIND_COUNT_ID.now (query_of 3 (by_key 2) (col 1 0 ∷ []))
  unfolding understood everything
  count_id_is = record { names = _; is = refl; plain = (refl, refl); unlisted = refl }

  pub read_counts_is : IsQuery (grown v1 ts is) READ_COUNTS.now (whole_of 3 3)
  unfolding understood everything
  read_counts_is = record { names = _; is = refl; plain = (refl, refl); unlisted = refl }

  pub raise_is : IsWrite (grown v1 ts is) RAISE_COUNT.now (update 2 3 (by_key 2) count_set)
  unfolding understood everything
  raise_is = record { is = refl; plain = (refl, refl) }

  pub set_count_is : IsWrite (grown v1 ts is) SET_COUNT.now
      (update 2 3 (by_both 3 2) (col 1 1 ∷ col 1 2 ∷ col 0 2 ∷ []))
  unfolding understood everything
  set_count_is = record { is = refl; plain = (refl, refl) }

  pub add_count_is : IsWrite (grown v1 ts is) ADD_COUNT.now
      (insert 2 4 (lit Null ∷ col 0 0 ∷ col 0 1 ∷ lit (Int (pos 1)) ∷ []))
  unfolding understood everything
  add_count_is = record { is = refl; plain = (refl, refl) }

abbrev pub count_scan : Scan RawCount
count_scan =
    present_scan count_values (λ c. c.rowid) (λ c. refl) v1 READ_COUNTS.now counts 2 refl refl 2
    refl refl read_counts_is
