-- What each statement that writes makes of the lookups, inside a transaction.
use Rattle.std.proofs.Common.{◌≡◌, ◌⊎◌, ℕ, ℤ, pos, [], ◌∷◌, Option, Some, None, refl, sym, ap, subst, ◌∙◌}
use Rattle.std.proofs.Common.{◌+◌, ◌++◌, ◌<◌, ◌^◌, unwrap_or}
use Rattle.sqlite.specs.Effect.{Database}
use Rattle.sqlite.specs.Ops.{binary}
use Rattle.sqlite.specs.State.{State}
use Rattle.sqlite.specs.declared.types.Value.TheVariants.{Int, Text}
use Rattle.sqlite_sql.specs.declared.ops.ArithOp.TheVariants.{Add}
use Rattle.sqlite_sql.specs.declared.ops.BinaryOp.TheVariants.{Arith}
use Rattle.sql_tables.proofs.Statements.{Ran, change_at, change_in, insert_in, plus_one}
use Rattle.sql_tables.specs.Rows.{put}
use Rattle.vault_core.specs.Keys.{Bytes, record_cmp}
use Rattle.vault_core.specs.declared.row.Record.{Record}
use Rattle.vault_schema.proofs.Newest.{behind_first, indexes_behind_first, count_table, record_table}
use Rattle.vault_schema.specs.Counts.{count_row}
use Rattle.vault_schema.specs.Records.{record_columns}
use Rattle.vault_schema.specs.Schema.{newest_schema}
use Rattle.vault_schema.specs.Stands.{newest_claims, newest}
use Rattle.vault_schema.specs.Values.{numbered_key}
use Rattle.vault_schema.specs.Versions.{Tables}
use Rattle.vault_tables.specs.Calls.{HasTables}
use Rattle.vault_tables.specs.CountTexts.{raise_is, set_count_is, add_count_is}
use Rattle.vault_tables.specs.Raising.{raise_at, HasRoomAt}
use Rattle.vault_tables.specs.RecordTexts.{add_record_is}
use Rattle.vault_tables.specs.declared.counts.TheConstants.{RAISE_COUNT, SET_COUNT, ADD_COUNT}
use Rattle.vault_tables.specs.declared.records.TheConstants.{ADD_RECORD}

module _ {t : Tables} {base : Database} {old new : State} where
  pub count_raised : (at : Bytes × ℕ) → HasRoomAt t.counts at
      → (run : Ran newest_schema (newest_claims t) base old new RAISE_COUNT.now
      (Text at.0 ∷ Int (pos at.1) ∷ []))
      → ((t.counts at ≡ None) × (run.count ≡ 0) × HasTables newest new base t)
      ⊎ ((y : ℕ) × (t.counts at ≡ Some y) × (run.count ≡ 1)
      × HasTables newest new base (record t { counts = raise_at t.counts at }))
  count_raised at room run =
      change_in refl run count_table t.counts (λ are. are) at (unwrap_or (t.counts at) 0 + 1) _
      (raise_is behind_first indexes_behind_first) refl raised
    where
      raised : (n : ℤ) (y : ℕ) → t.counts at ≡ Some y
          → Int n ∷ Int n ∷ Text at.0 ∷ Int (pos at.1) ∷ binary (Arith Add) (Int (pos y)) (Int (pos 1)) ∷ []
          ≡ Int n ∷ Int n ∷ count_row at (unwrap_or (t.counts at) 0 + 1)
      raised n y is =
          ap (λ v. Int n ∷ Int n ∷ Text at.0 ∷ Int (pos at.1) ∷ v ∷ [])
          (plus_one y (subst (λ (o : Option ℕ). unwrap_or o 0 + 1 < 2 ^ 63) is room))
          ∙ ap (λ (o : Option ℕ). Int n ∷ Int n ∷ count_row at (unwrap_or o 0 + 1)) (sym is)

  pub count_set : (at : Bytes × ℕ) (total : ℕ) (rowid : ℤ)
      → (run : Ran newest_schema (newest_claims t) base old new SET_COUNT.now
      (Text at.0 ∷ Int (pos at.1) ∷ Int (pos total) ∷ Int rowid ∷ []))
      → ((run.count ≡ 0) × HasTables newest new base t)
      ⊎ ((run.count ≡ 1)
      × HasTables newest new base (record t { counts = put record_cmp t.counts at (Some total) }))
  count_set at total rowid run =
      change_at refl run count_table t.counts (λ are. are) at total _ 3 rowid _
      (set_count_is behind_first indexes_behind_first) refl refl (λ n y is. refl)

  pub count_added : (at : Bytes × ℕ) → t.counts at ≡ None
      → Ran newest_schema (newest_claims t) base old new ADD_COUNT.now (Text at.0 ∷ Int (pos at.1) ∷ [])
      → HasTables newest new base (record t { counts = raise_at t.counts at })
  count_added at none run =
      subst (λ (o : Option ℕ). HasTables newest new base
      (record t { counts = put record_cmp t.counts at (Some (unwrap_or o 0 + 1)) }))
      (sym none)
      (insert_in refl run count_table t.counts (λ are. are) at 1 4 _
      (add_count_is behind_first indexes_behind_first) refl).1

  pub record_added : (at : Bytes × ℕ) (x : Record)
      → Ran newest_schema (newest_claims t) base old new ADD_RECORD.now (numbered_key at ++ record_columns x)
      → HasTables newest new base (record t { records = put record_cmp t.records at (Some x) })
  record_added at x run =
      (insert_in refl run record_table t.records (λ are. are) at x 6 _
      (add_record_is behind_first indexes_behind_first)
      refl).1
