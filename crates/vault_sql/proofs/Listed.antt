-- What a query of all columns shows of a table: a row for each pair.
use Rattle.std.proofs.Common.{◌≡◌, ◌<◌, ℕ, ℤ, List, [], ◌∷◌, Option, Some, None, length, Ordering}
use Rattle.std.proofs.Common.{ap, subst, arith, IsPermutation}
use Rattle.std.proofs.lemmas.List.Sorted.{IsPermutation-sym}
use Rattle.sqlite.specs.Edit.{id_in}
use Rattle.sqlite.specs.Order.{Row}
use Rattle.sqlite.specs.Schema.{Schema}
use Rattle.sqlite.specs.State.{State, Shown}
use Rattle.sqlite.specs.Term.{Term}
use Rattle.sqlite.specs.Tree.{rowid}
use Rattle.sqlite.specs.declared.types.Value.TheVariants.{Int}
use Rattle.sqlite_rules.specs.Lists.{Has}
use Rattle.sqlite_value.specs.declared.keys.Key.{Key}
use Rattle.sql_tables.specs.Codes.{row_of}
use Rattle.sql_tables.specs.Rows.{AreRowsOf}
use Rattle.sql_tables.specs.Schema.{table_of}
use Rattle.sql_tables.specs.States.{Claim, Stands}
use Rattle.sql_tables.specs.Texts.{IsQuery, sorted_of}
use Rattle.sql_tables.proofs.Answers.{has_permuted}
use Rattle.sql_tables.proofs.ByKey.{row_at, whole}
use Rattle.sql_tables.proofs.Full.{all_columns}
use Rattle.sql_tables.specs.Maps.{Keyed}
use Rattle.sql_tables.proofs.Keys.{coding}
use Rattle.sql_tables.specs.Maps.{claim_at}
use Rattle.sql_tables.proofs.Plain.{claimed}
use Rattle.sql_tables.proofs.Reading.{reads_long}
use Rattle.vault_sql.specs.ListedRows.{ShowsAll}

one_longer : (r row : Row) (n : ℤ) → r ≡ Int n ∷ row → length row < length r
one_longer r row n is = let long = ap length is in omega (arith, long)

module _ {s : Schema} {claims : List Claim} (old new : State) (it : Stands s claims old.now) (text : List ℕ)
    (rows : List Row) (shown : Shown text [] old new rows) {K X : Type 0}
    {cmp : K → K → Ordering} {key : K → Row} {value : X → Row} (t : Keyed s cmp key value)
    (held : K → Option X)
    (said : claim_at claims t.place (old.now.trees t.table.tree)
    → AreRowsOf (row_of key value) (old.now.trees t.table.tree) held) (order : List (Term × Key))
    (means : IsQuery s text (sorted_of t.table.tree [] (all_columns (length t.table.columns)) [] order))
    (ordinary : t.table.rowid ≡ None)
    (wide : (k : K) (x : X) → length (row_of key value k x) ≡ length t.table.columns) where
  abbrev stored : List Row
  stored = old.now.trees t.table.tree

  are_rows : AreRowsOf (row_of key value) stored held
  are_rows = said (claimed s.tables claims t.place (table_of t.table) old.now.trees t.here it.rows)

  -- each stored row is its rowid, and then its pair
  pair_of : (r : Row) → Has stored r
      → (k : K) × (x : X) × (r ≡ Int (id_in (rowid r)) ∷ row_of key value k x) × (held k ≡ Some x)
  pair_of r h =
      let is = are_rows.sound r h in
      (is.0, is.1, whole r (row_of key value is.0 is.1) (are_rows.keyed r h) is.2, is.3)

  long : (r : Row) → Has stored r → length t.table.columns < length r
  long r h =
      let is = pair_of r h in
      subst (λ n. n < length r) (wide is.0 is.1) (one_longer r (row_of key value is.0 is.1) _ is.2)

  same : IsPermutation stored rows
  same =
      reads_long s old new it.schema it.sound text rows t.table t.place t.here order means shown ordinary long

  pub shows_all : ShowsAll (row_of key value) rows held
  shows_all = record {
    sound = λ r h.
        let is = pair_of r (has_permuted rows stored r (IsPermutation-sym stored rows same) h) in
        (id_in (rowid r), is.0, is.1, is.2, is.3);
    complete = λ k x is.
        let at = row_at (coding t.codes) are_rows k x is in
        (at.0, has_permuted stored rows (Int at.0 ∷ row_of key value k x) same at.1);
  }
