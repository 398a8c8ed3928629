-- How a table is read whole, from its descriptor: its rows as they stand, or beside what an older version
-- can't hold.
use Rattle.std.proofs.Common.{◌≡◌, ◌++◌, ℕ, ℤ, suc, List, [], length, map, drop, None, Some}
use Rattle.std.proofs.Common.{slice_get, subst, refl, true, arith}
use Rattle.std.proofs.lemmas.List.{length-map}
use Rattle.std.specs.List.{list_all}
use Rattle.std.specs.List.Sorted.{IsPermutation}
use Rattle.sqlite.specs.Order.{Row}
use Rattle.sqlite.specs.Schema.{Schema}
use Rattle.sqlite.specs.Term.{Term, col}
use Rattle.sqlite.specs.Tree.{rowid}
use Rattle.sqlite.specs.declared.types.Value.{Value}
use Rattle.sqlite.specs.declared.types.Value.TheVariants.{Int}
use Rattle.sql_tables.proofs.ConstantColumns.{constants, filled, shown_filled}
use Rattle.sql_tables.proofs.ById.{ById}
use Rattle.sql_tables.proofs.Full.{shown_full}
use Rattle.sql_tables.proofs.Grown.{still_here}
use Rattle.sql_tables.proofs.Limited.{mapped_twice}
use Rattle.sql_tables.proofs.Reading.{reads_all, reads_long, reads_whole}
use Rattle.sql_tables.proofs.SoundById.{reads_ids, with_null}
use Rattle.sql_tables.specs.Schema.{Descriptor, columns_to, grown, table_of}
use Rattle.sql_tables.specs.Reading.{AreLonger, IsAny}
use Rattle.sql_tables.specs.Scans.{Scan, ScansTree}

-- all columns, behind the rowid
abbrev pub columns_of : Descriptor → List Term
columns_of d = map (λ i. col 1 i) (columns_to (length d.columns))

-- all but the first
abbrev pub others_of : Descriptor → List Term
others_of d = map (λ i. col 1 i) (map (λ i. suc i) (columns_to (length (drop 1 d.columns))))

module _ {R : Type 0} (values : R → Row) (id : R → ℤ)
    (id_is : (raw : R) → rowid (values raw) ≡ Int (id raw)) (base : Schema) (text : List ℕ) where
  -- tables whose key is not the rowid
  module _ (d : Descriptor) (place : ℕ) (here : slice_get base.tables place ≡ Some (table_of d))
      (ordinary : d.rowid ≡ None) where
    -- where each row has all columns
    abbrev pub long_scan : ScansTree base text d.tree (columns_of d) → Scan R
    long_scan means = record {
      values = values;
      base = base;
      tree = d.tree;
      text = text;
      more = columns_of d;
      rows = λ db. db d.tree;
      full = λ db. AreLonger (length d.columns) (db.trees d.tree);
      stands = values;
      id = id;
      means = means;
      id_is = id_is;
      many = λ db. refl;
      all = λ ts is old new has sound full raws shown.
          reads_long (grown base ts is) old new has sound text (map values raws) d place
          (still_here base.tables ts place _ here) _ (means ts is) shown ordinary full;
    }

    -- where no column may be NULL
    abbrev pub present_scan : (n : ℕ) → length d.columns ≡ suc n
        → list_all (λ c. c.not_null) d.columns ≡ true → ScansTree base text d.tree (columns_of d) → Scan R
    present_scan n many always means = record (long_scan means) {
      full = IsAny;
      all = λ ts is old new has sound full raws shown.
          reads_whole (grown base ts is) old new has sound text (map values raws) d place
          (still_here base.tables ts place _ here) _ (means ts is) shown ordinary
          (omega (arith, many)) always;
    }

    -- with what an older version can't hold, which the text adds as constants
    abbrev pub filled_scan : (vs : List Value) (n : ℕ) → length d.columns ≡ suc n
        → list_all (λ c. c.not_null) d.columns ≡ true
        → ScansTree base text d.tree (columns_of d ++ constants vs) → Scan R
    filled_scan vs n many always means = record {
      values = values;
      base = base;
      tree = d.tree;
      text = text;
      more = columns_of d ++ constants vs;
      rows = λ db. map (filled vs) (db d.tree);
      full = IsAny;
      stands = values;
      id = id;
      means = means;
      id_is = id_is;
      many = λ db. length-map (db d.tree) _;
      all = λ ts is old new has sound full raws shown.
          subst (λ l. IsPermutation l (map values raws))
          (shown_filled [] (length d.columns) vs (old.now.trees d.tree)
          (shown_full (grown base ts is) old.now has sound d ordinary place
          (still_here base.tables ts place _ here) [] (omega (arith, many)) always))
          (reads_all (grown base ts is) old new has text (map values raws) d.tree _ _ (means ts is) shown);
    }

  -- tables whose key is the rowid, which keep NULL in its column
  module _ {X : Type 0} {value : X → Row} (t : ById base value) where
    abbrev pub id_scan : (n : ℕ) → t.table.rowid ≡ Some 0 → length (drop 1 t.table.columns) ≡ suc n
        → list_all (λ c. c.not_null) (drop 1 t.table.columns) ≡ true
        → ScansTree base text t.table.tree (others_of t.table) → Scan R
    id_scan n first many always means = record {
      values = values;
      base = base;
      tree = t.table.tree;
      text = text;
      more = others_of t.table;
      rows = λ db. db t.table.tree;
      full = IsAny;
      stands = λ raw. with_null (values raw);
      id = id;
      means = means;
      id_is = id_is;
      many = λ db. refl;
      all = λ ts is old new has sound full raws shown.
          subst (IsPermutation (old.now.trees t.table.tree)) (mapped_twice with_null values raws)
          (reads_ids (record {
            table = t.table;
            place = t.place;
            here = still_here base.tables ts t.place _ t.here;
            fits = t.fits;
          }) old new has sound text (map values raws) _ (means ts is) shown first
          (omega (arith, many)) always);
    }
