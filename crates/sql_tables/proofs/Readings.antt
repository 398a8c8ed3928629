-- What a reading of a table comes to, from its query.
use Rattle.std.proofs.Common.{◌≡◌, ℤ, ℕ, ◌+◌, ◌<◌, List, [], ◌∷◌, map, length, sym, ap, ap₂, subst, ◌∙◌}
use Rattle.std.proofs.Common.{arith, Result, Ok, Err, IsErrAnd, refl}
use Rattle.std.proofs.lemmas.List.{get_or-map, length-map}
use Rattle.std.proofs.lemmas.List.Sorted.{length_permutation}
use Rattle.std.specs.Global.{Vec}
use Rattle.std.specs.List.Sorted.{IsPermutation, IsSortedByKey}
use Rattle.std.specs.Ordering.{int_cmp, is_lt}
use Rattle.sqlite.proofs.Callers.{reads_as}
use Rattle.sqlite.specs.Effect.{Database, IsDatabase}
use Rattle.sqlite.specs.Held.{Held, state}
use Rattle.sqlite.specs.Order.{Row, value_cmp}
use Rattle.sqlite.specs.Schema.{Schema}
use Rattle.sqlite.specs.State.{State, Shown}
use Rattle.sqlite.specs.Table.{Table}
use Rattle.sqlite.specs.Term.{Term, col}
use Rattle.sqlite.specs.Tree.{Trees, rowid}
use Rattle.sqlite.specs.declared.types.Value.TheVariants.{Null, Int}
use Rattle.sqlite_schema.specs.declared.schema.Index.{Index}
use Rattle.sqlite_value.proofs.OrderLemmas.{value_cmp-Int}
use Rattle.sqlite_trees.specs.declared.store.Store.{Ghosts}
use Rattle.sql_tables.proofs.Ordered.{by_rowid}
use Rattle.sql_tables.proofs.Reading.{reads_all}
use Rattle.sql_tables.specs.Schema.{grown}
use Rattle.sql_tables.specs.Texts.{IsQuery, ordered_by, sorted_of}
use Rattle.sql_tables.specs.Reading.{any_left}
use Rattle.sql_tables.specs.Reading.{AreTable, Look, ReadsRows, ReadsTable, TableLook, TakesRows, TakesTable}
use Rattle.sql_tables.specs.Reading.{TellsAny}
use Rattle.sql_tables.specs.Scans.{Scan, look_of, table_look}
use Rattle.sql_tables.specs.declared.fault.StoreFault.{StoreFault}

-- what a query orders by the rowid is in the order of the raw rows' rowids
shown_by_rowid : {s : Schema} {text : List ℕ} (tree : ℕ) (more : List Term)
    → IsQuery s text (sorted_of tree [] (col 1 0 ∷ more) [] (ordered_by (0 ∷ [])))
    → (old new : State) → old.now.schema ≡ s → (rows : List Row) → Shown text [] old new rows
    → IsSortedByKey rowid value_cmp rows
shown_by_rowid {s} {text} tree more it old new has rows shown =
    by_rowid old.now.trees
    ((reads_as text [] old new s has _ it.is it.plain it.unlisted rows shown).answer Null)

ids_ascend : {R : Type 0} (id : R → ℤ) (values : R → Row) → ((m : R) → rowid (values m) ≡ Int (id m))
    → (raws : List R) → IsSortedByKey rowid value_cmp (map values raws) → IsSortedByKey id int_cmp raws
ids_ascend id values is raws up k d from low =
    let this : k < length raws = omega (arith, low) in
    let later = get_or-map values raws (k + 1) d (values d) low in
    let earlier = get_or-map values raws k d (values d) this in
    ap is_lt (sym (ap₂ value_cmp (ap rowid later ∙ is _) (ap rowid earlier ∙ is _) ∙ value_cmp-Int _ _))
    ∙ up k (values d) from (subst (λ n. k + 1 < n) (sym (length-map raws values)) low)

-- as many are read as there are
many_read : {R : Type 0} {s : Schema} {text : List ℕ} (old new : State) {tree : ℕ} (more : List Term)
    → IsQuery s text (sorted_of tree [] (col 1 0 ∷ more) [] (ordered_by (0 ∷ [])))
    → old.now.schema ≡ s → (values : R → Row) (raws : List R) → Shown text [] old new (map values raws)
    → length raws ≡ length (old.now.trees tree)
many_read {s = s} {text = text} old new {tree} more means has values raws shown =
    let all = reads_all s old new has text (map values raws) tree _ _ means shown in
    sym (length-map raws values) ∙ length_permutation _ (map values raws) all
    ∙ length-map (old.now.trees tree) _

-- lists of one length are empty or not together
any_same : {X Y : Type 0} (xs : List X) (ys : List Y) → length xs ≡ length ys → any_left xs ≡ any_left ys
any_same [] [] same = refl
any_same [] (y ∷ ys) same = absurd (omega (arith, same))
any_same (x ∷ xs) [] same = absurd (omega (arith, same))
any_same (x ∷ xs) (y ∷ ys) same = refl

-- the rows of a table, by what a text means
module _ {S : Type 0} (g : Ghosts S) {R : Type 0} (table : TableLook R) (old new : Held S) {tree : ℕ}
    (more : List Term)
    (means : IsQuery table.look.schema table.look.text
    (sorted_of tree [] (col 1 0 ∷ more) [] (ordered_by (0 ∷ []))))
    (is : (m : R) → rowid (table.look.values m) ≡ Int (table.id m))
    (many : (t : Trees) → length (table.rows t) ≡ length (t tree))
    (whole : (raws : List R) → (state g old).now.schema ≡ table.look.schema → IsDatabase (state g old).now
    → table.full (state g old).now
    → Shown table.look.text [] (state g old) (state g new) (map table.look.values raws)
    → IsPermutation (table.rows (state g old).now.trees) (map table.stands raws)) where
  pub takes_table : {K : Type 0} {Has : K → List R → Type 0} (result : Result K StoreFault)
      → TakesRows g table.look Has result old new → TakesTable g table Has result old new
  takes_table (Ok k) takes = record {
    reads = takes.reads;
    told = λ clean has.
        let it = takes.told clean has in (
          it.0,
          it.1,
          record {
            sound = takes.sound clean has;
            many = many_read (state g old) (state g new) more means has table.look.values it.0 it.2
                ∙ sym (many (state g old).now.trees);
            all = λ full. whole it.0 has (takes.sound clean has) full it.2;
            ordered = ids_ascend table.id table.look.values is it.0
                (shown_by_rowid _ more means (state g old) (state g new) has _ it.2);
          },
        );
    refused = takes.refused;
  }
  takes_table (Err fault) takes = record {
    reads = takes.reads;
    told = λ clean has. tt;
    refused = takes.refused;
  }

  pub reads_table : (result : Result (Vec R) StoreFault) → ReadsRows g table.look result old new
      → ReadsTable g table result old new
  reads_table (Ok raws) read =
      let it = takes_table {Has = λ (v : Vec R) l. v.items ≡ l} (Ok raws) (record {
        reads = read.reads;
        told = λ clean has. (raws.items, refl, read.told clean has);
        sound = read.sound;
        refused = read.refused;
      }) in
      record {
        reads = read.reads;
        told = λ clean has.
            let all = it.told clean has in
            subst (AreTable table.full table.rows table.stands table.id (state g old).now) (sym all.1) all.2;
        refused = read.refused;
      }
  reads_table (Err fault) read = record {
    reads = read.reads;
    told = λ clean has. tt;
    refused = read.refused;
  }

-- whether there are any, by what a text means
module _ {S : Type 0} (g : Ghosts S) {R : Type 0} {look : Look R} (old new : Held S) where
  module _ {tree : ℕ} (more : List Term)
      (means : IsQuery look.schema look.text (sorted_of tree [] (col 1 0 ∷ more) [] (ordered_by (0 ∷ []))))
    where
      -- where it is told whether any were read
      pub tells_any : (raws : Vec R) → ReadsRows g look (Ok raws) old new → (n : ℕ)
          → n ≡ any_left raws.items → TellsAny g look (λ t. t tree) (Ok n) old new
      tells_any raws read n is = record {
        reads = record {
          clean = read.reads.clean;
          mode = read.reads.mode;
          limit = read.reads.limit;
          left = read.reads.left;
          kept = read.reads.kept;
        };
        told = λ clean has.
            is ∙ any_same raws.items ((state g old).now.trees tree)
            (many_read (state g old) (state g new) more means has look.values raws.items
            (read.told clean has));
        refused = λ clean has. tt;
      }

  -- and where none were
  pub tells_none : {tree : ℕ} (fault : StoreFault) → ReadsRows g look (Err fault) old new
      → (result : Result ℕ StoreFault) → IsErrAnd result (λ e. e ≡ fault)
      → TellsAny g look (λ t. t tree) result old new
  tells_none fault read (Ok n) same = absurd same
  tells_none fault read (Err e) same = record {
    reads = record {
      clean = read.reads.clean;
      mode = read.reads.mode;
      limit = read.reads.limit;
      left = read.reads.left;
      kept = λ clean has. tt;
    };
    told = λ clean has. tt;
    refused = λ clean has store. read.refused clean has (sym same ∙ store);
  }

-- the rows of a table, as its scan reads them
module _ {S R : Type 0} (g : Ghosts S) (scan : Scan R) (ts : List Table) (is : List Index)
    (old new : Held S) where
  abbrev s : Schema
  s = grown scan.base ts is

  whole : (raws : List R) → (state g old).now.schema ≡ s → IsDatabase (state g old).now
      → scan.full (state g old).now → Shown scan.text [] (state g old) (state g new) (map scan.values raws)
      → IsPermutation (scan.rows (state g old).now.trees) (map scan.stands raws)
  whole raws has sound full shown = scan.all ts is (state g old) (state g new) has sound full raws shown

  pub takes_scan : {K : Type 0} {Has : K → List R → Type 0} (result : Result K StoreFault)
      → TakesRows g (look_of scan s) Has result old new
      → TakesTable g (table_look scan s) Has result old new
  takes_scan result takes =
      takes_table g (table_look scan s) old new scan.more (scan.means ts is) scan.id_is scan.many whole result
      takes

  pub reads_scan : (result : Result (Vec R) StoreFault) → ReadsRows g (look_of scan s) result old new
      → ReadsTable g (table_look scan s) result old new
  reads_scan result reads =
      reads_table g (table_look scan s) old new scan.more (scan.means ts is) scan.id_is scan.many whole result
      reads
