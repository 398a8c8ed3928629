-- A table, and its rows as they were read.
use Rattle.std.proofs.Common.{◌≡◌, ◌++◌, ℕ, List, ◌∷◌, map, length, drop, suc, take, true, Option, Some}
use Rattle.std.proofs.Common.{Ordering, Equal, sym, ap, ◌∙◌, subst}
use Rattle.std.proofs.Math.Seq.{take-append_seam}
use Rattle.std.proofs.lemmas.Cmp.{tied_itself}
use Rattle.std.proofs.lemmas.List.Sorted.{IsPermutation-sym}
use Rattle.std.specs.List.Sorted.{IsPermutation}
use Rattle.sqlite.specs.Edit.{id_in}
use Rattle.sqlite.specs.Effect.{Database, IsDatabase}
use Rattle.sqlite.specs.Order.{Row, value_cmp}
use Rattle.sqlite.specs.Schema.{Schema}
use Rattle.sqlite.specs.Tree.{rowid}
use Rattle.sqlite.specs.View.{is_int}
use Rattle.sqlite.specs.declared.types.Value.TheVariants.{Int}
use Rattle.sqlite_rules.specs.Lists.{Has}
use Rattle.sqlite_rules.proofs.ProbeLemmas.{mapped_has}
use Rattle.sqlite_value.proofs.OrderLemmas.{value_cmp_total}
use Rattle.sql_tables.proofs.ByKey.{same_row}
use Rattle.sql_tables.specs.Maps.{Keyed}
use Rattle.sql_tables.proofs.Keys.{same_behind, same_first}
use Rattle.sql_tables.proofs.Unique.{one_at_key}
use Rattle.sql_tables.specs.Codes.{row_of, same_values}
use Rattle.sql_tables.specs.Rows.{AreRowsOf, IsApart}
use Rattle.sql_tables.specs.Schema.{below, columns_to}
use Rattle.vault_core.proofs.Finds.{some_same}
use Rattle.vault_verdict.proofs.InTree.{in_items, in_tree, keys_by_rowid}
use Rattle.vault_verdict.proofs.Permuted.{apart_permuted}
use Rattle.vault_rules.specs.VaultOf.{AreKeysApart}

-- how what was read of a row lists its columns, those of its key in front, and which key these may be
pub record Table {s : Schema} {K X : Type 0} {cmp : K → K → Ordering} {key : K → Row} {value : X → Row}
    (keyed : Keyed s cmp key value) (R Q : Type 0) : Type 0 where
  pub values : R → Row
  pub shown : R → Q
  pub shows : Q → Row
  pub key_of : Q → K
  pub whole : (m : R) → values m ≡ Int (id_in (rowid (values m))) ∷ shows (shown m)
      ++ drop (suc (suc keyed.more)) (values m)
  pub fits : (q : Q) → (length (shows q) ≡ suc keyed.more) × (same_values (shows q) (shows q) ≡ true)
  pub back : (q : Q) (k : K) → shows q ≡ key k → key_of q ≡ k

-- how the n columns of a key are listed, and which key they may be
pub record Listing {K : Type 0} (key : K → Row) (n : ℕ) (Q : Type 0) : Type 0 where
  pub shows : Q → Row
  pub key_of : Q → K
  pub fits : (q : Q) → (length (shows q) ≡ n) × (same_values (shows q) (shows q) ≡ true)
  pub back : (q : Q) (k : K) → shows q ≡ key k → key_of q ≡ k

-- so the key of a table is listed, in front of the other columns
abbrev pub listed_by : {s : Schema} {K X R Q : Type 0} {cmp : K → K → Ordering} {key : K → Row}
    {value : X → Row} {keyed : Keyed s cmp key value} (l : Listing key (suc keyed.more) Q) (values : R → Row)
    (shown : R → Q)
    → ((m : R) → values m ≡ Int (id_in (rowid (values m))) ∷ l.shows (shown m)
    ++ drop (suc (suc keyed.more)) (values m))
    → Table keyed R Q
listed_by l values shown whole = record {
  values = values;
  shown = shown;
  shows = l.shows;
  key_of = l.key_of;
  whole = whole;
  fits = l.fits;
  back = l.back;
}

module _ {s : Schema} {K X R Q : Type 0} {cmp : K → K → Ordering} {key : K → Row} {value : X → Row}
    {keyed : Keyed s cmp key value} (t : Table keyed R Q) where
  -- the columns of the key are in front
  key_is : (m : R) (k : K) (x : X) → drop 1 (t.values m) ≡ row_of key value k x → t.shows (t.shown m) ≡ key k
  key_is m k x e =
      let long = (t.fits (t.shown m)).0 ∙ sym (keyed.codes.long k) in
      let same = sym (ap (drop 1) (t.whole m)) ∙ e in
      sym (take-append_seam _ _) ∙ (λ i. take (long i) (same i)) ∙ take-append_seam (key k) (value x)

  module _ {tree : List Row} (items : List R) (same : IsPermutation tree (map t.values items))
      {held : K → Option X} (are : AreRowsOf (row_of key value) tree held) where
    -- what was read is a pair, and each pair was read
    pub pair_of : (m : R) → Has items m
        → (x : X) × (drop 1 (t.values m) ≡ row_of key value (t.key_of (t.shown m)) x)
        × (held (t.key_of (t.shown m)) ≡ Some x)
    pair_of m h =
        let it = are.sound (t.values m) (in_tree t.values items same m h) in
        let k = t.back (t.shown m) it.0 (key_is m it.0 it.1 it.2) in
        (it.1, it.2 ∙ ap (λ k. row_of key value k it.1) (sym k), ap held k ∙ it.3)

    pub row_at : (k : K) (x : X) → held k ≡ Some x
        → (it : (m : R) × Has items m × (t.key_of (t.shown m) ≡ k))
        × (drop 1 (t.values it.0) ≡ row_of key value k x)
    row_at k x h =
        let row = are.complete k x h in
        let it = in_items t.values items same row.0 row.1 in
        let is = ap (drop 1) (sym it.2) ∙ row.2 in
        ((it.0, it.1, t.back (t.shown it.0) k (key_is it.0 k x is)), is)

  module _ (db : Database) (ours : db.schema ≡ s) (sound : IsDatabase db) (items : List R)
      (same : IsPermutation (db.trees keyed.table.tree) (map t.values items))
      (up : IsApart (map t.values items)) where
    -- rows of one key have one rowid
    tie : (a b : R) → Has items a → Has items b → t.shows (t.shown a) ≡ t.shows (t.shown b)
        → value_cmp (rowid (t.values a)) (rowid (t.values b)) ≡ Equal
    tie a b h g e =
        let id = λ (m : R). Int (id_in (rowid (t.values m))) in
        let rest = λ (m : R). drop (suc (suc keyed.more)) (t.values m) in
        let row = λ (m : R). t.shows (t.shown m) ++ rest m in
        let equal = same_behind (below (suc keyed.more)) (id a) (id b) (row a) (row b)
        ∙ same_first (suc keyed.more) _ _ (rest a) (rest b) (t.fits (t.shown a)).0 (t.fits (t.shown b)).0
        ∙ ap (same_values (t.shows (t.shown a))) (sym e) ∙ (t.fits (t.shown a)).1 in
        let one = one_at_key s db ours sound keyed.table keyed.place keyed.here
        (columns_to (suc keyed.more)) keyed.guarded _ _ _ _
        (subst (Has (db.trees keyed.table.tree)) (t.whole a) (in_tree t.values items same a h))
        (subst (Has (db.trees keyed.table.tree)) (t.whole b) (in_tree t.values items same b g)) equal in
        let alike = ap rowid (t.whole a) ∙ ap Int one ∙ sym (ap rowid (t.whole b)) in
        ap (λ v. value_cmp v (rowid (t.values b))) alike ∙ tied_itself value_cmp_total _

    pub keys_apart : AreKeysApart t.shown items
    keys_apart = keys_by_rowid t.values t.shown items up (λ a b h g e. tie a b h g (ap t.shows e))

    -- rows each of which is a pair, of all pairs, stand for them
    pub stand_for : {held : K → Option X}
        → ((m : R) → Has items m
        → (k : K) × (x : X) × (drop 1 (t.values m) ≡ row_of key value k x) × (held k ≡ Some x))
        → ((k : K) (x : X) → held k ≡ Some x → (m : R) × Has items m × (t.key_of (t.shown m) ≡ k))
        → AreRowsOf (row_of key value) (db.trees keyed.table.tree) held
    stand_for {held = held} pair there = record {
      apart = apart_permuted _ _ (IsPermutation-sym _ _ same) up;
      keyed = λ r h.
          let it = in_items t.values items same r h in
          ap (λ z. is_int (rowid z)) (it.2 ∙ t.whole it.0);
      once = λ r z k x y h g e f.
          let a = in_items t.values items same r h in
          let b = in_items t.values items same z g in
          let one = key_is a.0 k x (ap (drop 1) (sym a.2) ∙ e) in
          let two = key_is b.0 k y (ap (drop 1) (sym b.2) ∙ f) in
          a.2 ∙ same_row (map t.values items) _ _ up (mapped_has t.values items a.0 a.1)
          (mapped_has t.values items b.0 b.1) (tie a.0 b.0 a.1 b.1 (one ∙ sym two)) ∙ sym b.2;
      sound = λ r h.
          let it = in_items t.values items same r h in
          let is = pair it.0 it.1 in
          (is.0, is.1, ap (drop 1) it.2 ∙ is.2, is.3);
      complete = λ k x h.
          let it = there k x h in
          let is = pair it.0 it.1 in
          let at = sym (t.back (t.shown it.0) is.0 (key_is it.0 is.0 is.1 is.2)) ∙ it.2 in
          let of = some_same (sym is.3 ∙ ap held at ∙ h) in (
            t.values it.0,
            in_tree t.values items same it.0 it.1,
            is.2 ∙ (λ i. row_of key value (at i) (of i)),
          );
    }
