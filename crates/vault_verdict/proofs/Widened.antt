-- Rows beside a constant stand for what has it, where without it they stand for what is left of it.
use Rattle.std.proofs.Common.{◌≡◌, ◌++◌, List, [], ◌∷◌, drop, map, true, Option, Some, Ordering}
use Rattle.std.proofs.Common.{append_assoc, ap, ap₂, inl, inr, option_map, refl, sym, ◌∙◌, true≢false}
use Rattle.sqlite.specs.Order.{Row, value_cmp}
use Rattle.sqlite.specs.Tree.{rowid}
use Rattle.sqlite.specs.View.{is_int}
use Rattle.sqlite.specs.declared.types.Value.{Value}
use Rattle.sqlite_rules.proofs.ListLemmas.{all_from, all_has}
use Rattle.sqlite_rules.proofs.ProbeLemmas.{has_mapped, mapped_has}
use Rattle.sqlite_rules.specs.Lists.{Has}
use Rattle.sql_tables.proofs.ConstantColumns.{beside}
use Rattle.sql_tables.proofs.ByKey.{Coding}
use Rattle.sql_tables.specs.Codes.{row_of}
use Rattle.sql_tables.specs.Rows.{AreRowsOf, IsApart}
use Rattle.vault_rules.proofs.Options.{mapped_is}

module _ (v : Value) where
  -- a row with a rowid has it also with a value beside it
  rowid_beside : (r : Row) → is_int (rowid r) ≡ true → rowid (beside v r) ≡ rowid r
  rowid_beside [] e = absurd (true≢false (sym e))
  rowid_beside (w ∷ r) e = refl

  drop_beside : (r : Row) → is_int (rowid r) ≡ true → drop 1 (beside v r) ≡ drop 1 r ++ v ∷ []
  drop_beside [] e = absurd (true≢false (sym e))
  drop_beside (w ∷ r) e = refl

  apart_beside : (rows : List Row) → ((r : Row) → Has rows r → is_int (rowid r) ≡ true) → IsApart rows
      → IsApart (map (beside v) rows)
  apart_beside [] ids up = tt
  apart_beside (r ∷ rows) ids up = (
    all_from _ (map (beside v) rows) (λ s h e.
        let it = has_mapped (beside v) rows s h in
        let one = sym (rowid_beside r (ids r (inl refl))) in
        let other = sym (rowid_beside it.0 (ids it.0 (inr it.1))) ∙ sym (ap rowid it.2) in
        all_has _ rows it.0 up.0 it.1 (ap₂ value_cmp one other ∙ e)),
    apart_beside rows (λ s h. ids s (inr h)) up.1,
  )

  module _ {K X Y : Type 0} {cmp : K → K → Ordering} (key : K → Row) (narrow : Y → Row) (wide : X → Row)
      (coding : Coding cmp (row_of key wide)) (older : X → Y) {held : K → Option X}
      (parts : (k : K) (x : X) → held k ≡ Some x → wide x ≡ narrow (older x) ++ v ∷ []) {rows : List Row}
      (are : AreRowsOf (row_of key narrow) rows (λ k. option_map older (held k))) where
    -- the columns behind the rowid
    columns : (r : Row) → Has rows r → (k : K) (x : X) → held k ≡ Some x
        → drop 1 r ≡ row_of key narrow k (older x) → drop 1 (beside v r) ≡ row_of key wide k x
    columns r h k x at e =
        drop_beside r (are.keyed r h) ∙ ap (λ l. l ++ v ∷ []) e
        ∙ append_assoc (key k) (narrow (older x)) (v ∷ []) ∙ ap (λ l. key k ++ l) (sym (parts k x at))

    pair : (r : Row) → Has rows r
        → (k : K) × (x : X) × (drop 1 r ≡ row_of key narrow k (older x)) × (held k ≡ Some x)
    pair r h =
        let it = are.sound r h in
        let x = mapped_is older (held it.0) it.1 it.3 in
        (it.0, x.0, it.2 ∙ ap (λ y. row_of key narrow it.0 y) (sym x.2), x.1)

    pub widened : AreRowsOf (row_of key wide) (map (beside v) rows) held
    widened = record {
      apart = apart_beside rows are.keyed are.apart;
      keyed = λ r h.
          let it = has_mapped (beside v) rows r h in
          ap is_int (ap rowid it.2 ∙ rowid_beside it.0 (are.keyed it.0 it.1)) ∙ are.keyed it.0 it.1;
      once = λ r s k x y h g e f.
          let a = has_mapped (beside v) rows r h in
          let b = has_mapped (beside v) rows s g in
          let one = pair a.0 a.1 in
          let two = pair b.0 b.1 in
          let first = coding.key one.0 k one.1 x (sym (columns a.0 a.1 one.0 one.1 one.3 one.2)
          ∙ ap (drop 1) (sym a.2) ∙ e) in
          let second = coding.key two.0 k two.1 y (sym (columns b.0 b.1 two.0 two.1 two.3 two.2)
          ∙ ap (drop 1) (sym b.2) ∙ f) in
          let same = are.once a.0 b.0 k (older one.1) (older two.1) a.1 b.1
          (one.2 ∙ ap (λ k. row_of key narrow k (older one.1)) first)
          (two.2 ∙ ap (λ k. row_of key narrow k (older two.1)) second) in
          a.2 ∙ ap (beside v) same ∙ sym b.2;
      sound = λ r h.
          let it = has_mapped (beside v) rows r h in
          let is = pair it.0 it.1 in
          (is.0, is.1, ap (drop 1) it.2 ∙ columns it.0 it.1 is.0 is.1 is.3 is.2, is.3);
      complete = λ k x h.
          let row = are.complete k (older x) (ap (option_map older) h) in
          (beside v row.0, mapped_has (beside v) rows row.0 row.1, columns row.0 row.1 k x h row.2);
    }
