-- Rows whose key is their rowid: which of them pass a test, and what an edit makes of them.
use Rattle.std.proofs.Common.{◌≡◌, ◌⊎◌, inl, inr, ℤ, List, [], ◌∷◌, filter, Bool, true, false, not, cond}
use Rattle.std.proofs.Common.{Option, Some, None, refl, sym, ap, subst, ◌∙◌, int_cmp, arith}
use Rattle.std.proofs.lemmas.Bool.{not-true}
use Rattle.std.specs.Cmp.{int_cmp_total, tied_itself}
use Rattle.std.specs.FinMap.{int_cmp-IsAntisymmetric}
use Rattle.std.specs.Ordering.{eq_by_cmp}
use Rattle.sqlite.specs.Edit.{put_all, without_all, are_fresh}
use Rattle.sqlite.specs.Order.{Row}
use Rattle.sqlite.specs.Tree.{has_rowid, put_row}
use Rattle.sqlite.specs.declared.types.Value.TheVariants.{Int}
use Rattle.sqlite_catalog.proofs.LayoutLemmas.{ascending_filter}
use Rattle.sqlite_rules.proofs.ListLemmas.{all_has, has_filtered, has_kept}
use Rattle.sqlite_rules.proofs.TableLemmas.{has_put, put_has, put_all_keeps}
use Rattle.sqlite_rules.specs.Lists.{Has}
use Rattle.sqlite_value.proofs.OrderLemmas.{value_cmp_total, value_cmp-Int}
use Rattle.sql_tables.specs.Rows.{AreRowsById, put}
use Rattle.sql_tables.proofs.Answers.{filter_none, one_at}
use Rattle.sql_tables.proofs.ByKey.{fresh_apart, put_apart}
use Rattle.sql_tables.proofs.KeyTests.{equal_is}

same_id : (a b : ℤ) → eq_by_cmp int_cmp a b ≡ true → a ≡ b
same_id a b e = int_cmp-IsAntisymmetric a b (equal_is _ e)

id_itself : (a : ℤ) → eq_by_cmp int_cmp a a ≡ true
id_itself a = rw (tied_itself int_cmp_total a) refl

-- what is there, after something was put or taken, was there or was put
left_there : {X : Type 0} (b : Bool) (o : Option X) (x : X) → cond b None o ≡ Some x
    → (not b ≡ true) × (o ≡ Some x)
left_there true o x h = absurd cc
left_there false o x h = (refl, h)

now_there : {X : Type 0} (m n : ℤ) (x : X) (o : Option X) (y : X)
    → cond (eq_by_cmp int_cmp m n) (Some x) o ≡ Some y → ((m ≡ n) × (x ≡ y)) ⊎ (o ≡ Some y)
now_there m n x o y h = elim (eq_by_cmp int_cmp m n) as (λ b. eq_by_cmp int_cmp m n ≡ b
    → cond b (Some x) o ≡ Some y
    → ((m ≡ n) × (x ≡ y)) ⊎ (o ≡ Some y)) [
      | true ↦ λ e same. inl (same_id m n e, cc)
      | false ↦ λ e same. inr same
    ] refl h

module _ {X : Type 0} {value : X → Row} {rows : List Row} {held : ℤ → Option X}
    (are : AreRowsById value rows held) where
  -- a test that passes the rows of these values
  module _ (p : Row → Bool) (good : ℤ → X → Bool)
      (tests : (n : ℤ) (x : X) → p (Int n ∷ value x) ≡ good n x) where
    pub passes_id : (r : Row) → Has rows r → p r ≡ true
        → (n : ℤ) × (x : X) × (held n ≡ Some x) × (good n x ≡ true) × (r ≡ Int n ∷ value x)
    passes_id r h e = let it = are.sound r h in
        (it.0, it.1, it.3, sym (tests it.0 it.1) ∙ ap p (sym it.2) ∙ e, it.2)

    pub found_no_id : ((n : ℤ) (x : X) → held n ≡ Some x → good n x ≡ true → ⊥) → filter p rows ≡ []
    found_no_id none = filter_none p rows (λ r h e. let it = passes_id r h e in none it.0 it.1 it.2 it.3)

    pub found_one_id : (n : ℤ) (x : X) → held n ≡ Some x → good n x ≡ true
        → ((m : ℤ) (y : X) → held m ≡ Some y → good m y ≡ true → m ≡ n)
        → filter p rows ≡ (Int n ∷ value x) ∷ []
    found_one_id n x is fits alone =
        one_at p rows (Int n ∷ value x) are.apart (are.complete n x is) (tests n x ∙ fits) (λ r h e.
        let it = passes_id r h e in
        let same = alone it.0 it.1 it.2 it.3 in
        let both : Some it.1 ≡ Some x = sym it.2 ∙ ap held same ∙ is in
        let one : it.1 ≡ x = cc in
        it.4 ∙ (λ i. Int (same i) ∷ value (one i)))

  -- one that passes the row of an id alone
  pub at_id : (p : Row → Bool) (n : ℤ) → ((m : ℤ) (x : X) → p (Int m ∷ value x) ≡ eq_by_cmp int_cmp m n)
      → ((held n ≡ None) × (filter p rows ≡ []))
      ⊎ ((x : X) × (held n ≡ Some x) × (filter p rows ≡ (Int n ∷ value x) ∷ []))
  at_id p n tests =
      let good = λ (m : ℤ) (x : X). eq_by_cmp int_cmp m n in
      elim (held n) as (λ o. held n ≡ o → ((held n ≡ None) × (filter p rows ≡ []))
      ⊎ ((x : X) × (held n ≡ Some x) × (filter p rows ≡ (Int n ∷ value x) ∷ []))) [
        | None ↦ λ h. inl (
          h,
          found_no_id p good tests (λ m x is e.
              let clash = sym is ∙ ap held (same_id m n e) ∙ h in cc),
        )
        | Some x ↦ λ h. inr (x, h, found_one_id p good tests n x h (id_itself n) (λ m y is e. same_id m n e))
      ] refl

  -- a rowid that is free is that of no value
  pub free_id : (n : ℤ) (new : Row) → are_fresh rows ((Int n ∷ new) ∷ []) ≡ true → held n ≡ None
  free_id n new fresh = elim (held n) as (λ o. held n ≡ o → o ≡ None) [
    | None ↦ λ h. refl
    | Some x ↦ λ h. absurd (all_has _ rows (Int n ∷ value x) (fresh_apart (Int n ∷ new) rows fresh)
        (are.complete n x h) (tied_itself value_cmp_total (Int n)))
  ] refl

  -- the map may be told by any function with the same look-ups
  same_ids : {others : ℤ → Option X} → ((n : ℤ) → others n ≡ held n) → AreRowsById value rows others
  same_ids same = record {
    apart = are.apart;
    sound = λ r h. let it = are.sound r h in (it.0, it.1, it.2, same it.0 ∙ it.3);
    complete = λ n x h. are.complete n x (sym (same n) ∙ h);
  }

  -- what is put where it was changes nothing
  pub same_put : (n : ℤ) (o : Option X) → held n ≡ o → AreRowsById value rows (put int_cmp held n o)
  same_put n o is = same_ids (λ m. let exact = same_id m n in grind (arith, exact, is))

  hits_id : (m n : ℤ) (x : X) → has_rowid n (Int m ∷ value x) ≡ eq_by_cmp int_cmp m n
  hits_id m n x = rw value_cmp-Int refl

  -- the rows without that of an id
  pub removed_id : (n : ℤ) → AreRowsById value (without_all rows (n ∷ [])) (put int_cmp held n None)
  removed_id n = record {
    apart = ascending_filter _ (λ r. not (has_rowid n r)) rows are.apart;
    sound = λ r h.
        let kept = has_filtered (λ r. not (has_rowid n r)) rows r h in
        let it = are.sound r kept.0 in
        let other = not-true _ (sym (ap not (hits_id it.0 n it.1)) ∙ ap (λ r. not (has_rowid n r)) (sym it.2)
        ∙ kept.1) in
        (it.0, it.1, it.2, ap (λ b. cond b None (held it.0)) other ∙ it.3);
    complete = λ m x h.
        let it = left_there (eq_by_cmp int_cmp m n) (held m) x h in
        has_kept (λ r. not (has_rowid n r)) rows (Int m ∷ value x) (are.complete m x it.1)
        (ap not (hits_id m n x) ∙ it.0);
  }

  -- and with one more, whose rowid is free
  pub inserted_id : (n : ℤ) (x : X) → are_fresh rows ((Int n ∷ value x) ∷ []) ≡ true
      → AreRowsById value (put_all rows ((Int n ∷ value x) ∷ [])) (put int_cmp held n (Some x))
  inserted_id n x fresh = record {
    apart = put_apart new rows (fresh_apart new rows fresh) are.apart;
    sound = λ r h. elim (put_has new rows r h) [
      | inl same ↦ (n, x, same, ap (λ b. cond b (Some x) (held n)) (id_itself n))
      | inr was ↦ let it = are.sound r was in
          let exact = same_id it.0 n in
          let none = free_id n (value x) fresh in
          let is = it.3 in
          (it.0, it.1, it.2, grind (arith, exact, none, is))
    ];
    complete = λ m y h. elim (now_there m n x (held m) y h) [
      | inl same ↦ subst (Has (put_row new rows)) (λ i. Int (sym same.0 i) ∷ value (same.1 i))
          (has_put new rows)
      | inr was ↦ put_all_keeps (new ∷ []) rows (Int m ∷ value y) fresh (are.complete m y was)
    ];
  }
    where
      new : Row
      new = Int n ∷ value x

-- the row of an id is replaced by another
pub replaced_id : {X : Type 0} {value : X → Row} {rows : List Row} {held : ℤ → Option X}
    (are : AreRowsById value rows held) (n : ℤ) (x : X)
    → are_fresh (without_all rows (n ∷ [])) ((Int n ∷ value x) ∷ []) ≡ true
    → AreRowsById value (put_all (without_all rows (n ∷ [])) ((Int n ∷ value x) ∷ []))
    (put int_cmp held n (Some x))
replaced_id are n x fresh = same_ids (inserted_id (removed_id are n) n x fresh) (λ m. grind arith)
