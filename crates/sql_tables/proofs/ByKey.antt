-- Tables that stand for pairs, read and edited by their key.
use Rattle.std.proofs.Common.{◌≡◌, ℤ, List, [], ◌∷◌, drop, filter, Bool, true, Option, Some, None, refl, sym}
use Rattle.std.proofs.Common.{ap, subst, ◌∙◌, ◌⊎◌, inl, inr, Ordering, ◌≢◌, false, not, cond, Less, Equal}
use Rattle.std.proofs.Common.{Greater, is_eq, true≢false, arith, int_cmp, ◌&&◌}
use Rattle.std.specs.Cmp.{tied_itself, IsTotalOrder, tied_back}
use Rattle.std.specs.FinMap.{IsAntisymmetric, int_cmp-IsAntisymmetric}
use Rattle.std.specs.Ordering.{eq_by_cmp, match_ordering}
use Rattle.sqlite.specs.Edit.{id_in, put_all, without_all, are_fresh}
use Rattle.sqlite.specs.Order.{Row, value_cmp}
use Rattle.sqlite.specs.Tree.{rowid, has_rowid, put_row, without_rowid}
use Rattle.sqlite.specs.View.{is_int}
use Rattle.sqlite.specs.declared.types.Value.TheVariants.{Int}
use Rattle.sqlite_rules.proofs.TableLemmas.{int_is, has_put, put_has, put_all_keeps}
use Rattle.sqlite_rules.specs.Lists.{Has}
use Rattle.sql_tables.specs.Rows.{AreRowsOf, IsApart, put}
use Rattle.sql_tables.proofs.Answers.{filter_none, one_at}
use Rattle.sql_tables.proofs.KeyTests.{equal_is}
use Rattle.std.proofs.lemmas.Bool.{and_parts, not-true}
use Rattle.std.specs.List.{AllByRecursion}
use Rattle.sqlite_catalog.proofs.LayoutLemmas.{ascending_filter}
use Rattle.sqlite_rules.proofs.ListLemmas.{all_from, all_has, has_filtered, has_kept, some_from}
use Rattle.sqlite_trees.proofs.TreeLemmas.{all-put_row}
use Rattle.sqlite_value.proofs.OrderLemmas.{value_cmp_total}

-- keys in their order, and rows that tell their key and their value
pub record Coding {K X : Type 0} (cmp : K → K → Ordering) (encode : K → X → Row) : Type 0 where
  pub total : IsTotalOrder cmp
  pub exact : IsAntisymmetric cmp
  pub key : (a b : K) (y z : X) → encode a y ≡ encode b z → a ≡ b
  pub value : (a b : K) (y z : X) → encode a y ≡ encode b z → y ≡ z

-- a row with its rowid in front
pub whole : (r row : Row) → is_int (rowid r) ≡ true → drop 1 r ≡ row → r ≡ Int (id_in (rowid r)) ∷ row
whole [] row h e = absurd cc
whole (v ∷ r) row h e = ap (λ w. w ∷ r) (int_is v h) ∙ ap (λ l. Int (id_in v) ∷ l) e

module _ {K X : Type 0} {cmp : K → K → Ordering} {encode : K → X → Row} (c : Coding cmp encode) where
  pub eq_exact : (a b : K) → eq_by_cmp cmp a b ≡ true → a ≡ b
  eq_exact a b e = c.exact a b (equal_is _ e)

  pub eq_itself : (a : K) → eq_by_cmp cmp a a ≡ true
  eq_itself a = rw (tied_itself c.total a) refl

  module _ {rows : List Row} {held : K → Option X} (are : AreRowsOf encode rows held) where
    -- the row of a pair
    pub row_at : (k : K) (x : X) → held k ≡ Some x → (n : ℤ) × Has rows (Int n ∷ encode k x)
    row_at k x h =
        let it = are.complete k x h in
        (id_in (rowid it.0), subst (Has rows) (whole it.0 (encode k x) (are.keyed it.0 it.1) it.2) it.1)

    -- a test that passes the rows of these pairs
    module _ (p : Row → Bool) (good : K → X → Bool)
        (tests : (n : ℤ) (q : K) (y : X) → p (Int n ∷ encode q y) ≡ good q y) where
      pub passes_good : (r : Row) → Has rows r → p r ≡ true → (q : K) × (y : X) × (held q ≡ Some y)
          × (good q y ≡ true) × (r ≡ Int (id_in (rowid r)) ∷ encode q y)
      passes_good r h e =
          let it = are.sound r h in
          let is = whole r (encode it.0 it.1) (are.keyed r h) it.2 in
          (it.0, it.1, it.3, sym (tests (id_in (rowid r)) it.0 it.1) ∙ ap p (sym is) ∙ e, is)

      pub found_none : ((q : K) (y : X) → held q ≡ Some y → good q y ≡ true → ⊥) → filter p rows ≡ []
      found_none none = filter_none p rows (λ r h e. let it = passes_good r h e in none it.0 it.1 it.2 it.3)

      pub found_one : (k : K) (x : X) → held k ≡ Some x → good k x ≡ true
          → ((q : K) (y : X) → held q ≡ Some y → good q y ≡ true → q ≡ k)
          → (n : ℤ) × Has rows (Int n ∷ encode k x) × (filter p rows ≡ (Int n ∷ encode k x) ∷ [])
      found_one k x is passes alone =
          let row = row_at k x is in
          let rr = Int row.0 ∷ encode k x in (
            row.0,
            row.1,
            one_at p rows rr are.apart row.1 (tests row.0 k x ∙ passes) (λ r there e.
                let it = passes_good r there e in
                are.once r rr k it.1 x there row.1
                (ap (drop 1) it.4 ∙ ap (λ q. encode q it.1) (alone it.0 it.1 it.2 it.3)) refl),
          )

    -- one that passes the row of a key alone
    pub passes_key : (p : Row → Bool) (k : K)
        → ((n : ℤ) (q : K) (y : X) → p (Int n ∷ encode q y) ≡ eq_by_cmp cmp q k) → (r : Row) → Has rows r
        → p r ≡ true → (y : X) × (held k ≡ Some y) × (r ≡ Int (id_in (rowid r)) ∷ encode k y)
    passes_key p k tests r h e =
        let it = passes_good p (λ q y. eq_by_cmp cmp q k) tests r h e in
        let same = eq_exact it.0 k it.3 in
        (it.1, ap held (sym same) ∙ it.2, it.4 ∙ ap (λ q. Int (id_in (rowid r)) ∷ encode q it.1) same)

    pub at_key : (p : Row → Bool) (k : K)
        → ((n : ℤ) (q : K) (y : X) → p (Int n ∷ encode q y) ≡ eq_by_cmp cmp q k)
        → ((held k ≡ None) × (filter p rows ≡ []))
        ⊎ ((x : X) × (held k ≡ Some x) × (n : ℤ) × Has rows (Int n ∷ encode k x)
        × (filter p rows ≡ (Int n ∷ encode k x) ∷ []))
    at_key p k tests =
        let good = λ (q : K) (y : X). eq_by_cmp cmp q k in
        elim (held k) as (λ o. held k ≡ o → ((held k ≡ None) × (filter p rows ≡ []))
        ⊎ ((x : X) × (held k ≡ Some x) × (n : ℤ) × Has rows (Int n ∷ encode k x)
        × (filter p rows ≡ (Int n ∷ encode k x) ∷ []))) [
          | None ↦ λ h. inl (
            h,
            found_none p good tests (λ q y is e.
                let clash = sym is ∙ ap held (eq_exact q k e) ∙ h in cc),
          )
          | Some x ↦ λ h.
              let it = found_one p good tests k x h (eq_itself k) (λ q y is e. eq_exact q k e) in
              inr (x, h, it.0, it.1, it.2)
        ] refl

    -- one that passes the row with this rowid, if it is the key's
    module _ (p : Row → Bool) (n : ℤ) (k : K)
        (tests : (m : ℤ) (q : K) (y : X)
        → p (Int m ∷ encode q y) ≡ (eq_by_cmp int_cmp m n && eq_by_cmp cmp q k)) where
      passes_both : (r : Row) → Has rows r → p r ≡ true
          → (y : X) × (held k ≡ Some y) × (r ≡ Int n ∷ encode k y)
      passes_both r h e =
          let it = are.sound r h in
          let is = whole r (encode it.0 it.1) (are.keyed r h) it.2 in
          let both = and_parts _ _ (sym (tests (id_in (rowid r)) it.0 it.1) ∙ ap p (sym is) ∙ e) in
          let id = int_cmp-IsAntisymmetric (id_in (rowid r)) n (equal_is _ both.0) in
          let same = eq_exact it.0 k both.1 in
          (it.1, ap held (sym same) ∙ it.3, is ∙ (λ i. Int (id i) ∷ encode (same i) it.1))

      pub at_both : (filter p rows ≡ [])
          ⊎ ((x : X) × (held k ≡ Some x) × Has rows (Int n ∷ encode k x)
          × (filter p rows ≡ (Int n ∷ encode k x) ∷ []))
      at_both = elim (filter p rows) as (λ l. filter p rows ≡ l → (filter p rows ≡ [])
          ⊎ ((x : X) × (held k ≡ Some x) × Has rows (Int n ∷ encode k x)
          × (filter p rows ≡ (Int n ∷ encode k x) ∷ []))) [
            | [] ↦ λ none. inl none
            | r ∷ more ↦ λ some.
                let kept = has_filtered p rows r (subst (λ l. Has l r) (sym some) (inl refl)) in
                let it = passes_both r kept.0 kept.1 in
                let row = Int n ∷ encode k it.0 in
                let there : Has rows row = subst (Has rows) it.2 kept.0 in
                inr (
                  it.0,
                  it.1,
                  there,
                  one_at p rows row are.apart there (ap p (sym it.2) ∙ kept.1) (λ s h e.
                      let other = passes_both s h e in
                      are.once s row k other.0 it.0 h there (ap (drop 1) other.2) refl),
                )
          ] refl

-- ---- what an edit makes of them

pub put_apart : (new : Row) (rows : List Row)
    → AllByRecursion (λ x. value_cmp (rowid new) (rowid x) ≢ Equal) rows → IsApart rows
    → IsApart (put_row new rows)
put_apart new [] fresh up = (tt, tt)
put_apart new (r ∷ rows) fresh up = go (value_cmp (rowid r) (rowid new)) refl
    (put_apart new rows fresh.1 up.1)
  where
    go : (o : Ordering) → value_cmp (rowid r) (rowid new) ≡ o → IsApart (put_row new rows)
        → IsApart (match_ordering o (r ∷ put_row new rows) (new ∷ rows) (new ∷ r ∷ rows))
    go Less e more = (all-put_row _ new rows (λ f. let clash = sym e ∙ f in cc) up.0, more)
    go Equal e more = (fresh.1, up.1)
    go Greater e more = (fresh, up)

pub fresh_apart : (new : Row) (rows : List Row) → are_fresh rows (new ∷ []) ≡ true
    → AllByRecursion (λ x. value_cmp (rowid new) (rowid x) ≢ Equal) rows
fresh_apart new rows fresh = all_from _ rows (λ x there tie. true≢false (sym
    (some_from (λ r. is_eq (value_cmp (rowid r) (rowid new))) rows x there
    (ap is_eq (tied_back value_cmp_total (rowid new) (rowid x) tie))) ∙ not-true _ (and_parts _ _ fresh).0))

-- rows with one rowid are one row
pub same_row : (rows : List Row) (a b : Row) → IsApart rows → Has rows a → Has rows b
    → value_cmp (rowid a) (rowid b) ≡ Equal → a ≡ b
same_row [] a b up h k tie = absurd h
same_row (r ∷ rows) a b up (inl h) (inl k) tie = h ∙ sym k
same_row (r ∷ rows) a b up (inl h) (inr k) tie =
    absurd (all_has _ rows b up.0 k (ap (λ z. value_cmp (rowid z) (rowid b)) (sym h) ∙ tie))
same_row (r ∷ rows) a b up (inr h) (inl k) tie =
    absurd (all_has _ rows a up.0 h
    (ap (λ z. value_cmp (rowid z) (rowid a)) (sym k) ∙ tied_back value_cmp_total (rowid a) (rowid b) tie))
same_row (r ∷ rows) a b up (inr h) (inr k) tie = same_row rows a b up.1 h k tie

-- The map may be told by any function with the same look-ups.
pub same_held : {K X : Type 0} {encode : K → X → Row} {rows : List Row} {f g : K → Option X}
    → AreRowsOf encode rows f → ((q : K) → g q ≡ f q) → AreRowsOf encode rows g
same_held are same = record {
  apart = are.apart;
  keyed = are.keyed;
  once = are.once;
  sound = λ r h. let it = are.sound r h in (it.0, it.1, it.2, same it.0 ∙ it.3);
  complete = λ q y h. are.complete q y (sym (same q) ∙ h);
}

module _ {K X : Type 0} {cmp : K → K → Ordering} {encode : K → X → Row} (c : Coding cmp encode)
    {rows : List Row} {held : K → Option X} (are : AreRowsOf encode rows held) (k : K) where
  put_at : (o : Option X) → put cmp held k o k ≡ o
  put_at o = ap (λ b. cond b o (held k)) (eq_itself c k)

  put_beside : (o : Option X) (q : K) → (q ≡ k → ⊥) → put cmp held k o q ≡ held q
  put_beside o q other = let exact = eq_exact c q k in grind (arith, exact)

  is_key : (q : K) → (q ≡ k) ⊎ (q ≡ k → ⊥)
  is_key q = elim (eq_by_cmp cmp q k) as (λ b. eq_by_cmp cmp q k ≡ b → (q ≡ k) ⊎ (q ≡ k → ⊥)) [
    | true ↦ λ e. inl (eq_exact c q k e)
    | false ↦ λ e. inr (λ same. true≢false (sym (eq_itself c k) ∙ ap (λ z. eq_by_cmp cmp z k) (sym same) ∙ e))
  ] refl

  -- what is put where it was changes nothing
  pub put_again : (o : Option X) → held k ≡ o → (q : K) → put cmp held k o q ≡ held q
  put_again o is q = elim (is_key q) [
    | inl same ↦ ap (put cmp held k o) same ∙ put_at o ∙ sym is ∙ ap held (sym same)
    | inr other ↦ put_beside o q other
  ]

  -- the rows without that of the key
  pub left_over : (left : List Row) → IsApart left → ((r : Row) → Has left r → Has rows r)
      → ((r : Row) (y : X) → Has left r → drop 1 r ≡ encode k y → ⊥)
      → ((r : Row) (q : K) (y : X) → Has rows r → drop 1 r ≡ encode q y → (q ≡ k → ⊥) → Has left r)
      → AreRowsOf encode left (put cmp held k None)
  left_over left apart back gone stays = record {
    apart = apart;
    keyed = λ r h. are.keyed r (back r h);
    once = λ r s q y z a b. are.once r s q y z (back r a) (back s b);
    sound = λ r h.
        let it = are.sound r (back r h) in
        let other = λ (same : it.0 ≡ k). gone r it.1 h (it.2 ∙ ap (λ q. encode q it.1) same) in
        (it.0, it.1, it.2, put_beside None it.0 other ∙ it.3);
    complete = λ q y h. elim (is_key q) [
      | inl same ↦ let clash = sym h ∙ ap (put cmp held k None) same ∙ put_at None in cc
      | inr other ↦ let it = are.complete q y (sym (put_beside None q other) ∙ h) in
          (it.0, stays it.0 q y it.1 it.2 other, it.2)
    ];
  }

  pub removed : (n : ℤ) (was : X) → Has rows (Int n ∷ encode k was)
      → AreRowsOf encode (without_all rows (n ∷ [])) (put cmp held k None)
  removed n was there =
      let old = Int n ∷ encode k was in
      let kept = λ (r : Row). has_filtered (λ x. not (has_rowid n x)) rows r in
      left_over (without_rowid n rows) (ascending_filter _ (λ x. not (has_rowid n x)) rows are.apart)
      (λ r h. (kept r h).0)
      (λ r y h e.
      let same : r ≡ old = are.once r old k y was (kept r h).0 there e refl in
      let out : not (is_eq (value_cmp (Int n) (Int n))) ≡ true = ap (λ z. not (has_rowid n z)) (sym same)
      ∙ (kept r h).1 in
      true≢false (sym (rw (tied_itself value_cmp_total (Int n)) at out)))
      (λ r q y h e other. has_kept (λ x. not (has_rowid n x)) rows r h
      (elim (has_rowid n r) as (λ b. has_rowid n r ≡ b → not b ≡ true) [
        | true ↦ λ hit. absurd (other (c.key q k y was
            (sym e ∙ ap (drop 1) (same_row rows r old are.apart h there (equal_is _ hit)))))
        | false ↦ λ miss. refl
      ] refl))

  pub inserted : (x : X) (n : ℤ) → held k ≡ None → are_fresh rows ((Int n ∷ encode k x) ∷ []) ≡ true
      → AreRowsOf encode (put_all rows ((Int n ∷ encode k x) ∷ [])) (put cmp held k (Some x))
  inserted x n none fresh = record {
    apart = put_apart new rows (fresh_apart new rows fresh) are.apart;
    keyed = λ r h. elim (put_has new rows r h) [ inl same ↦ rw same refl | inr was ↦ are.keyed r was ];
    once = λ r s q y z a b e f. elim (pair r a q y e) [
      | inl one ↦ elim (pair s b q z f)
          [ inl two ↦ one.0 ∙ sym two.0 | inr two ↦ absurd (two.1 one.1) ]
      | inr one ↦ elim (pair s b q z f)
          [ inl two ↦ absurd (one.1 two.1) | inr two ↦ are.once r s q y z one.0 two.0 e f ]
    ];
    sound = λ r h. elim (put_has new rows r h) [
      | inl same ↦ (k, x, ap (drop 1) same, put_at (Some x))
      | inr was ↦ let it = are.sound r was in
          (it.0, it.1, it.2, put_beside (Some x) it.0 (other r was it.0 it.1 it.2) ∙ it.3)
    ];
    complete = λ q y h. elim (is_key q) [
      | inl same ↦
          let value : Some x ≡ Some y = sym (put_at (Some x)) ∙ ap (put cmp held k (Some x)) (sym same) ∙ h in
          let one : x ≡ y = cc in (new, has_put new rows, λ i. encode (sym same i) (one i))
      | inr apart ↦ let was = are.complete q y (sym (put_beside (Some x) q apart) ∙ h) in
          (was.0, put_all_keeps (new ∷ []) rows was.0 fresh was.1, was.2)
    ];
  }
    where
      new : Row
      new = Int n ∷ encode k x

      other : (r : Row) → Has rows r → (q : K) (y : X) → drop 1 r ≡ encode q y → q ≡ k → ⊥
      other r was q y e same =
          let it = are.sound r was in
          let clash = sym it.3 ∙ ap held (c.key it.0 q it.1 y (sym it.2 ∙ e) ∙ same) ∙ none in cc

      pair : (r : Row) → Has (put_row new rows) r → (q : K) (y : X) → drop 1 r ≡ encode q y
          → ((r ≡ new) × (q ≡ k)) ⊎ (Has rows r × (q ≡ k → ⊥))
      pair r h q y e = elim (put_has new rows r h) [
        | inl same ↦ inl (same, c.key q k y x (sym e ∙ ap (drop 1) same))
        | inr was ↦ inr (was, other r was q y e)
      ]

-- The row of the key is replaced by one with its rowid.
pub replaced : {K X : Type 0} {cmp : K → K → Ordering} {encode : K → X → Row} {rows : List Row}
    {held : K → Option X} (c : Coding cmp encode) (are : AreRowsOf encode rows held) (k : K) (x was : X)
    (n : ℤ) → Has rows (Int n ∷ encode k was)
    → are_fresh (without_all rows (n ∷ [])) ((Int n ∷ encode k x) ∷ []) ≡ true
    → AreRowsOf encode (put_all (without_all rows (n ∷ [])) ((Int n ∷ encode k x) ∷ []))
    (put cmp held k (Some x))
replaced {cmp = cmp} {held = held} c are k x was n there fresh =
    same_held (inserted c (removed c are k n was there) k x n (put_at c are k None) fresh)
    (λ q. grind arith)

-- no rows stand for no pairs
pub no_rows : {K X : Type 0} (encode : K → X → Row) (rows : List Row) (held : K → Option X) → rows ≡ []
    → ((k : K) → held k ≡ None) → AreRowsOf encode rows held
no_rows encode rows held is none = subst (λ l. AreRowsOf encode l held) (sym is) (record {
  apart = tt;
  keyed = λ r there. absurd there;
  once = λ r s k x y there. absurd there;
  sound = λ r there. absurd there;
  complete = λ k x h. let clash = sym (none k) ∙ h in cc;
})
