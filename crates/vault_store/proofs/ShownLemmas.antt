-- What an ordered map shows after a row was put in, taken back or taken out.
use Rattle.std.proofs.Common.{◌≡◌, ◌+◌, ◌-◌, inl, inr, ℕ, cond, Option, Some, None, Result, Ok, Err, is_some}
use Rattle.std.proofs.Common.{sym, ap, ◌∙◌, arith}
use Rattle.std.specs.Prelude.{IsSome, OnOk, OnErr, IfOk}
use Rattle.std.specs.FinMap as map
use Rattle.std.specs.BTreeMap as rows
use Rattle.std.specs.Cmp.{IsTotalOrder, eq_by_cmp_equiv, tied_itself}
use Rattle.std.specs.Ordering.{eq_by_cmp, is_eq}
use Rattle.std.specs.declared.cmp.Ordering.{Ordering}
use Rattle.vault_core.proofs.Maps.{tied, get-insert_same, get-insert_other}
use Rattle.vault_store.specs.Shown.{Shows}

-- what a call that only a new key can refuse did at a key that is there
pub not_refused : {A E : Type 0} (r : Result A E) {X : Type 0} (o : Option X) (P : Type 0)
    → OnErr r (o ≡ None) → IsSome o → OnOk r P → P
not_refused (Ok x) o P err there ok = ok
not_refused (Err e) None P err there ok = absurd (cc)
not_refused (Err e) (Some x) P err there ok = absurd (cc)

-- as many rows as there were, with one more where the key was new
pub len_not_refused : {X E : Type 0} (r : Result (Option X) E) (o : Option X) (m n : ℕ)
    → OnErr r (o ≡ None) → IsSome o → IfOk r (λ was. was ≡ o) → IfOk r (λ was. n ≡ m + cond (is_some was) 0 1)
    → n ≡ m + cond (is_some o) 0 1
len_not_refused (Ok was) o m n err there old len = len ∙ ap (λ x. m + cond (is_some x) 0 1) old
len_not_refused (Err e) None m n err there old len = absurd (cc)
len_not_refused (Err e) (Some x) m n err there old len = absurd (cc)

module _ {K X : Type 0} {R : K → K → Ordering} (o : IsTotalOrder R) where
  -- a row was put in
  pub shows-put : (old new : rows.BTreeMap K X) (F : map.FinMap R X) (k : K) (v : X)
      → ((q : K) → rows.get R new q ≡ cond (eq_by_cmp R k q) (Some v) (rows.get R old q))
      → rows.btree_map_len new ≡ rows.btree_map_len old + cond (is_some (rows.get R old k)) 0 1
      → Shows R old F → Shows R new (map.insert F k v)
  shows-put old new F k v updates len h = record {
    at = λ q.
        updates q ∙ ap (λ b. cond b (Some v) (rows.get R old q)) ((eq_by_cmp_equiv o).symm k q)
        ∙ ap (cond (eq_by_cmp R q k) (Some v)) (h.at q) ∙ sym (map.get-insert o F k v q);
    many =
        len ∙ ap (λ x. rows.btree_map_len old + cond (is_some x) 0 1) (h.at k)
        ∙ more (map.get F k) ∙ sym (map.len-insert o F k v);
  }
    where
      more : (x : Option X)
          → rows.btree_map_len old + cond (is_some x) 0 1 ≡ cond (is_some x) (map.len F) (map.len F + 1)
      more None = let e = h.many in omega arith
      more (Some x) = let e = h.many in omega arith

  -- a row was taken out
  pub shows-taken : (old new : rows.BTreeMap K X) (F : map.FinMap R X) (k : K)
      → ((q : K) → rows.get R new q ≡ cond (eq_by_cmp R k q) None (rows.get R old q))
      → rows.btree_map_len new + cond (is_some (rows.get R old k)) 1 0 ≡ rows.btree_map_len old
      → Shows R old F → Shows R new (map.remove F k)
  shows-taken old new F k updates len h = record {
    at = λ q.
        updates q ∙ ap (λ b. cond b None (rows.get R old q)) ((eq_by_cmp_equiv o).symm k q)
        ∙ ap (cond (eq_by_cmp R q k) None) (h.at q) ∙ sym (map.get-remove o F k q);
    many =
        less (map.get F k) (ap (λ x. rows.btree_map_len new + cond (is_some x) 1 0) (sym (h.at k)) ∙ len)
        ∙ sym (map.len-remove o F k);
  }
    where
      less : (x : Option X) → rows.btree_map_len new + cond (is_some x) 1 0 ≡ rows.btree_map_len old
          → rows.btree_map_len new ≡ cond (is_some x) (map.len F - 1) (map.len F)
      less None e = let m = h.many in omega arith
      less (Some x) e = let m = h.many in omega arith

  module _ (exact : map.IsAntisymmetric R) where
    -- the row that was put in at a new key is removed
    pub shows-removed : (old new : rows.BTreeMap K X) (F : map.FinMap R X) (k : K) (v : X)
        → ((q : K) → rows.get R new q ≡ cond (eq_by_cmp R k q) None (rows.get R old q))
        → rows.btree_map_len new + cond (is_some (rows.get R old k)) 1 0 ≡ rows.btree_map_len old
        → map.get F k ≡ None → Shows R old (map.insert F k v) → Shows R new F
    shows-removed old new F k v updates len none h = record {
      at = λ q. updates q ∙ back q;
      many =
          let one =
          ap (λ x. rows.btree_map_len new + cond (is_some x) 1 0)
          (h.at k ∙ get-insert_same o exact F k v) in
          let grown = map.len-insert o F k v ∙ ap (λ x. cond (is_some x) (map.len F) (map.len F + 1)) none in
          let before = h.many in
          omega (arith, one, len, grown, before);
    }
      where
        back : (q : K) → cond (eq_by_cmp R k q) None (rows.get R old q) ≡ map.get F q
        back q =
            elim (tied exact q k) [
              | inl is ↦
                  ap (λ (x : K). cond (eq_by_cmp R k x) None (rows.get R old x)) is
                  ∙ ap (λ r. cond (is_eq r) None (rows.get R old k)) (tied_itself o k) ∙ sym none
                  ∙ sym (ap (map.get F) is)
              | inr apart ↦
                  ap (λ b. cond b None (rows.get R old q)) ((eq_by_cmp_equiv o).symm k q ∙ apart)
                  ∙ h.at q ∙ get-insert_other o exact F k v q apart
            ]

    -- the row that stood there before is put in again
    pub shows-restored : (old new : rows.BTreeMap K X) (F : map.FinMap R X) (k : K) (v was : X)
        → ((q : K) → rows.get R new q ≡ cond (eq_by_cmp R k q) (Some was) (rows.get R old q))
        → rows.btree_map_len new ≡ rows.btree_map_len old + cond (is_some (rows.get R old k)) 0 1
        → map.get F k ≡ Some was → Shows R old (map.insert F k v) → Shows R new F
    shows-restored old new F k v was updates len there h = record {
      at = λ q. updates q ∙ back q;
      many =
          let same =
          len
          ∙ ap (λ x. rows.btree_map_len old + cond (is_some x) 0 1)
          (h.at k ∙ get-insert_same o exact F k v) in
          let grown = map.len-insert o F k v ∙ ap (λ x. cond (is_some x) (map.len F) (map.len F + 1)) there in
          let before = h.many in
          omega (arith, same, grown, before);
    }
      where
        back : (q : K) → cond (eq_by_cmp R k q) (Some was) (rows.get R old q) ≡ map.get F q
        back q =
            elim (tied exact q k) [
              | inl is ↦
                  ap (λ (x : K). cond (eq_by_cmp R k x) (Some was) (rows.get R old x)) is
                  ∙ ap (λ r. cond (is_eq r) (Some was) (rows.get R old k)) (tied_itself o k) ∙ sym there
                  ∙ sym (ap (map.get F) is)
              | inr apart ↦
                  ap (λ b. cond b (Some was) (rows.get R old q)) ((eq_by_cmp_equiv o).symm k q ∙ apart)
                  ∙ h.at q ∙ get-insert_other o exact F k v q apart
            ]
