-- Look-ups in the vault's maps after an insertion.
use Rattle.std.proofs.Common.{◌≡◌, ◌≢◌, ◌+◌, ℕ, zero, suc, Bool, true, false, cond, Some, None, ◌⊎◌, inl}
use Rattle.std.proofs.Common.{inr, refl, sym, ap, ◌∙◌, subst, is_some}
use Rattle.std.specs.FinMap as map
use Rattle.std.specs.FinMap.{FinMap, IsAntisymmetric}
use Rattle.std.specs.Ordering.{eq_by_cmp, is_eq, nat_cmp, ordering_then}
use Rattle.std.specs.Cmp.{IsTotalOrder, tied_itself, nat_cmp_total, on_total, then_total}
use Rattle.std.specs.Cmp.Lexicographic.{nat_list_cmp_total}
use Rattle.std.specs.declared.cmp.Ordering.{Ordering}
use Rattle.std.specs.declared.cmp.Ordering.TheVariants.{Less, Equal, Greater}
use Rattle.std.proofs.lemmas.Map.Lookups.{exact_pairs, exact_bytes, exact_unsigned}
use Rattle.vault_core.specs.Keys.{Bytes, bytes_cmp, entry_cmp, record_cmp, right_cmp}
use Rattle.vault_core.specs.Numbers.{right_number}
use Rattle.vault_core.specs.declared.right.Right.{Right}
use Rattle.vault_core.specs.declared.right.Right.TheVariants.{Tokenize, Detokenize, View, Revoke, Purge}
use Rattle.vault_core.specs.declared.right.Right.TheVariants.{Audit}

pub bytes_total : IsTotalOrder bytes_cmp
bytes_total = nat_list_cmp_total

pub entry_total : IsTotalOrder entry_cmp
entry_total = then_total (on_total (λ k. k.0) bytes_total) (on_total (λ k. k.1) bytes_total)

pub record_total : IsTotalOrder record_cmp
record_total = then_total (on_total (λ k. k.0) bytes_total) (on_total (λ k. k.1) nat_cmp_total)

pub right_total : IsTotalOrder right_cmp
right_total =
    then_total (on_total (λ k. k.0) bytes_total)
    (then_total (on_total (λ k. k.1.0) bytes_total) (on_total (λ k. right_number k.1.1) nat_cmp_total))

pub bytes_exact : IsAntisymmetric bytes_cmp
bytes_exact = exact_bytes

pub entry_exact : IsAntisymmetric entry_cmp
entry_exact = exact_pairs bytes_cmp bytes_cmp exact_bytes exact_bytes

pub record_exact : IsAntisymmetric record_cmp
record_exact = exact_pairs bytes_cmp nat_cmp exact_bytes exact_unsigned

abbrev numbered : ℕ → Right
numbered zero = Audit
numbered (suc zero) = Tokenize
numbered (suc (suc zero)) = Detokenize
numbered (suc (suc (suc zero))) = View
numbered (suc (suc (suc (suc zero)))) = Revoke
numbered (suc (suc (suc (suc (suc zero))))) = Purge
numbered (suc (suc (suc (suc (suc (suc n)))))) = Audit

numbered_back : (r : Right) → numbered (right_number r) ≡ r
numbered_back Tokenize = refl
numbered_back Detokenize = refl
numbered_back View = refl
numbered_back Revoke = refl
numbered_back Purge = refl
numbered_back Audit = refl

numbers_exact : IsAntisymmetric (λ (a b : Right). nat_cmp (right_number a) (right_number b))
numbers_exact a b e = sym (numbered_back a) ∙ ap numbered (exact_unsigned _ _ e) ∙ numbered_back b

pub right_exact : IsAntisymmetric right_cmp
right_exact =
    exact_pairs bytes_cmp
    (λ (a b : Bytes × Right). ordering_then (bytes_cmp a.0 b.0)
    (nat_cmp (right_number a.1) (right_number b.1)))
    exact_bytes (exact_pairs bytes_cmp (λ (a b : Right). nat_cmp (right_number a) (right_number b))
    exact_bytes numbers_exact)

-- a key ties with itself alone
pub tied : {K : Type 0} {R : K → K → Ordering} → IsAntisymmetric R → (q k : K)
    → (q ≡ k) ⊎ (eq_by_cmp R q k ≡ false)
tied {R = R} exact q k =
    elim (R q k) as (λ r. R q k ≡ r → (q ≡ k) ⊎ (is_eq r ≡ false)) [
      | Less ↦ λ e. inr refl
      | Equal ↦ λ e. inl (exact q k e)
      | Greater ↦ λ e. inr refl
    ] refl

-- keys that differ don't tie
pub untied : {K : Type 0} {R : K → K → Ordering} → IsAntisymmetric R → (q k : K) → q ≢ k
    → eq_by_cmp R q k ≡ false
untied exact q k apart = elim (tied exact q k) [ inl same ↦ absurd (apart same) | inr is ↦ is ]

-- the same insertion in two maps that agree at a key
pub get-insert_both : {K X : Type 0} {R : K → K → Ordering} → IsTotalOrder R
    → (m n : FinMap R X) (k : K) (v : X) (q : K)
    → map.get m q ≡ map.get n q → map.get (map.insert m k v) q ≡ map.get (map.insert n k v) q
get-insert_both {R = R} o m n k v q same =
    map.get-insert o m k v q ∙ ap (cond (eq_by_cmp R q k) (Some v)) same ∙ sym (map.get-insert o n k v q)

module _ {K X : Type 0} {R : K → K → Ordering} (o : IsTotalOrder R) (exact : IsAntisymmetric R) where
  pub get-insert_same : (m : FinMap R X) (k : K) (v : X) → map.get (map.insert m k v) k ≡ Some v
  get-insert_same m k v =
      map.get-insert o m k v k ∙ ap (λ r. cond (is_eq r) (Some v) (map.get m k)) (tied_itself o k)

  pub get-insert_other : (m : FinMap R X) (k : K) (v : X) (q : K) → eq_by_cmp R q k ≡ false
      → map.get (map.insert m k v) q ≡ map.get m q
  get-insert_other m k v q apart =
      map.get-insert o m k v q ∙ ap (λ b. cond b (Some v) (map.get m q)) apart

  -- what is found afterwards is the new value, or was found before
  pub get-insert_cases : (m : FinMap R X) (k : K) (v : X) (q : K) (w : X)
      → map.get (map.insert m k v) q ≡ Some w
      → ((q ≡ k) × (w ≡ v)) ⊎ ((eq_by_cmp R q k ≡ false) × (map.get m q ≡ Some w))
  get-insert_cases m k v q w e =
      elim (tied exact q k) [
        | inl is ↦ inl (is, some_same (sym e ∙ ap (map.get (map.insert m k v)) is ∙ get-insert_same m k v))
        | inr apart ↦ inr (apart, sym (get-insert_other m k v q apart) ∙ e)
      ]
    where
      some_same : {a b : X} → Some a ≡ Some b → a ≡ b
      some_same h = cc

  pub get-retained : (m : FinMap R X) (p : K → Bool) (q : K)
      → map.get (map.retain_keys m p) q ≡ cond (p q) (map.get m q) None
  get-retained m p q = map.get-retain_keys m p q (λ x e. ap p (sym (exact q x e)))

  -- a key that passes is kept
  pub retained-yes : (m : FinMap R X) (k : K) (v : X) (p : K → Bool) → p k ≡ true
      → map.retain_keys (map.insert m k v) p ≡ map.insert (map.retain_keys m p) k v
  retained-yes m k v p passes =
      map.same_map o exact _ _ (λ q.
      elim (tied exact q k) [
        | inl is ↦
            subst (λ (x : K). map.get (map.retain_keys (map.insert m k v) p) x
            ≡ map.get (map.insert (map.retain_keys m p) k v) x) (sym is)
            (get-retained (map.insert m k v) p k ∙ ap (λ b. cond b (map.get (map.insert m k v) k) None) passes
            ∙ get-insert_same m k v ∙ sym (get-insert_same (map.retain_keys m p) k v))
        | inr apart ↦
            get-retained (map.insert m k v) p q
            ∙ ap (λ x. cond (p q) x None) (get-insert_other m k v q apart)
            ∙ sym (get-insert_other (map.retain_keys m p) k v q apart ∙ get-retained m p q)
      ])

  -- a key that fails changes nothing
  pub retained-no : (m : FinMap R X) (k : K) (v : X) (p : K → Bool) → p k ≡ false
      → map.retain_keys (map.insert m k v) p ≡ map.retain_keys m p
  retained-no m k v p fails =
      map.same_map o exact _ _ (λ q.
      elim (tied exact q k) [
        | inl is ↦
            subst (λ (x : K). map.get (map.retain_keys (map.insert m k v) p) x
            ≡ map.get (map.retain_keys m p) x) (sym is)
            (get-retained (map.insert m k v) p k ∙ ap (λ b. cond b (map.get (map.insert m k v) k) None) fails
            ∙ sym (get-retained m p k ∙ ap (λ b. cond b (map.get m k) None) fails))
        | inr apart ↦
            get-retained (map.insert m k v) p q
            ∙ ap (λ x. cond (p q) x None) (get-insert_other m k v q apart)
            ∙ sym (get-retained m p q)
      ])

  -- a new key that passes is one more
  pub retained-len_yes : (m : FinMap R X) (k : K) (v : X) (p : K → Bool) → p k ≡ true → map.get m k ≡ None
      → map.len (map.retain_keys (map.insert m k v) p) ≡ map.len (map.retain_keys m p) + 1
  retained-len_yes m k v p passes none =
      ap map.len (retained-yes m k v p passes)
      ∙ map.len-insert o (map.retain_keys m p) k v
      ∙ ap (λ x. cond (is_some x) (map.len (map.retain_keys m p)) (map.len (map.retain_keys m p) + 1))
      (get-retained m p k ∙ ap (λ b. cond b (map.get m k) None) passes ∙ none)

  -- a key that is there is none more
  pub retained-len_same : (m : FinMap R X) (k : K) (v : X) (p : K → Bool) (old : X) → map.get m k ≡ Some old
      → map.len (map.retain_keys (map.insert m k v) p) ≡ map.len (map.retain_keys m p)
  retained-len_same m k v p old there = by_pass (p k) refl
    where
      by_pass : (b : Bool) → p k ≡ b
          → map.len (map.retain_keys (map.insert m k v) p) ≡ map.len (map.retain_keys m p)
      by_pass true passes =
          ap map.len (retained-yes m k v p passes)
          ∙ map.len-insert o (map.retain_keys m p) k v
          ∙ ap (λ x. cond (is_some x) (map.len (map.retain_keys m p)) (map.len (map.retain_keys m p) + 1))
          (get-retained m p k ∙ ap (λ b. cond b (map.get m k) None) passes ∙ there)
      by_pass false fails = ap map.len (retained-no m k v p fails)
