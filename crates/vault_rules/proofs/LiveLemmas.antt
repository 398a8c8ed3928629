-- Keys of which no two are alike, with one key more.
use Rattle.std.proofs.Common.{◌≡◌, ℕ, Bool, true, false, not, ◌&&◌, ◌||◌, cond, List, [], ◌∷◌}
use Rattle.std.proofs.Common.{◌++◌, Option, Some, None, refl, sym, ap, ◌∙◌}
use Rattle.std.proofs.Common.{bytes_eq}
use Rattle.std.proofs.Math.Bool.{or-false, and-false}
use Rattle.std.proofs.lemmas.List.{append-nil}
use Rattle.std.proofs.lemmas.List.Elements.{filter_map-append}
use Rattle.std.proofs.lemmas.List.Folds.{list_any-append}
use Rattle.std.specs.Cmp.Lexicographic.{nat_list_eq_equiv}
use Rattle.std.specs.List.{cons_option, filter_map, list_any}
use Rattle.std.specs.Ordering.{is_eq, nat_cmp, ordering_then}
use Rattle.vault_core.specs.Keys.{Bytes, bytes_cmp}
use Rattle.vault_rules.specs.Rules.{alike, are_distinct}
use Rattle.std.specs.Cmp.Lexicographic.{texts_ties}
use Rattle.vault_rules.specs.Packed.{packed}
use Rattle.vault_rules.specs.Texts.{is_number}
use Rattle.vault_rules.proofs.FirstLemmas.{both}
use Rattle.vault_rules.proofs.TokenLemmas.{digits_tie}

alike_sym : (a b : Bytes × Bytes) → alike a b ≡ alike b a
alike_sym a b =
    ap (λ x. x && bytes_eq a.1 b.1) (nat_list_eq_equiv.symm a.0 b.0)
    ∙ ap (λ x. bytes_eq b.0 a.0 && x) (nat_list_eq_equiv.symm a.1 b.1)

-- the keys of rows and of one more
pub keys_more : {R : Type 0} (h : R → Option (Bytes × Bytes)) (xs : List R) (x : R) (key : Bytes × Bytes)
    → h x ≡ Some key → filter_map h (xs ++ x ∷ []) ≡ filter_map h xs ++ key ∷ []
keys_more h xs x key some =
    filter_map-append h xs (x ∷ []) ∙ ap (λ o. filter_map h xs ++ cons_option o []) some

-- a row without a key adds none
pub keys_same : {R : Type 0} (h : R → Option (Bytes × Bytes)) (xs : List R) (x : R) → h x ≡ None
    → filter_map h (xs ++ x ∷ []) ≡ filter_map h xs
keys_same h xs x none =
    filter_map-append h xs (x ∷ []) ∙ ap (λ o. filter_map h xs ++ cons_option o []) none ∙ append-nil _

-- a pair is among the keys and one more
pub any_more : (keys : List (Bytes × Bytes)) (key q : Bytes × Bytes)
    → list_any (alike q) (keys ++ key ∷ []) ≡ list_any (alike q) keys || alike q key
any_more keys key q =
    list_any-append (alike q) keys (key ∷ [])
    ∙ ap (λ b. list_any (alike q) keys || b) (or-false (alike q key))

or_cond : (t o : Bool) → cond t true o ≡ o || t
or_cond true true = refl
or_cond true false = refl
or_cond false true = refl
or_cond false false = refl

-- what a set has of the keys and one more
pub set_more : (keys : List (Bytes × Bytes)) (key q : Bytes × Bytes) (number : ℕ) (text : Bytes)
    (old new : Bool)
    → is_number key.1 ≡ true → is_number q.1 ≡ true → packed key.1 ≡ number → key.0 ≡ text
    → new ≡ cond (is_eq (ordering_then (nat_cmp number (packed q.1)) (bytes_cmp text q.0))) true old
    → old ≡ list_any (alike q) keys → new ≡ list_any (alike q) (keys ++ key ∷ [])
set_more keys key q number text old new is it numbered named put before =
    put
    ∙ (λ i. cond (is_eq (ordering_then (nat_cmp (sym numbered i) (packed q.1)) (bytes_cmp (sym named i) q.0)))
    true old)
    ∙ ap (λ b. cond b true old) (ties ∙ alike_sym key q)
    ∙ or_cond (alike q key) old ∙ ap (λ b. b || alike q key) before
    ∙ sym (any_more keys key q)
  where
    turned : (a b : Bool) → a && b ≡ b && a
    turned true true = refl
    turned true false = refl
    turned false true = refl
    turned false false = refl

    ties : is_eq (ordering_then (nat_cmp (packed key.1) (packed q.1)) (bytes_cmp key.0 q.0)) ≡ alike key q
    ties =
        both (nat_cmp (packed key.1) (packed q.1)) (bytes_cmp key.0 q.0)
        ∙ (let names = sym (texts_ties key.0 q.0) in λ i. digits_tie key.1 q.1 is it i && names i)
        ∙ turned (bytes_eq key.1 q.1) (bytes_eq key.0 q.0)

regroup : (p q d r : Bool) → not (p || q) && (d && not r) ≡ (not p && d) && not (q || r)
regroup true q d r = refl
regroup false true true r = refl
regroup false true false r = refl
regroup false false true r = refl
regroup false false false r = refl

-- one key more is apart where it is alike none
pub distinct_more : (keys : List (Bytes × Bytes)) (key : Bytes × Bytes)
    → are_distinct (keys ++ key ∷ []) ≡ are_distinct keys && not (list_any (alike key) keys)
distinct_more [] key = refl
distinct_more (x ∷ keys) key =
    ap (λ b. not b && are_distinct (keys ++ key ∷ []))
    (any_more keys key x ∙ ap (λ b. list_any (alike x) keys || b) (alike_sym x key))
    ∙ ap (λ b. not (list_any (alike x) keys || alike key x) && b) (distinct_more keys key)
    ∙ regroup (list_any (alike x) keys) (alike key x) (are_distinct keys) (list_any (alike key) keys)

front : (p d q m : Bool) → not p && d ≡ false → (d ≡ false → m ≡ false) → not (p || q) && m ≡ false
front true d q m e next = refl
front false d q m e next = ap (λ b. not q && b) (next e) ∙ and-false (not q)

-- where two keys are alike, they stay so among more
distinct_front : (keys more : List (Bytes × Bytes)) → are_distinct keys ≡ false
    → are_distinct (keys ++ more) ≡ false
distinct_front [] more e = absurd (cc)
distinct_front (x ∷ keys) more e =
    ap (λ b. not b && are_distinct (keys ++ more)) (list_any-append (alike x) keys more)
    ∙ front (list_any (alike x) keys) (are_distinct keys) (list_any (alike x) more) _ e
    (distinct_front keys more)

-- two of the keys of rows and one more are alike, where two of the rows' are
pub distinct_still : {R : Type 0} (h : R → Option (Bytes × Bytes)) (xs : List R) (x : R)
    → are_distinct (filter_map h xs) ≡ false → are_distinct (filter_map h (xs ++ x ∷ [])) ≡ false
distinct_still h xs x e =
    ap are_distinct (filter_map-append h xs (x ∷ []))
    ∙ distinct_front (filter_map h xs) (filter_map h (x ∷ [])) e
