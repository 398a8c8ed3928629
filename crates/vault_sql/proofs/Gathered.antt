-- What is gathered from all rows of a table is what the table stands for.
use Rattle.std.proofs.Common.{◌≡◌, ◌<◌, ◌+◌, ℕ, ℤ, inl, inr, List, [], ◌∷◌, ◌++◌, Option, Some, None}
use Rattle.std.proofs.Common.{Bool, true, false, cond, refl, sym, ap, subst, ◌∙◌, take, get_or, length}
use Rattle.std.proofs.Common.{Ordering, add-one, option_map}
use Rattle.std.proofs.Math.Seq.{take-suc}
use Rattle.std.specs.BTreeMap as tree
use Rattle.std.specs.Cmp.{IsTotalOrder, tied_itself}
use Rattle.std.specs.FinMap as finite
use Rattle.std.specs.Ordering.{eq_by_cmp, is_eq}
use Rattle.sqlite.specs.Order.{Row}
use Rattle.sqlite.specs.declared.types.Value.TheVariants.{Int}
use Rattle.sqlite_rules.proofs.ListLemmas.{has_either, has_left, has_right}
use Rattle.sqlite_rules.specs.Lists.{Has}
use Rattle.vault_core.proofs.Maps.{tied}
use Rattle.vault_sql.specs.ListedRows.{ShowsAll}
use Rattle.vault_sql.specs.Gathered.{Gathers}

module _ {K Y : Type 0} {cmp : K → K → Ordering} (Shows : Row → K → Y → Type 0) where
  -- nothing is gathered from no rows
  pub gathers_none : (found : tree.BTreeMap K Y) → ((k : K) → tree.get cmp found k ≡ None)
      → Gathers cmp Shows [] found
  gathers_none found empty =
      record { from = λ k y is. let none = empty k in absurd cc; all = λ r there. absurd there }

  -- what one row more shows is put at its key
  pub gathers_more : IsTotalOrder cmp → finite.IsAntisymmetric cmp → (rows : List Row) (i : ℕ) (row : Row)
      (old new : tree.BTreeMap K Y) (k : K) (y : Y) → i < length rows → row ≡ get_or rows i row
      → Shows row k y
      → ((q : K) → tree.get cmp new q ≡ cond (eq_by_cmp cmp k q) (Some y) (tree.get cmp old q))
      → Gathers cmp Shows (take i rows) old → Gathers cmp Shows (take (i + 1) rows) new
  gathers_more total exact rows i row old new k y below is shows puts g =
      subst (λ l. Gathers cmp Shows l new) (sym more) (record {
        from = λ q z found. here q z (eq_by_cmp cmp k q) refl (sym (puts q) ∙ found);
        all = λ r there. elim (has_either (take i rows) (row ∷ []) r there) [
          | inl before ↦
              let it = g.all r before in
              let after = still it.0 it.3 it.4 (eq_by_cmp cmp k it.0) refl in
              (it.0, it.1, it.2, after.0, after.1)
          | inr last ↦
              elim last [
                | inl same ↦ (
                  k,
                  y,
                  subst (λ r. Shows r k y) (sym same) shows,
                  y,
                  puts k ∙ ap (λ o. cond (is_eq o) (Some y) (tree.get cmp old k)) (tied_itself total k),
                )
                | inr none ↦ absurd none
              ]
        ];
      })
    where
      more : take (i + 1) rows ≡ take i rows ++ row ∷ []
      more =
          let e : take (i + 1) rows ≡ take i rows ++ (get_or rows i row ∷ []) =
          rw (add-one, take-suc rows i row below) refl in
          e ∙ ap (λ r. take i rows ++ r ∷ []) (sym is)

      here : (q : K) (z : Y) (b : Bool) → eq_by_cmp cmp k q ≡ b
          → cond b (Some y) (tree.get cmp old q) ≡ Some z
          → (r : Row) × Has (take i rows ++ row ∷ []) r × Shows r q z
      here q z true tie found =
          let value : y ≡ z = cc in
          let key : k ≡ q =
          elim (tied exact k q) [ inl same ↦ same | inr apart ↦ absurd (let e = sym tie ∙ apart in cc) ] in (
            row,
            has_right (take i rows) (row ∷ []) row (inl refl),
            subst (λ v. Shows row q v) value (subst (λ q. Shows row q y) key shows),
          )
      here q z false apart found =
          let it = g.from q z found in (it.0, has_left (take i rows) (row ∷ []) it.0 it.1, it.2)

      still : (q : K) (z : Y) → tree.get cmp old q ≡ Some z → (b : Bool) → eq_by_cmp cmp k q ≡ b
          → (w : Y) × (tree.get cmp new q ≡ Some w)
      still q z is true tie = (y, puts q ∙ ap (λ b. cond b (Some y) (tree.get cmp old q)) tie)
      still q z is false apart = (z, puts q ∙ ap (λ b. cond b (Some y) (tree.get cmp old q)) apart ∙ is)

-- ---- the whole table

same_some : {X : Type 0} {x y : X} → ◌≡◌ {A = Option X} (Some x) (Some y) → x ≡ y
same_some e = cc

module _ {K X Y : Type 0} {cmp : K → K → Ordering} {encode : K → X → Row} (Shows : Row → K → Y → Type 0)
    (f : X → Y)
    (reads : (n : ℤ) (k : K) (x : X) (q : K) (y : Y) → Shows (Int n ∷ encode k x) q y
    → (q ≡ k) × (y ≡ f x))
    (rows : List Row) (held : K → Option X) (shown : ShowsAll encode rows held) (found : tree.BTreeMap K Y)
    (gathered : Gathers cmp Shows rows found) where
  from_held : (q : K) (y : Y) → tree.get cmp found q ≡ Some y → (x : X) × (held q ≡ Some x) × (y ≡ f x)
  from_held q y is =
      let row = gathered.from q y is in
      let pair = shown.sound row.0 row.1 in
      let same = reads pair.0 pair.1 pair.2 q y (subst (λ r. Shows r q y) pair.3 row.2) in
      (pair.2, ap held same.0 ∙ pair.4, same.1)

  is_found : (q : K) (x : X) → held q ≡ Some x → (y : Y) × (tree.get cmp found q ≡ Some y)
  is_found q x is =
      let row = shown.complete q x is in
      let it = gathered.all (Int row.0 ∷ encode q x) row.1 in
      let same = reads row.0 q x it.0 it.1 it.2 in
      (it.3, ap (tree.get cmp found) (sym same.0) ∙ it.4)

  pub gathered-is : (q : K) → tree.get cmp found q ≡ option_map f (held q)
  gathered-is q = go (held q) refl (tree.get cmp found q) refl
    where
      go : (o : Option X) → held q ≡ o → (p : Option Y) → tree.get cmp found q ≡ p → p ≡ option_map f o
      go None none None empty = refl
      go None none (Some y) is = let it = from_held q y is in let e = it.1 in cc
      go (Some x) there None empty = let it = is_found q x there in let e = it.1 in cc
      go (Some x) there (Some y) is =
          let it = from_held q y is in
          let same : it.0 ≡ x = same_some (sym it.1 ∙ there) in
          ap Some (it.2 ∙ ap f same)
