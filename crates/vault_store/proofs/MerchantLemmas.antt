-- The rows of merchants after changes.
use Rattle.std.proofs.Common.{◌≡◌, ◌+◌, ℕ, false, cond, Option, Some, None, is_some, refl, sym, ap, ◌∙◌}
use Rattle.std.proofs.Common.{inl, inr, add-zero, arith}
use Rattle.std.specs.Prelude.{option_map}
use Rattle.std.specs.BTreeMap as rows
use Rattle.std.specs.FinMap as map
use Rattle.std.specs.Cmp.{eq_by_cmp_equiv, tied_itself}
use Rattle.std.specs.Ordering.{eq_by_cmp, is_eq}
use Rattle.vault_core.specs.Changes.{Fit, plus, with_merchant, merchant_with, merchant_with_count, is_made}
use Rattle.vault_core.specs.Changes.{made_raised}
use Rattle.vault_core.specs.Keys.{Bytes, bytes_cmp}
use Rattle.vault_core.specs.Lives.{counted_row, lives_in}
use Rattle.vault_core.specs.Sound.{Sound}
use Rattle.vault_core.specs.Vault.{Vault, Merchant, merchant_at, made_count}
use Rattle.vault_core.specs.Window.{row_at}
use Rattle.vault_core.specs.declared.changes.Changes.{Changes}
use Rattle.vault_core.specs.declared.changes.Count.{Count}
use Rattle.vault_core.specs.declared.changes.Count.TheVariants.{Made, Given, Denied}
use Rattle.vault_core.specs.declared.row.Lives.{Lives}
use Rattle.vault_core.specs.declared.row.MerchantRow.{MerchantRow}
use Rattle.vault_core.proofs.Maps.{bytes_total, bytes_exact, tied, get-insert_same, get-insert_other}
use Rattle.vault_store.specs.ShownMerchants.{ShowsMerchants, HasRoom, row_with, row_raised}
use Rattle.vault_store.proofs.MadeLemmas.{one_at, made-plus, made-unknown, one_at-own, one_at-other}

-- a merchant's row with this many tokens
abbrev counted : ℕ → Merchant → MerchantRow
counted n merchant = counted_row (lives_in merchant) n merchant.given merchant.denied

-- a row of no tokens, and one of as many as before
none_made : (m : Merchant) (row : MerchantRow) (n k : ℕ) → n ≡ 0 → k ≡ n + 0 → counted 0 m ≡ row
    → counted k m ≡ row
none_made m row n k zero more same = let is : k ≡ 0 = omega arith in ap (λ j. counted j m) is ∙ same

as_many : (m : Merchant) (row : MerchantRow) (n k : ℕ) → k ≡ n + 0 → counted n m ≡ row → counted k m ≡ row
as_many m row n k more same = let is : k ≡ n = omega arith in ap (λ j. counted j m) is ∙ same

-- the row of the merchant whose lives change
counted-raised : (count : Option Count) (x : Lives) (o : Option Merchant) (n k : ℕ) → (o ≡ None → n ≡ 0)
    → k ≡ n + cond (is_made count) 1 0
    → counted k (merchant_with_count count (merchant_with x o))
    ≡ row_raised count (row_with x (option_map (counted n) o))
counted-raised None x None n k none more = none_made _ _ n k (none refl) more refl
counted-raised None x (Some old) n k none more = as_many _ _ n k more refl
counted-raised (Some Made) x None n k none more =
    let zero = none refl in
    let is : k ≡ 1 = omega arith in
    ap (λ j. counted j (merchant_with x None)) is
counted-raised (Some Made) x (Some old) n k none more = ap (λ j. counted j (merchant_with x (Some old))) more
counted-raised (Some Given) x None n k none more = none_made _ _ n k (none refl) more refl
counted-raised (Some Given) x (Some old) n k none more = as_many _ _ n k more refl
counted-raised (Some Denied) x None n k none more = none_made _ _ n k (none refl) more refl
counted-raised (Some Denied) x (Some old) n k none more = as_many _ _ n k more refl

-- a row is the same where its merchant and its count are
row-same : (V W : Vault) (q : Bytes) → merchant_at W q ≡ merchant_at V q → made_count W q ≡ made_count V q
    → row_at W q ≡ row_at V q
row-same V W q merchant count = λ i. option_map (counted (count i)) (merchant i)

is_some-map : {A B : Type 0} (f : A → B) (o : Option A) → is_some (option_map f o) ≡ is_some o
is_some-map f None = refl
is_some-map f (Some x) = refl

-- no lives change
pub shows-unchanged : (shown : rows.BTreeMap Bytes MerchantRow) (V : Vault) (ch : Changes)
    → ch.lives ≡ None → Fit V ch
    → ShowsMerchants shown V → ShowsMerchants shown (plus V ch)
shows-unchanged shown V ch none fit h = record {
  at = λ q.
      h.at q ∙ sym (row-same V (plus V ch) q
      (ap (λ lives. map.get (with_merchant V.merchants ch.count lives) q) none)
      (made-plus V ch fit q ∙ ap (λ lives. made_count V q + one_at (made_raised ch.count lives) q) none
      ∙ add-zero (made_count V q)));
  many = h.many ∙ sym (ap (λ lives. map.len (with_merchant V.merchants ch.count lives)) none);
}

-- the counts of a sound vault can go up
pub has_room : (V : Vault) → Sound V → (x : Lives) (m : Bytes) → HasRoom (row_with x (row_at V m))
has_room V sound x m = go (merchant_at V m) refl
  where
    go : (o : Option Merchant) → merchant_at V m ≡ o
        → HasRoom (row_with x (option_map (counted (made_count V m)) o))
    go None is = record { made = omega arith; given = omega arith; denied = omega arith }
    go (Some old) is =
        let few = sound.made_few m in
        let given = (sound.merchants m old is).given in
        let denied = (sound.merchants m old is).denied in
        record { made = omega (arith, few); given = omega (arith, given); denied = omega (arith, denied) }

module _ (V : Vault) (sound : Sound V) (ch : Changes) (fit : Fit V ch) (m : Bytes) (x : Lives)
    (is : ch.lives ≡ Some (m, x)) where
  looked_up : (q : Bytes)
      → merchant_at (plus V ch) q
      ≡ map.get
      (map.insert V.merchants m
      (merchant_with_count ch.count (merchant_with x (merchant_at V m)))) q
  looked_up q = ap (λ lives. map.get (with_merchant V.merchants ch.count lives) q) is

  made_is : (q : Bytes)
      → made_count (plus V ch) q ≡ made_count V q + one_at (cond (is_made ch.count) (Some m) None) q
  made_is q = made-plus V ch fit q ∙ ap (λ lives. made_count V q + one_at (made_raised ch.count lives) q) is

  row-own : row_at (plus V ch) m ≡ Some (row_raised ch.count (row_with x (row_at V m)))
  row-own =
      ap (option_map (counted (made_count (plus V ch) m)))
      (looked_up m ∙ get-insert_same bytes_total bytes_exact V.merchants m _)
      ∙ ap Some (counted-raised ch.count x (merchant_at V m) (made_count V m)
      (made_count (plus V ch) m)
      (made-unknown V sound m)
      (made_is m ∙ ap (λ n. made_count V m + n) (one_at-own (is_made ch.count) m)))

  row-other : (q : Bytes) → eq_by_cmp bytes_cmp q m ≡ false → row_at (plus V ch) q ≡ row_at V q
  row-other q apart =
      row-same V (plus V ch) q
      (looked_up q ∙ get-insert_other bytes_total bytes_exact V.merchants m _ q apart)
      (made_is q ∙ ap (λ n. made_count V q + n) (one_at-other (is_made ch.count) q m apart)
      ∙ add-zero (made_count V q))

  -- the row of the merchant was put
  pub shows-put_merchant : (old new : rows.BTreeMap Bytes MerchantRow)
      → ((q : Bytes) → rows.get bytes_cmp new q
      ≡ cond (eq_by_cmp bytes_cmp m q)
      (Some (row_raised ch.count (row_with x (row_at V m)))) (rows.get bytes_cmp old q))
      → rows.btree_map_len new
      ≡ rows.btree_map_len old + cond (is_some (rows.get bytes_cmp old m)) 0 1
      → ShowsMerchants old V → ShowsMerchants new (plus V ch)
  shows-put_merchant old new updates len h = record {
    at = λ q. elim (tied bytes_exact q m) [
      | inl same ↦ ap (rows.get bytes_cmp new) same ∙ own ∙ sym (ap (row_at (plus V ch)) same)
      | inr apart ↦
          updates q
          ∙ ap (λ b. cond b (Some (row_raised ch.count (row_with x (row_at V m))))
          (rows.get bytes_cmp old q))
          ((eq_by_cmp_equiv bytes_total).symm m q ∙ apart)
          ∙ h.at q ∙ sym (row-other q apart)
    ];
    many =
        len
        ∙ ap (λ b. rows.btree_map_len old + cond b 0 1)
        (ap is_some (h.at m)
        ∙ is_some-map (counted (made_count V m)) (merchant_at V m))
        ∙ more (merchant_at V m)
        ∙ sym (ap (λ lives. map.len (with_merchant V.merchants ch.count lives)) is
        ∙ map.len-insert bytes_total V.merchants m _);
  }
    where
      own : rows.get bytes_cmp new m ≡ row_at (plus V ch) m
      own =
          updates m
          ∙ ap (λ r. cond (is_eq r) (Some (row_raised ch.count (row_with x (row_at V m))))
          (rows.get bytes_cmp old m))
          (tied_itself bytes_total m)
          ∙ sym row-own

      more : (o : Option Merchant)
          → rows.btree_map_len old + cond (is_some o) 0 1
          ≡ cond (is_some o) (map.len V.merchants) (map.len V.merchants + 1)
      more None = let e = h.many in omega arith
      more (Some merchant) = let e = h.many in omega arith

-- a merchant without a row isn't known
pub unknown : (V : Vault) (m : Bytes) → row_at V m ≡ None → merchant_at V m ≡ None
unknown V m = go (merchant_at V m)
  where
    go : (o : Option Merchant) → option_map (counted (made_count V m)) o ≡ None → o ≡ None
    go None none = refl
    go (Some merchant) none = cc
