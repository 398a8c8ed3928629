-- The rows of merchants that are known, after changes.
use Rattle.std.proofs.Common.{◌≡◌, ◌+◌, ℕ, true, false, cond, Option, Some, None, add-zero, ap, arith, subst}
use Rattle.std.proofs.Common.{sym, ◌∙◌, inl, inr}
use Rattle.std.specs.Prelude.{bytes_eq, option_map}
use Rattle.std.specs.FinMap as map
use Rattle.std.specs.Ordering.{eq_by_cmp}
use Rattle.std.proofs.lemmas.Slice.Eq.{bytes_eq-Decides}
use Rattle.vault_core.proofs.Maps.{bytes_total, bytes_exact, get-insert_same, get-insert_other, tied}
use Rattle.vault_core.specs.Changes.{Fit, plus, with_merchant, merchant_with, merchant_with_count, is_made}
use Rattle.vault_core.specs.Changes.{made_raised}
use Rattle.vault_core.specs.Keys.{Bytes, bytes_cmp}
use Rattle.vault_core.specs.Lives.{counted_row, lives_in, row_lives}
use Rattle.vault_core.specs.Sound.{Sound}
use Rattle.vault_core.specs.Vault.{Vault, Merchant, merchant_at, made_count}
use Rattle.vault_core.specs.Window.{row_at}
use Rattle.vault_core.specs.declared.changes.Changes.{Changes}
use Rattle.vault_core.specs.declared.changes.Count.{Count}
use Rattle.vault_core.specs.declared.changes.Count.TheVariants.{Made, Given, Denied}
use Rattle.vault_core.specs.declared.row.Lives.{Lives}
use Rattle.vault_core.specs.declared.row.MerchantRow.{MerchantRow}
use Rattle.vault_store.proofs.MadeLemmas.{one_at, made-plus, one_at-own, one_at-other}
use Rattle.vault_store.proofs.MerchantLemmas.{has_room}
use Rattle.vault_store.specs.ShownMerchants.{HasRoom, row_with, row_raised}

-- names that the one test tells apart, the other does
told_apart : (a b : Bytes) → bytes_eq a b ≡ false → eq_by_cmp bytes_cmp a b ≡ false
told_apart a b other =
    elim (tied bytes_exact a b) [
      | inl same ↦ absurd (let never = sym other ∙ (bytes_eq-Decides a b).1 same in cc)
      | inr apart ↦ apart
    ]

-- a merchant's row with this many tokens
abbrev counted : ℕ → Merchant → MerchantRow
counted n merchant = counted_row (lives_in merchant) n merchant.given merchant.denied

as_many : (n k : ℕ) → k ≡ n + 0 → k ≡ n
as_many n k more = omega arith

-- the row of a merchant whose lives change
counted-changed : (count : Option Count) (x : Lives) (old : Merchant) (n k : ℕ)
    → k ≡ n + cond (is_made count) 1 0
    → counted k (merchant_with_count count (merchant_with x (Some old)))
    ≡ row_raised count (row_with x (Some (counted n old)))
counted-changed None x old n k more = ap (λ j. counted j (merchant_with x (Some old))) (as_many n k more)
counted-changed (Some Made) x old n k more = ap (λ j. counted j (merchant_with x (Some old))) more
counted-changed (Some Given) x old n k more =
    ap (λ j. counted j (merchant_with_count (Some Given) (merchant_with x (Some old)))) (as_many n k more)
counted-changed (Some Denied) x old n k more =
    ap (λ j. counted j (merchant_with_count (Some Denied) (merchant_with x (Some old)))) (as_many n k more)

same_some : {X : Type 0} {x y : X} → ◌≡◌ {A = Option X} (Some x) (Some y) → x ≡ y
same_some e = cc

-- the same, of a merchant whose row was known
known-changed : (count : Option Count) (x : Lives) (o : Option Merchant) (row : MerchantRow) (n k : ℕ)
    → k ≡ n + cond (is_made count) 1 0 → option_map (counted n) o ≡ Some row
    → counted k (merchant_with_count count (merchant_with x o)) ≡ row_raised count (row_with x (Some row))
known-changed count x None row n k more is = absurd (cc)
known-changed count x (Some old) row n k more is =
    counted-changed count x old n k more
    ∙ ap (λ (r : MerchantRow). row_raised count (row_with x (Some r))) (same_some is)

-- a row is the same where its merchant and its count are
row-same : (V W : Vault) (q : Bytes) → merchant_at W q ≡ merchant_at V q → made_count W q ≡ made_count V q
    → row_at W q ≡ row_at V q
row-same V W q merchant count = λ i. option_map (counted (count i)) (merchant i)

-- the counts of a row can go up
row_room : (V : Vault) → Sound V → (m : Bytes) (row : MerchantRow) → row_at V m ≡ Some row → HasRoom row
row_room V sound m row is =
    let few : HasRoom (row_with (row_lives row) (Some row)) =
    subst (λ o. HasRoom (row_with (row_lives row) o)) is (has_room V sound (row_lives row) m) in
    record { made = few.made; given = few.given; denied = few.denied }

module _ (V : Vault) (ch : Changes) (fit : Fit V ch) where
  -- where no lives change, each row stays
  pub row-still : ch.lives ≡ None → (q : Bytes) → row_at (plus V ch) q ≡ row_at V q
  row-still none q =
      row-same V (plus V ch) q (ap (λ lives. map.get (with_merchant V.merchants ch.count lives) q) none)
      (made-plus V ch fit q ∙ ap (λ lives. made_count V q + one_at (made_raised ch.count lives) q) none
      ∙ add-zero (made_count V q))

  module _ (m : Bytes) (x : Lives) (is : ch.lives ≡ Some (m, x)) where
    looked_up : (q : Bytes)
        → merchant_at (plus V ch) q
        ≡ map.get
        (map.insert V.merchants m
        (merchant_with_count ch.count (merchant_with x (merchant_at V m)))) q
    looked_up q = ap (λ lives. map.get (with_merchant V.merchants ch.count lives) q) is

    made_is : (q : Bytes)
        → made_count (plus V ch) q ≡ made_count V q + one_at (cond (is_made ch.count) (Some m) None) q
    made_is q =
        made-plus V ch fit q ∙ ap (λ lives. made_count V q + one_at (made_raised ch.count lives) q) is

    -- the row of the merchant whose lives change
    row-own : (row : MerchantRow) → row_at V m ≡ Some row
        → row_at (plus V ch) m ≡ Some (row_raised ch.count (row_with x (Some row)))
    row-own row known =
        ap (option_map (counted (made_count (plus V ch) m)))
        (looked_up m ∙ get-insert_same bytes_total bytes_exact V.merchants m _)
        ∙ ap Some (known-changed ch.count x (merchant_at V m) row (made_count V m)
        (made_count (plus V ch) m)
        (made_is m ∙ ap (λ n. made_count V m + n) (one_at-own (is_made ch.count) m)) known)

    -- and that of another one
    row-other : (q : Bytes) → eq_by_cmp bytes_cmp q m ≡ false → row_at (plus V ch) q ≡ row_at V q
    row-other q apart =
        row-same V (plus V ch) q
        (looked_up q ∙ get-insert_other bytes_total bytes_exact V.merchants m _ q apart)
        (made_is q ∙ ap (λ n. made_count V q + n) (one_at-other (is_made ch.count) q m apart)
        ∙ add-zero (made_count V q))

    -- a row that is known follows the changes
    pub row-follows : Sound V → (name : Bytes) (row after : MerchantRow) → bytes_eq name m ≡ true
        → row_at V name ≡ Some row → (HasRoom row → after ≡ row_raised ch.count (row_with x (Some row)))
        → row_at (plus V ch) name ≡ Some after
    row-follows sound name row after named known follows =
        let same : name ≡ m = (bytes_eq-Decides name m).0 named in
        ap (row_at (plus V ch)) same ∙ row-own row (subst (λ q. row_at V q ≡ Some row) same known)
        ∙ ap Some (sym (follows (row_room V sound name row known)))

    -- or it stays
    pub row-stays : (name : Bytes) (row : MerchantRow) → bytes_eq name m ≡ false → row_at V name ≡ Some row
        → row_at (plus V ch) name ≡ Some row
    row-stays name row other known = row-other name (told_apart name m other) ∙ known
