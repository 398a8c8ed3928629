-- The items of an array, and the rights that they give.
use Rattle.std.proofs.Common.{◌≡◌, ◌↔◌, ◌<◌, ◌≤◌, ℕ, zero, suc, List, [], ◌∷◌, cond, ◌==◌, Option, Some}
use Rattle.std.proofs.Common.{None}
use Rattle.std.specs.Prelude.{IfSome}
use Rattle.std.specs.List.{AllByRecursion}
use Rattle.std.proofs.Common.{get_or, length, map, take, refl, sym, ap, ◌∙◌, subst, arith}
use Rattle.std.proofs.lemmas.Cmp.{nat_cmp_total}
use Rattle.std.proofs.lemmas.List.{take_all}
use Rattle.std.specs.Cmp.{tied_itself}
use Rattle.toml.specs.Data.{Data, Items, Members, string, integer, float, boolean, datetime, array}
use Rattle.toml.specs.Data.{table, get_item, as_array, as_table}
use Rattle.toml.specs.View.{view, items_of}
use Rattle.vault_core.proofs.Maps.{right_exact}
use Rattle.vault_core.specs.Numbers.{right_number}
use Rattle.vault_core.specs.Words.{right_word}
use Rattle.vault_core.specs.declared.right.Right.{Right}
use Rattle.vault_core.specs.declared.right.Right.TheVariants.{Tokenize, Detokenize, View, Revoke, Purge}
use Rattle.vault_core.specs.declared.right.Right.TheVariants.{Audit}
use Rattle.vault_core.specs.Keys.{Bytes}
use Rattle.vault_core.specs.Name.{IsName}
use Rattle.vault_core.specs.Scalar.{IsMoment}
use Rattle.vault_rights.specs.Faults.{IsItemFault, IsFirstItemFault}
use Rattle.vault_rights.specs.Items.{grant_of, IsGranted}
use Rattle.vault_rights.specs.Named.{Row, IsLatest, HasGrant, HasRight, HasMerchant, GivesRight}
use Rattle.vault_rights.specs.Named.{IsExtendedBy}
use Rattle.vault_rights.specs.declared.fault.RightsFault.{RightsFault}
use Rattle.vault_rights.proofs.Latest.{Grant, latest-same}
use Rattle.vault_rights.proofs.Lists.{extended-same}
use Rattle.vault_rights.proofs.Members.{some_same}
use Rattle.vault_rights.specs.Proper.{IsGrant, AreGrants, EachMember, IsProperMerchant}
use Rattle.vault_rights.specs.Proper.{IsProperCaller}
use Rattle.toml.specs.declared.value.Value.{Value}

abbrev pub grant_data : Grant → Data
grant_data grant = grant_of grant.0 grant.1

-- the end of each, where it has one, is a moment
abbrev pub AreMoments : List Grant → Type 0
AreMoments grants = AllByRecursion (λ (grant : Grant). IfSome grant.1 IsMoment) grants

-- items that grants are
pub grants-are : (grants : List Grant) → AreMoments grants → AreGrants (items_of (map grant_data grants))
grants-are [] moments i x found = cc
grants-are (g ∷ grants) moments zero x found = (g.0, g.1, sym (some_same found), moments.0)
grants-are (g ∷ grants) moments (suc i) x found = grants-are grants moments.1 i x found

-- an item before another is one of those taken
pub grants-before : (items : List Value) (i j : ℕ) (grants : List Grant) (x : Data)
    → map view (take i items) ≡ map grant_data grants → AreMoments grants → j < i
    → get_item j (items_of (map view items)) ≡ Some x
    → IsGrant x
grants-before [] i j grants x same moments less found = cc
grants-before (v ∷ items) zero j grants x same moments less found = absurd (omega arith)
grants-before (v ∷ items) (suc i) zero [] x same moments less found = cc
grants-before (v ∷ items) (suc i) zero (g ∷ grants) x same moments less found =
    (g.0, g.1, let e : view v ≡ grant_data g = cc in sym (some_same found) ∙ e, moments.0)
grants-before (v ∷ items) (suc i) (suc j) [] x same moments less found = cc
grants-before (v ∷ items) (suc i) (suc j) (g ∷ grants) x same moments less found =
    grants-before items i j grants x
    (let e : map view (take i items) ≡ map grant_data grants = cc in e)
    moments.1 (omega arith) found

-- the right whose word begins with the byte
abbrev right_of : ℕ → Right
right_of b = cond (b == 116) Tokenize
    (cond (b == 100) Detokenize (cond (b == 118) View (cond (b == 114) Revoke
    (cond (b == 112) Purge Audit))))

back : (r : Right) → right_of (get_or (right_word r) 0 0) ≡ r
back Tokenize = refl
back Detokenize = refl
back View = refl
back Revoke = refl
back Purge = refl
back Audit = refl

-- rights with one word are one
pub word-exact : (a b : Right) → right_word a ≡ right_word b → a ≡ b
word-exact a b h = sym (back a) ∙ ap (λ w. right_of (get_or w 0 0)) h ∙ back b

-- rights with one number are one
pub number-exact : (a b : Right) → right_number a ≡ right_number b → a ≡ b
number-exact a b h =
    ap (λ (key : Bytes × (Bytes × Right)). key.1.1)
    (right_exact ([], ([], a)) ([], ([], b)) (rw h (tied_itself nat_cmp_total (right_number b))))

-- the numbers go from 1 to 6
pub number-within : (r : Right) → (0 < right_number r) × (right_number r ≤ 6)
number-within Tokenize = (omega arith, omega arith)
number-within Detokenize = (omega arith, omega arith)
number-within View = (omega arith, omega arith)
number-within Revoke = (omega arith, omega arith)
number-within Purge = (omega arith, omega arith)
number-within Audit = (omega arith, omega arith)

-- items of one right and end are one
pub grant-exact : (a b : Right) (p q : Option ℕ) → grant_of a p ≡ grant_of b q → (a ≡ b) × (p ≡ q)
grant-exact a b None None h = let same : right_word a ≡ right_word b = cc in (word-exact a b same, refl)
grant-exact a b None (Some n) h = absurd (cc)
grant-exact a b (Some m) None h = absurd (cc)
grant-exact a b (Some m) (Some n) h =
    let same : right_word a ≡ right_word b = cc in
    let level : m ≡ n = cc in
    (word-exact a b same, ap (λ k. Some k) level)

pub has-grant : (grants : List Grant) (r : Right) (until : Option ℕ)
    → HasGrant (items_of (map grant_data grants)) r until ↔ IsGranted grants r until
has-grant grants r until = (to grants, from grants)
  where
    to : (grants : List Grant) → HasGrant (items_of (map grant_data grants)) r until
        → IsGranted grants r until
    to [] (i, found) = cc
    to (g ∷ gs) (zero, found) =
        let same = grant-exact g.0 r g.1 until (some_same found) in
        (0, omega arith, λ i. (same.0 i, same.1 i))
    to (g ∷ gs) (suc i, found) = let (k, within, at) = to gs (i, found) in (suc k, omega arith, at)

    from : (grants : List Grant) → IsGranted grants r until
        → HasGrant (items_of (map grant_data grants)) r until
    from [] (k, within, at) = absurd (omega arith)
    from (g ∷ gs) (zero, within, at) = (0, ap (λ t. Some (grant_data t)) at)
    from (g ∷ gs) (suc k, within, at) = let (i, found) = from gs (k, omega arith, at) in (suc i, found)

-- an item of the array, by its place
pub found-item : (items : List Value) (i : ℕ) (d : Value) → i < length items
    → get_item i (items_of (map view items)) ≡ Some (view (get_or items i d))
found-item [] i d h = absurd (omega arith)
found-item (v ∷ items) zero d h = refl
found-item (v ∷ items) (suc i) d h = found-item items i d (omega arith)

-- where each item was read, each gives a right
pub grants-whole : (items xs : List Value) (i : ℕ) (grants : List Grant) → xs ≡ items → length xs ≤ i
    → map view (take i xs) ≡ map grant_data grants → AreMoments grants → AreGrants (items_of (map view items))
grants-whole items xs i grants same past read moments =
    subst (λ t. AreGrants (items_of (map view t))) (take_all i xs past ∙ same)
    (subst (λ ds. AreGrants (items_of ds)) (sym read) (grants-are grants moments))

-- the first item that gives no right
pub first-item-fault : (items xs : List Value) (i : ℕ) (x : Value) (grants : List Grant)
    (fault : RightsFault) → xs ≡ items
    → i < length xs → x ≡ get_or xs i x → map view (take i xs) ≡ map grant_data grants
    → AreMoments grants
    → IsItemFault (view x) fault
    → IsFirstItemFault (items_of (map view items)) fault
first-item-fault items xs i x grants fault same within at read moments bad =
    subst (λ t. IsFirstItemFault (items_of (map view t)) fault) same (
      i,
      view x,
      found-item xs i x within ∙ ap (λ t. Some (view t)) (sym at),
      bad,
      λ j earlier less found. grants-before xs i j grants earlier read moments less found,
    )

pub as-array : (d : Data) (xs : Items) → Some xs ≡ as_array d → d ≡ array xs
as-array (array ys) xs h = ap array (sym (some_same h))
as-array (string s) xs h = cc
as-array (integer s) xs h = cc
as-array (float s) xs h = cc
as-array (boolean s) xs h = cc
as-array (datetime s) xs h = cc
as-array (table s) xs h = cc

pub as-table : (d : Data) (ms : Members) → Some ms ≡ as_table d → d ≡ table ms
as-table (table ys) xs h = ap table (sym (some_same h))
as-table (string s) xs h = cc
as-table (integer s) xs h = cc
as-table (float s) xs h = cc
as-table (boolean s) xs h = cc
as-table (datetime s) xs h = cc
as-table (array s) xs h = cc

pub proper-merchant : (name bytes : Bytes) (d : Data) (xs : Items) → bytes ≡ name
    → IsName bytes
    → Some xs ≡ as_array d → AreGrants xs → IsProperMerchant name d
proper-merchant name bytes d xs same named is grants =
    (subst IsName same named, (xs, as-array d xs is, grants))

pub merchant-rows : (c m name : Bytes) (d : Data) (xs : Items) (grants read : List Grant)
    (before after : List Row) → m ≡ name
    → Some xs ≡ as_array d → xs ≡ items_of (map grant_data grants) → read ≡ grants
    → IsExtendedBy (λ row. (row.0 ≡ c) × (row.1 ≡ m) × IsLatest (IsGranted read row.2) row.3) before after
    → IsExtendedBy (λ row. (row.0 ≡ c) × (row.1 ≡ name) × HasRight d row.2 row.3) before after
merchant-rows c m name d xs grants read before after same is items held rows =
    let kind = as-array d xs is in
    extended-same _ _ before after rows
    (λ row.
    let among = λ (until : Option ℕ). has-grant grants row.2 until in (
      λ p. (
        p.0,
        p.1 ∙ same,
        (
          xs,
          kind,
          subst (λ t. IsLatest (HasGrant t row.2) row.3) (sym items)
              (latest-same _ _ row.3 (λ until. ((among until).1, (among until).0))
              (subst (λ t. IsLatest (IsGranted t row.2) row.3) held p.2)),
        ),
      ),
      λ r.
          let (ys, other, w) = r.2 in
          let level : ys ≡ xs = cc in (
            r.0,
            r.1 ∙ sym same,
            subst (λ t. IsLatest (IsGranted t row.2) row.3) (sym held)
                (latest-same _ _ row.3 among
                (subst (λ t. IsLatest (HasGrant t row.2) row.3) (level ∙ items) w)),
          ),
    ))

pub proper-caller : (name bytes : Bytes) (d : Data) (ms : Members) → bytes ≡ name → IsName bytes
    → Some ms ≡ as_table d
    → EachMember IsProperMerchant ms → IsProperCaller name d
proper-caller name bytes d ms same named is each = (subst IsName same named, (ms, as-table d ms is, each))

pub caller-rows : (c name : Bytes) (d : Data) (ms : Members) (before after : List Row) → c ≡ name
    → Some ms ≡ as_table d
    → IsExtendedBy (λ row. (row.0 ≡ c) × HasMerchant ms row.1 row.2 row.3) before after
    → IsExtendedBy (λ row. (row.0 ≡ name) × GivesRight d row.1 row.2 row.3) before after
caller-rows c name d ms before after same is rows =
    let kind = as-table d ms is in
    extended-same _ _ before after rows
    (λ row. (
      λ p. (p.0 ∙ same, (ms, kind, p.1)),
      λ r.
          let (other, kinds, has) = r.1 in
          let level : other ≡ ms = cc in
          (r.0 ∙ sym same, subst (λ t. HasMerchant t row.1 row.2 row.3) level has),
    ))
