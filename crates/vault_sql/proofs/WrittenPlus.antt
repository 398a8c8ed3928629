-- The lookups that changes write are those of the vault with the changes.
use Rattle.std.proofs.Common.{◌≡◌, ℕ, ◌+◌, ◌≤◌, ◌==◌, true, cond, ◌&&◌, is_eq, Option, Some}
use Rattle.std.proofs.Common.{None, option_map, refl, sym, ap, ◌∙◌, arith, if◌then◌else◌, nat_cmp}
use Rattle.std.proofs.lemmas.Bool.Decides.{nat_tests}
use Rattle.std.specs.FinMap as map
use Rattle.std.specs.Option.{option_map_or}
use Rattle.std.specs.Ordering.{eq_by_cmp}
use Rattle.vault_core.proofs.Maps.{bytes_total, bytes_exact, entry_total, record_total, right_total}
use Rattle.vault_core.specs.Changes.{Fit, plus, with_merchant, merchant_with, merchant_with_count}
use Rattle.vault_core.specs.Changes.{with_entry, with_record}
use Rattle.vault_core.specs.Changes.{with_right, made_raised}
use Rattle.vault_core.specs.Keys.{Bytes, bytes_cmp, entry_cmp, record_cmp, right_cmp}
use Rattle.vault_core.specs.Sound.{Sound}
use Rattle.vault_core.specs.Vault.{Vault, Merchant, merchant_at, made_count}
use Rattle.vault_core.specs.declared.changes.Changes.{Changes}
use Rattle.vault_core.specs.declared.changes.Count.{Count}
use Rattle.vault_core.specs.declared.changes.Count.TheVariants.{Made, Given, Denied}
use Rattle.vault_core.specs.declared.right.Right.{Right}
use Rattle.vault_core.specs.declared.row.Entry.{Entry}
use Rattle.vault_core.specs.declared.row.GrantRow.{GrantRow}
use Rattle.vault_core.specs.declared.row.Lives.{Lives}
use Rattle.vault_core.specs.declared.row.Record.{Record}
use Rattle.vault_store.proofs.MadeLemmas.{one_at, made-plus}
use Rattle.vault_core.specs.Lives.{lives_in}
use Rattle.vault_schema.specs.Stands.{count_at, unless_zero, lookups_of}
use Rattle.sql_tables.specs.Rows.{put}
use Rattle.vault_core.specs.Numbers.{count_number}
use Rattle.vault_sql.specs.Written.{put_lives, raise, put_entry, put_record, put_right, written}
use Rattle.vault_sql.specs.Written.{HasRoom}
use Rattle.sql_tables.proofs.KeyTests.{equal_is, then_eq}

-- ---- merchants and their counts

-- what a merchant's table has at a key, with the change
found_plus : (merchants : map.FinMap bytes_cmp Merchant) (count : Option Count) (x : Bytes × Lives)
    (q : Bytes)
    → map.get (with_merchant merchants count (Some x)) q
    ≡ cond (eq_by_cmp bytes_cmp q x.0)
    (Some (merchant_with_count count (merchant_with x.1 (map.get merchants q))))
    (map.get merchants q)
found_plus merchants count x q =
    let same : is_eq (bytes_cmp q x.0) ≡ true → q ≡ x.0 =
    λ e. bytes_exact q x.0 (equal_is _ e) in
    rw (map.get-insert bytes_total merchants x.0
    (merchant_with_count count (merchant_with x.1 (map.get merchants x.0))) q) (grind (arith, same))

merchants_plus : (merchants : map.FinMap bytes_cmp Merchant) (count : Option Count)
    (lives : Option (Bytes × Lives)) (q : Bytes)
    → put_lives (λ m. option_map lives_in (map.get merchants m)) lives q ≡ option_map lives_in
    (map.get (with_merchant merchants count lives) q)
merchants_plus merchants count None q = refl
merchants_plus merchants count (Some x) q = rw (found_plus merchants count x q) (grind arith)

-- by how much a count of this kind goes up at a merchant
abbrev up_at : Option (Bytes × Lives) → Option Count → Bytes → ℕ → ℕ
up_at None count q kind = 0
up_at (Some x) None q kind = 0
up_at (Some x) (Some count) q kind =
    cond (eq_by_cmp bytes_cmp q x.0 && is_eq (nat_cmp kind (count_number count))) 1 0

-- a count in the table goes up where the number does
raise_is : (n : Bytes × ℕ → ℕ) (lives : Option (Bytes × Lives)) (count : Option Count) (q : Bytes) (kind : ℕ)
    → raise (λ key. unless_zero (n key)) lives count (q, kind) ≡ unless_zero
    (n (q, kind) + up_at lives count q kind)
raise_is n None count q kind = grind arith
raise_is n (Some x) None q kind = grind arith
raise_is n (Some x) (Some count) q kind =
    let same : is_eq (bytes_cmp q x.0) ≡ true → q ≡ x.0 =
    λ e. bytes_exact q x.0 (equal_is _ e) in
    let kinds : is_eq (nat_cmp kind (count_number count)) ≡ true → kind ≡ count_number count =
    λ e. map.nat_cmp-IsAntisymmetric kind (count_number count) (equal_is _ e) in
    rw (then_eq (bytes_cmp q x.0) (nat_cmp kind (count_number count)))
    (grind (arith, nat_tests, same, kinds))

-- the count of a kind, of tokens that were made and of a merchant
abbrev count_in : ℕ → Option Merchant → ℕ → ℕ
count_in made_count o kind =
    if kind == 1 then made_count
    else if kind == 2 then option_map_or (λ (merchant : Merchant). merchant.given) o 0
    else if kind == 3 then option_map_or (λ (merchant : Merchant). merchant.denied) o 0
    else 0

count_raised : (merchants : map.FinMap bytes_cmp Merchant) (lives : Option (Bytes × Lives))
    (count : Option Count) (q : Bytes) (kind was now : ℕ) → now ≡ was + one_at (made_raised count lives) q
    → count_in now (map.get (with_merchant merchants count lives) q) kind ≡ count_in was
    (map.get merchants q) kind + up_at lives count q kind
count_raised merchants None count q kind was now h = grind (arith, nat_tests)
count_raised merchants (Some x) count q kind was now h =
    rw (found_plus merchants count x q) (grind (arith, nat_tests))

counts_plus : (V : Vault) (ch : Changes) → Fit V ch → (key : Bytes × ℕ)
    → raise (lookups_of V).counts ch.lives ch.count key ≡ (lookups_of (plus V ch)).counts key
counts_plus V ch fit key =
    raise_is (λ k. count_at V k.0 k.1) ch.lives ch.count key.0 key.1
    ∙ ap unless_zero (sym (count_raised V.merchants ch.lives ch.count key.0 key.1 (made_count V key.0)
    (made_count (plus V ch) key.0) (made-plus V ch fit key.0)))

-- ---- the other tables

entries_plus : (entries : map.FinMap entry_cmp Entry) (change : Option (Bytes × Bytes × Entry))
    (q : Bytes × Bytes) → put_entry (map.get entries) change q ≡ map.get (with_entry entries change) q
entries_plus entries None q = refl
entries_plus entries (Some x) q = sym (map.get-insert entry_total entries (x.0, x.1) x.2 q)

records_plus : (records : map.FinMap record_cmp Record) (change : Option (Bytes × ℕ × Record)) (q : Bytes × ℕ)
    → put_record (map.get records) change q ≡ map.get (with_record records change) q
records_plus records None q = refl
records_plus records (Some x) q = sym (map.get-insert record_total records (x.0, x.1) x.2 q)

rights_plus : (rights : map.FinMap right_cmp GrantRow)
    (change : Option (Bytes × Bytes × Right × Option GrantRow)) (q : Bytes × (Bytes × Right))
    → put_right (map.get rights) change q ≡ map.get (with_right rights change) q
rights_plus rights None q = refl
rights_plus rights (Some x) q = put_is x.3
  where
    key : Bytes × (Bytes × Right)
    key = (x.0, (x.1, x.2))

    put_is : (o : Option GrantRow)
        → put right_cmp (map.get rights) key o q
        ≡ map.get (option_map_or (map.insert rights key) o (map.remove rights key)) q
    put_is None = sym (map.get-remove right_total rights key q)
    put_is (Some g) = sym (map.get-insert right_total rights key g q)

pub written_plus : (V : Vault) (ch : Changes) → Fit V ch → written (lookups_of V) ch ≡ lookups_of (plus V ch)
written_plus V ch fit = λ i. record {
  merchants = λ m. merchants_plus V.merchants ch.count ch.lives m i;
  counts = λ key. counts_plus V ch fit key i;
  entries = λ key. entries_plus V.entries ch.entry key i;
  records = λ key. records_plus V.records ch.recorded key i;
  rights = λ key. rights_plus V.rights ch.right key i;
}

-- the counts of a sound vault can go up
pub has_room : (V : Vault) → Sound V → (lives : Option (Bytes × Lives)) (count : Option Count)
    → HasRoom (lookups_of V).counts lives count
has_room V sound None count = tt
has_room V sound (Some x) None = tt
has_room V sound (Some x) (Some count) = let few = below count in grind (arith, nat_tests)
  where
    bounded : (o : Option Merchant) → merchant_at V x.0 ≡ o
        → (option_map_or (λ (merchant : Merchant). merchant.given) o 0 ≤ 4611686018427387903)
        × (option_map_or (λ (merchant : Merchant). merchant.denied) o 0 ≤ 4611686018427387903)
    bounded None is = (omega arith, omega arith)
    bounded (Some merchant) is =
        let it = sound.merchants x.0 merchant is in (it.given, it.denied)

    below : (count : Count) → count_at V x.0 (count_number count) ≤ 4611686018427387903
    below Made = let few = sound.made_few x.0 in omega (arith, few)
    below Given = (bounded (merchant_at V x.0) refl).0
    below Denied = (bounded (merchant_at V x.0) refl).1
