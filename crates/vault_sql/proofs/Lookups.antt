-- What each query shows of a vault: exactly what it has, or nothing.
use Rattle.std.proofs.Common.{◌≡◌, ℕ, ℤ, List, [], ◌∷◌, is_eq}
use Rattle.std.proofs.Common.{Option, Some, None, option_map, refl, sym, ap, ◌∙◌, arith, inl}
use Rattle.std.proofs.Common.{inr, max}
use Rattle.std.proofs.lemmas.Bool.Decides.{nat_tests}
use Rattle.std.specs.FinMap as map
use Rattle.std.specs.List.{list_all}
use Rattle.std.specs.Option.{option_map_or}
use Rattle.sqlite.specs.Term.{holds}
use Rattle.sqlite.specs.declared.types.Value.TheVariants.{Int, Text}
use Rattle.std.specs.Cmp.{tied_itself}
use Rattle.vault_schema.proofs.Newest.{behind_first, indexes_behind_first, count_table}
use Rattle.vault_schema.proofs.MerchantCodes.{merchant_coding}
use Rattle.vault_schema.proofs.Newest.{merchants_held}
use Rattle.vault_core.proofs.Maps.{bytes_exact, bytes_total}
use Rattle.vault_core.specs.Keys.{Bytes, bytes_cmp}
use Rattle.vault_core.specs.Sound.{Sound}
use Rattle.vault_core.specs.Vault.{Vault, Merchant, merchant_at, time_at}
use Rattle.vault_core.specs.Window.{moment_at, row_at, row_of}
use Rattle.sqlite.specs.Order.{Row, column}
use Rattle.sqlite.specs.State.{State, Shown}
use Rattle.sql_tables.specs.States.{Stands}
use Rattle.sql_tables.specs.Texts.{by_key}
use Rattle.sql_tables.proofs.KeyTests.{text_eq, and_true, equal_is}
use Rattle.sql_tables.proofs.Reading.{how_many, shown_are}
use Rattle.vault_schema.specs.Stands.{newest_claims}
use Rattle.vault_schema.specs.declared.rows.Card.{Card}
use Rattle.vault_schema.specs.declared.rows.Pointing.{Pointing}
use Rattle.vault_schema.specs.Values.{number_column}
use Rattle.vault_schema.specs.Counts.{count_row}
use Rattle.vault_tables.specs.declared.counts.TheConstants.{FIND_COUNTS}
use Rattle.vault_tables.specs.MerchantTexts.{how_many_is}
use Rattle.vault_tables.specs.declared.merchants.TheConstants.{COUNT_MERCHANTS}
use Rattle.vault_tables.specs.CountTexts.{counts_is}
use Rattle.vault_schema.specs.Schema.{newest_schema}
use Rattle.vault_sql.specs.Counts.{count_columns, ShowsCounts, IsTotalOf}
use Rattle.vault_core.specs.Lives.{counted_row, lives_in}
use Rattle.vault_schema.specs.Stands.{count_at, unless_zero, lookups_of}
use Rattle.vault_schema.specs.Merchants.{merchants as newest_merchants}
use Rattle.vault_schema.specs.Versions.{tables_of}
use Rattle.vault_core.proofs.Finds.{some_same}
use Rattle.vault_core.specs.declared.row.Lives.{Lives}

-- the rows of a query of this vault
module _ (old new : State) (V : Vault) (cards : ℤ → Option Card) (pointing : Bytes × Bytes → Option Pointing)
    (it : Stands newest_schema (newest_claims (tables_of (lookups_of V) cards pointing)) old.now)
    (rows : List Row)
  where
    pub shows_counts : (m : Bytes) → Shown FIND_COUNTS.now (Text m ∷ []) old new rows → ShowsCounts rows V m
    shows_counts m shown =
        let it = shown_are old new it _ _ rows shown count_table (lookups_of V).counts (λ are. are)
        _ _ _ (counts_is behind_first indexes_behind_first) (λ q y. is_eq (bytes_cmp q.0 m)) passes
        (λ q y. count_columns q.1 y)
        (λ n q y. refl) in
        record {
          sound = λ r there.
              let row = it.0 r there in
              let same : row.0.0 ≡ m = bytes_exact row.0.0 m (equal_is _ row.3) in
              (row.0.1, row.1, row.4, ap (λ k. unless_zero (count_at V k row.0.1)) (sym same) ∙ row.2);
          complete = λ kind total is. it.1 (m, kind) total is (ap is_eq (tied_itself bytes_total m));
        }
      where
        -- each count of the merchant passes, whatever its kind
        passes : (n : ℤ) (q : Bytes × ℕ) (y : ℕ)
            → list_all (holds ((Text m ∷ []) ∷ (Int n ∷ count_row q y) ∷ [])) (by_key 1) ≡ is_eq
            (bytes_cmp q.0 m)
        passes n q y = rw (text_eq q.0 m) (and_true _)

    pub shows_how_many : Shown COUNT_MERCHANTS.now [] old new rows → Sound V
        → rows ≡ number_column (map.len V.merchants) ∷ []
    shows_how_many shown sound =
        how_many old new it.schema newest_merchants.tree how_many_is shown merchant_coding lives_in
        V.merchants (merchants_held _ old.now.trees it.rows) (omega (arith, sound.few))

-- ---- the row of a merchant, put together from its own table and its counts

-- a count that is shown is the count, and one that isn't is 0
shown_or_zero : (n : ℕ) → ((total : ℕ) → unless_zero n ≡ Some total → total ≡ n)
    × (((total : ℕ) → unless_zero n ≡ Some total → ⊥) → 0 ≡ n)
shown_or_zero n =
    (λ total is. grind (arith, nat_tests), λ none. let some = none n in grind (arith, nat_tests, some))

-- the total of a kind among the rows of a merchant's counts is its count of that kind
pub total_is : (V : Vault) (m : Bytes) (rows : List Row) (kind total : ℕ) → ShowsCounts rows V m
    → IsTotalOf kind rows total → total ≡ count_at V m kind
total_is V m rows kind total shows (inl it) =
    let row = shows.sound it.0 it.1 in
    let same_kind : row.0 ≡ kind = (let e = sym (ap (λ r. column r 0) row.2) ∙ it.2 in cc) in
    let same_total : row.1 ≡ total = (let e = sym (ap (λ r. column r 1) row.2) ∙ it.3 in cc) in
    (shown_or_zero (count_at V m kind)).0 total
    (sym (ap (λ k. unless_zero (count_at V m k)) same_kind) ∙ row.3 ∙ ap (λ n. Some n) same_total)
total_is V m rows kind total shows (inr none) =
    none.0 ∙ (shown_or_zero (count_at V m kind)).1 (λ n is. none.1 _ (shows.complete kind n is) refl)

pub row_is : (V : Vault) (m : Bytes) (x : Lives) → Some x ≡ option_map lives_in (merchant_at V m)
    → (one two three : ℕ)
    → one ≡ count_at V m 1 → two ≡ count_at V m 2 → three ≡ count_at V m 3
    → Some (counted_row x one two three) ≡ row_at V m
row_is V m x is one two three e f g = go (merchant_at V m) refl
  where
    go : (o : Option Merchant) → merchant_at V m ≡ o → Some (counted_row x one two three) ≡ row_at V m
    go None none = let clash = is ∙ ap (option_map lives_in) none in cc
    go (Some merchant) known =
        let same : x ≡ lives_in merchant = some_same (is ∙ ap (option_map lives_in) known) in
        let given : two ≡ merchant.given = f
        ∙ ap (λ (o : Option Merchant). option_map_or (λ (y : Merchant). y.given) o 0) known in
        let denied : three ≡ merchant.denied = g
        ∙ ap (λ (o : Option Merchant). option_map_or (λ (y : Merchant). y.denied) o 0) known in
        (λ i. Some (counted_row (same i) (e i) (given i) (denied i)))
        ∙ sym (ap (option_map (row_of V m)) known)

-- where no lives are there, there is no row
pub no_row : (V : Vault) (m : Bytes) (found : Option Lives) → found ≡ option_map lives_in (merchant_at V m)
    → found ≡ None → None ≡ row_at V m
no_row V m found is none = grind arith

-- the moment of a command is that of the merchant's lives or later
pub moment_some : (V : Vault) (m : Bytes) (now : ℕ) (x : Lives)
    → Some x ≡ option_map lives_in (merchant_at V m)
    → max x.moment now ≡ moment_at V m now
moment_some V m now x is = go (merchant_at V m) is
  where
    go : (o : Option Merchant) → Some x ≡ option_map lives_in o
        → max x.moment now ≡ option_map_or (λ (merchant : Merchant). time_at merchant now) o now
    go None is = cc
    go (Some merchant) is = ap (λ (lives : Lives). max lives.moment now) (some_same is)

pub moment_none : (V : Vault) (m : Bytes) (now : ℕ) → None ≡ option_map lives_in (merchant_at V m)
    → now ≡ moment_at V m now
moment_none V m now is = go (merchant_at V m) is
  where
    go : (o : Option Merchant) → None ≡ option_map lives_in o
        → now ≡ option_map_or (λ (merchant : Merchant). time_at merchant now) o now
    go None is = refl
    go (Some merchant) is = cc
