-- The rows of a database tell each part of the vault that they stand for.
use Rattle.std.proofs.Common.{◌≡◌, ℕ, Option, Ordering}
use Rattle.std.proofs.Common.{option_map, arith}
use Rattle.std.specs.FinMap as map
use Rattle.std.specs.Option.{option_map_or}
use Rattle.sqlite.specs.Order.{Row}
use Rattle.sqlite.specs.Tree.{Trees}
use Rattle.sql_tables.proofs.ByKey.{Coding}
use Rattle.vault_core.specs.Keys.{Bytes}
use Rattle.vault_core.specs.Vault.{Vault, Merchant, merchant_at}
use Rattle.vault_core.specs.declared.right.Right.{Right}
use Rattle.vault_verdict.proofs.Sources.{same_count}
use Rattle.vault_schema.proofs.EntryCodes.{entry_coding}
use Rattle.vault_schema.proofs.RecordCodes.{record_coding}
use Rattle.vault_schema.proofs.MerchantCodes.{merchant_coding}
use Rattle.vault_schema.proofs.RightCodes.{right_coding}
use Rattle.vault_schema.specs.Versions.{Stand}
use Rattle.vault_schema.specs.declared.version.Version.{Version}
use Rattle.vault_steps.proofs.PartsByVersion.{one_stand}
use Rattle.vault_core.specs.Lives.{lives_in}
use Rattle.vault_schema.specs.Stands.{count_at, lookups_of}

-- two maps whose keys rows tell are one, where they have the same at each key
one_map : {K X Y : Type 0} {cmp : K → K → Ordering} {row : K → X → Row} (c : Coding cmp row)
    (a b : map.FinMap cmp Y) → ((key : K) → map.get a key ≡ map.get b key) → a ≡ b
one_map c a b same = map.same_map c.total c.exact a b same

-- a merchant is its lives, its moment and its counts
same_merchant : (a b : Option Merchant) → option_map lives_in a ≡ option_map lives_in b
    → option_map_or (λ (x : Merchant). x.given) a 0 ≡ option_map_or (λ (x : Merchant). x.given) b 0
    → option_map_or (λ (x : Merchant). x.denied) a 0 ≡ option_map_or (λ (x : Merchant). x.denied) b 0 → a ≡ b
same_merchant a b lives given denied = grind arith

-- two vaults with the same at each key are one
module _ (V W : Vault) (merchants : (m : Bytes) → (lookups_of V).merchants m ≡ (lookups_of W).merchants m)
    (counts : (key : Bytes × ℕ) → (lookups_of V).counts key ≡ (lookups_of W).counts key)
    (entries : (key : Bytes × Bytes) → (lookups_of V).entries key ≡ (lookups_of W).entries key)
    (records : (key : Bytes × ℕ) → (lookups_of V).records key ≡ (lookups_of W).records key)
    (rights : (key : Bytes × (Bytes × Right)) → (lookups_of V).rights key ≡ (lookups_of W).rights key)
  where
    counts_same : (m : Bytes) (kind : ℕ) → count_at V m kind ≡ count_at W m kind
    counts_same m kind = same_count _ _ (counts (m, kind))

    merchants_same : (m : Bytes) → merchant_at V m ≡ merchant_at W m
    merchants_same m = same_merchant _ _ (merchants m) (counts_same m 2) (counts_same m 3)

    same_vault : V ≡ W
    same_vault =
        let all_merchants = one_map merchant_coding _ _ merchants_same in
        let all_entries = one_map entry_coding _ _ entries in
        let all_records = one_map record_coding _ _ records in
        let all_rights = one_map right_coding _ _ rights in
        λ i. record {
          merchants = all_merchants i;
          entries = all_entries i;
          records = all_records i;
          rights = all_rights i;
        }

-- so the rows of a database stand for one vault at most
pub one_vault : (v : Version) (db : Trees) (V W : Vault) → Stand v db (lookups_of V)
    → Stand v db (lookups_of W) → V ≡ W
one_vault v db V W one other =
    let same = one_stand v db (lookups_of V) (lookups_of W) one other in
    same_vault V W (λ m i. (same i).merchants m) (λ key i. (same i).counts key)
    (λ key i. (same i).entries key)
    (λ key i. (same i).records key) (λ key i. (same i).rights key)
