-- The rows that stand for a vault.
use Rattle.std.specs.FinMap as map
use Rattle.std.specs.Option.{option_map_or}
use Rattle.std.specs.Prelude.{ℕ, ◌==◌, List, Option, Some, None, option_map, if◌then◌else◌}
use Rattle.sqlite.specs.Tree.{Trees}
use Rattle.sql_tables.specs.States.{Claim}
use Rattle.vault_core.specs.Keys.{Bytes}
use Rattle.vault_core.specs.Lives.{lives_in}
use Rattle.vault_core.specs.Vault.{Vault, Merchant, merchant_at, made_count}
use Rattle.vault_schema.specs.Versions.{Lookups, StandJoined, Tables, claims_of}
pub use Rattle.vault_schema.specs.Versions.{newest}

-- how many tokens a merchant has (1), and how often a number was given (2) or denied (3)
abbrev pub count_at : Vault → Bytes → ℕ → ℕ
count_at V m kind =
    if kind == 1 then made_count V m
    else if kind == 2 then option_map_or (λ (merchant : Merchant). merchant.given) (merchant_at V m) 0
    else if kind == 3 then option_map_or (λ (merchant : Merchant). merchant.denied) (merchant_at V m) 0
    else 0

-- a count of 0 has no row
abbrev pub unless_zero : ℕ → Option ℕ
unless_zero n = if n == 0 then None else Some n

-- what a vault has at each key
abbrev pub lookups_of : Vault → Lookups
lookups_of V = record {
  merchants = λ m. option_map lives_in (merchant_at V m);
  counts = λ key. unless_zero (count_at V key.0 key.1);
  entries = map.get V.entries;
  records = map.get V.records;
  rights = map.get V.rights;
}

-- what is said of the rows of its tables
abbrev pub newest_claims : Tables → List Claim
newest_claims t = claims_of newest t

-- the rows of the tables are those of the vault
abbrev pub Stands : Trees → Vault → Type 0
Stands db V = StandJoined newest db (lookups_of V)
