-- How much a vault holds.
use Rattle.std.specs.Prelude.{length}
use Rattle.std.specs.FinMap as map
use Rattle.vault_core.specs.Vault.{Vault}
use Rattle.vault_verdict.specs.declared.sizes.Sizes.{Sizes}
use Rattle.vault_rules.specs.AllRows.{Rows}
use Rattle.vault_rules.specs.declared.records.Records.{Records}

-- how many rows there are
abbrev pub counts_of : Rows → Sizes
counts_of rows = record {
  merchants = length rows.merchants;
  entries = length rows.entries;
  records = length rows.records;
}

-- how many rows came
abbrev pub counted_in : Records → Sizes
counted_in it = record {
  merchants = length it.entries.index.merchants.now;
  entries = it.entries.many;
  records = it.many;
}

-- how many merchants, entries and records a vault has
abbrev pub sizes_of : Vault → Sizes
sizes_of V =
    record { merchants = map.len V.merchants; entries = map.len V.entries; records = map.len V.records }
