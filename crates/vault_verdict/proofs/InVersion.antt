-- No index of a later table guards the key of an earlier one, and each version's schema has a version.
use Rattle.std.proofs.Common.{◌≡◌, refl, subst, sym}
use Rattle.sqlite.specs.Schema.{Schema}
use Rattle.sql_tables.specs.Schema.{columns_to}
use Rattle.vault_schema.proofs.TablesBehind.{behind, has_version, indexes_behind}
use Rattle.vault_schema.proofs.Layers.{free_in}
use Rattle.vault_schema.specs.Counts.{counts}
use Rattle.vault_schema.specs.Records.{records}
use Rattle.vault_schema.specs.Versioned.{HasVersion}
use Rattle.vault_schema.specs.Versions.{schema_of, second_layers}
use Rattle.vault_schema.specs.declared.version.Version.{Version}
use Rattle.vault_verdict.proofs.Tables.{IsFree}

module _ (v : Version) where
  pub counts_free : IsFree (behind v) (indexes_behind v) counts 2
  counts_free = free_in v counts (columns_to 2) second_layers refl

  pub records_free : IsFree (behind v) (indexes_behind v) records 2
  records_free = free_in v records (columns_to 2) second_layers refl

pub has_version_in : (v : Version) (s : Schema) → s ≡ schema_of v → HasVersion s
has_version_in v s ours = subst HasVersion (sym ours) (has_version v)
