-- What the rows of a database determine.
use Rattle.std.specs.Prelude.{◌≡◌}
use Rattle.sqlite.specs.Tree.{Trees}
use Rattle.vault_core.specs.Vault.{Vault}
use Rattle.vault_schema.specs.Stands.{lookups_of}
use Rattle.vault_schema.specs.Versions.{Stand}
use Rattle.vault_schema.specs.declared.version.Version.{Version}

-- in each version, the rows of a database stand for one vault at most
abbrev pub RowsStandForOne : Type 0
RowsStandForOne =
    (v : Version) (db : Trees) (V W : Vault) → Stand v db (lookups_of V) → Stand v db (lookups_of W) → V ≡ W
