-- Why the files at a path aren't opened.
use Rattle.sqlite.specs.declared.error.Error.{Error}
use Rattle.sqlite.specs.declared.error.Error.TheVariants.{SqliteFailure}
use Rattle.sqlite.specs.declared.error.ErrorCode.TheVariants.{NotADatabase, DatabaseCorrupt, OutOfMemory}
use Rattle.sqlite.specs.declared.error.ErrorCode.TheVariants.{DatabaseBusy}
use Rattle.vault_recover.specs.declared.unopened.Unopened.{Unopened}
use Rattle.vault_recover.specs.declared.unopened.Unopened.TheVariants.{Damaged, Elsewhere, Host, Memory}

-- what an error of the database says of the files
abbrev pub cause_of : Error → Unopened
cause_of (SqliteFailure NotADatabase) = Damaged
cause_of (SqliteFailure DatabaseCorrupt) = Damaged
cause_of (SqliteFailure OutOfMemory) = Memory
cause_of (SqliteFailure DatabaseBusy) = Elsewhere
cause_of _ = Host
