-- What takes rows, and what it took.
use Rattle.std.specs.Prelude.{List}
use Rattle.vault_rules.specs.AllRows.{Rows}
use Rattle.vault_rules.specs.Seen.{HasRows}
use Rattle.vault_rules.specs.declared.rows.RawVersion.{RawVersion}
use Rattle.vault_verdict.specs.declared.behind.Behind.{Behind}

-- the rows of all tables were taken, these of `vault` beside them
abbrev pub HasJudged : Rows → List RawVersion → Behind → Type 0
HasJudged rows versions behind = HasRows rows versions behind.replaced behind.records behind.rights.items
