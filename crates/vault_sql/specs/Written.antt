-- What changes make of the lookups.
use Rattle.std.specs.Prelude.{ℕ, Option, Some, None}
use Rattle.vault_core.specs.Keys.{Bytes, bytes_cmp, entry_cmp, record_cmp, right_cmp}
use Rattle.vault_core.specs.Numbers.{count_number}
use Rattle.vault_core.specs.declared.changes.Changes.{Changes}
use Rattle.vault_core.specs.declared.changes.Count.{Count}
use Rattle.vault_core.specs.declared.right.Right.{Right}
use Rattle.vault_core.specs.declared.row.Entry.{Entry}
use Rattle.vault_core.specs.declared.row.GrantRow.{GrantRow}
use Rattle.vault_core.specs.declared.row.Lives.{Lives}
use Rattle.vault_core.specs.declared.row.Record.{Record}
use Rattle.sql_tables.specs.Rows.{put}
use Rattle.vault_schema.specs.Versions.{Lookups}
use Rattle.vault_tables.specs.Raising.{HasRoomAt, raise_at}

-- the merchants with the lives that change
abbrev pub put_lives : (Bytes → Option Lives) → Option (Bytes × Lives) → Bytes → Option Lives
put_lives held None = held
put_lives held (Some x) = put bytes_cmp held x.0 (Some x.1)

-- the count of the merchant whose lives are written goes up by one
abbrev pub raise : (Bytes × ℕ → Option ℕ) → Option (Bytes × Lives) → Option Count → Bytes × ℕ → Option ℕ
raise held None count = held
raise held (Some x) None = held
raise held (Some x) (Some count) = raise_at held (x.0, count_number count)

-- the entries with the one that changes
abbrev pub put_entry : (Bytes × Bytes → Option Entry) → Option (Bytes × Bytes × Entry) → Bytes × Bytes
    → Option Entry
put_entry held None = held
put_entry held (Some x) = put entry_cmp held (x.0, x.1) (Some x.2)

-- the records with the one that comes
abbrev pub put_record : (Bytes × ℕ → Option Record) → Option (Bytes × ℕ × Record) → Bytes × ℕ → Option Record
put_record held None = held
put_record held (Some x) = put record_cmp held (x.0, x.1) (Some x.2)

-- the rights with the one that is given, or without the one that is taken
abbrev pub put_right : (Bytes × (Bytes × Right) → Option GrantRow)
    → Option (Bytes × Bytes × Right × Option GrantRow) → Bytes × (Bytes × Right) → Option GrantRow
put_right held None = held
put_right held (Some x) = put right_cmp held (x.0, (x.1, x.2)) x.3

-- the counts with the one that goes up
abbrev pub with_count : Lookups → Option (Bytes × Lives) → Option Count → Lookups
with_count h lives count = record h { counts = raise h.counts lives count }

-- the tables of merchants with their changes, and those of callers
abbrev pub with_merchant : Lookups → Changes → Lookups
with_merchant h ch = record h {
  merchants = put_lives h.merchants ch.lives;
  counts = raise h.counts ch.lives ch.count;
  entries = put_entry h.entries ch.entry;
}

abbrev pub with_caller : Lookups → Changes → Lookups
with_caller h ch =
    record h { records = put_record h.records ch.recorded; rights = put_right h.rights ch.right }

-- each table with its change
abbrev pub written : Lookups → Changes → Lookups
written h ch = with_caller (with_merchant h ch) ch

-- the count that goes up has room
abbrev pub HasRoom : (Bytes × ℕ → Option ℕ) → Option (Bytes × Lives) → Option Count → Type 0
HasRoom held None count = Unit {0}
HasRoom held (Some x) None = Unit {0}
HasRoom held (Some x) (Some count) = HasRoomAt held (x.0, count_number count)
