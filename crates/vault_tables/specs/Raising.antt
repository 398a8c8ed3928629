-- How a count goes up.
use Rattle.std.specs.Prelude.{ℕ, ◌≡◌, ◌↔◌, ◌<◌, ◌^◌, ◌+◌, Bool, Option, Some, IsSome, IsTrue, unwrap_or}
use Rattle.std.specs.Prelude.{if◌then◌else◌}
use Rattle.sql_tables.specs.Rows.{put}
use Rattle.vault_core.specs.Keys.{Bytes, record_cmp}
use Rattle.vault_schema.specs.Versions.{Lookups, Tables}

-- a count that has no row is 0
abbrev pub raise_at : (Bytes × ℕ → Option ℕ) → Bytes × ℕ → Bytes × ℕ → Option ℕ
raise_at held key = put record_cmp held key (Some (unwrap_or (held key) 0 + 1))

-- the lookups, and the tables, where it has gone up by one
abbrev pub raised_lookups : Lookups → Bytes × ℕ → Lookups
raised_lookups h key = record h { counts = raise_at h.counts key }

abbrev pub raised_tables : Tables → Bytes × ℕ → Tables
raised_tables t key = record t { counts = raise_at t.counts key }

-- a count is below what a column holds
abbrev pub HasRoomAt : (Bytes × ℕ → Option ℕ) → Bytes × ℕ → Type 0
HasRoomAt held key = unwrap_or (held key) 0 + 1 < 2 ^ 63

-- a count has this total
abbrev pub IsTotal : (Bytes × ℕ → Option ℕ) → Bytes × ℕ → ℕ → Type 0
IsTotal held key total = unwrap_or (held key) 0 ≡ total

-- a count that has a row has gone up by one, and one that has none was left without
pub record IsRaised (has : Bool) (old new : Tables) (key : Bytes × ℕ) : Type 0 where
  pub told : IsTrue has ↔ IsSome (old.counts key)
  pub after : new ≡ (if has then raised_tables old key else old)
