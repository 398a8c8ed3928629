-- Where the bytes of a kept text are.
use Rattle.std.specs.Prelude.{ℕ, List, string_bytes}
use Rattle.sql_tables.specs.declared.text.Place.{Place}
use Rattle.sql_tables.specs.declared.text.Place.TheVariants.{Here, Apart}

-- the bytes that are there
abbrev pub bytes_at : Place → List ℕ
bytes_at (Here bytes) = bytes
bytes_at (Apart text) = string_bytes text.value
