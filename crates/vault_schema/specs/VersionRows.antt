-- The rows of the table of the version.
use Rattle.std.specs.Prelude.{[], ◌∷◌, ℕ, Some, codes, ◌≡◌, pos}
use Rattle.sqlite.specs.Kind.TheVariants.{Integer}
use Rattle.sqlite.specs.declared.types.Value.TheVariants.{Int, Null}
use Rattle.sql_tables.specs.Schema.{Descriptor, present, optional}
use Rattle.sql_tables.specs.States.{Claim}

-- the version, in the row with the id 1; the id stands in the rowid
abbrev pub vault : Descriptor
vault = record {
  name = codes "vault";
  tree = 0;
  columns = optional (codes "id") Integer ∷ present (codes "version") Integer ∷ [];
  rowid = Some 0;
  primary = 0 ∷ [];
  uniques = [];
}

-- the one row of `vault` has this version
abbrev pub IsVersion : ℕ → Claim
IsVersion n rows = rows ≡ (Int (pos 1) ∷ Null ∷ Int (pos n) ∷ []) ∷ []
