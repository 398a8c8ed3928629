-- The version that rows of `vault` say.
use Rattle.std.specs.Prelude.{ℤ, pos, ◌&&◌, not, Bool, List, Option, option_map}
use Rattle.std.specs.List.{find}
use Rattle.std.specs.Ordering.{int_eq}
use Rattle.vault_rules.specs.declared.rows.RawVersion.{RawVersion}
use Rattle.vault_schema.specs.Stands.{newest}
use Rattle.vault_schema.specs.Versions.{number_of}

-- the row with the id 1, which says another version than this one
abbrev pub is_other : ℤ → RawVersion → Bool
is_other version v = int_eq v.id (pos 1) && not (int_eq v.version version)

-- the version that it says
abbrev pub other_than : ℤ → List RawVersion → Option ℤ
other_than version versions = option_map (λ v. v.version) (find (is_other version) versions)

-- another version than the newest one
abbrev pub other_version : List RawVersion → Option ℤ
other_version versions = other_than (number_of newest) versions
