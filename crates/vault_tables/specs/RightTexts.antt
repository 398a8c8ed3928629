-- What the texts of rights mean, and how each version of the table is read whole.
use Rattle.std.specs.Prelude.{◌++◌, [], ◌∷◌, refl, string_bytes}
use Rattle.sqlite.specs.Listing.{understood}
use Rattle.sqlite.specs.Order.{Row}
use Rattle.sqlite.specs.Term.{col}
use Rattle.sqlite.specs.declared.types.Value.TheVariants.{Int, Null, Text}
use Rattle.sqlite_tied.specs.Compute.{everything}
use Rattle.sql_tables.proofs.ConstantColumns.{constants, filled}
use Rattle.sql_tables.proofs.Scans.{columns_of, filled_scan, long_scan}
use Rattle.sql_tables.specs.Keyed.{finding, putting, taking}
use Rattle.sql_tables.specs.Scans.{IdScan, Scan, ScansTree}
use Rattle.sql_tables.specs.Texts.{IsQuery, IsWrite, ordered_by, sorted_of}
use Rattle.sql_tables.specs.Values.{int_value}
use Rattle.vault_rules.specs.declared.rows.RawRight.{RawRight}
use Rattle.vault_schema.specs.Rights.{old_rights, rights}
use Rattle.vault_schema.specs.Schema.{newest_schema}
use Rattle.vault_schema.specs.Schemas.{v1, v4}
use Rattle.vault_tables.specs.declared.rights.TheConstants.{FIND_RIGHT, GIVE_RIGHT, READ_RIGHTS, TAKE_RIGHT}
use Rattle.vault_tables.specs.declared.rights.old.TheConstants.{READ_OLD_RIGHTS, READ_RIGHT_IDS}

-- a row of `rights4`, with its rowid in front
abbrev pub right_values : RawRight → Row
right_values r =
    Int r.rowid ∷ Text (string_bytes r.caller) ∷ Text (string_bytes r.merchant) ∷ Int r.what
    ∷ int_value r.ends ∷ []

-- what a right had before schema 4, beside its row: no end
abbrev pub first_end : Row
first_end = Null ∷ []

abbrev pub with_first_end : Row → Row
with_first_end = filled first_end

-- ---- the texts

-- ---- the newest version

pub read_rights_is : ScansTree v4 READ_RIGHTS.now 19 (columns_of rights)
unfolding understood everything
read_rights_is ts is = record { names = _; is = refl; plain = (refl, refl); unlisted = refl }

pub all_rights_is : IsQuery newest_schema READ_RIGHTS.now
    (sorted_of rights.tree [] (col 1 0 ∷ columns_of rights) [] (ordered_by (0 ∷ [])))
unfolding understood everything
all_rights_is = record { names = _; is = refl; plain = (refl, refl); unlisted = refl }

pub right_is : IsQuery newest_schema FIND_RIGHT.now (finding rights 3)
unfolding understood everything
right_is = record { names = _; is = refl; plain = (refl, refl); unlisted = refl }

pub give_is : IsWrite newest_schema GIVE_RIGHT.now (putting rights 9 3)
unfolding understood everything
give_is = record { is = refl; plain = (refl, refl) }

pub take_is : IsWrite newest_schema TAKE_RIGHT.now (taking rights 9 3)
unfolding understood everything
take_is = record { is = refl; plain = (refl, refl) }

abbrev pub right_scan : Scan RawRight
right_scan =
    long_scan right_values (λ r. r.rowid) (λ r. refl) v4 READ_RIGHTS.now rights 9 refl refl read_rights_is

-- ---- before schema 4

pub read_old_rights_is : ScansTree v1 READ_OLD_RIGHTS.now 10 (columns_of old_rights ++ constants first_end)
unfolding understood everything
read_old_rights_is ts is = record { names = _; is = refl; plain = (refl, refl); unlisted = refl }

pub read_right_ids_is : ScansTree v1 READ_RIGHT_IDS.now 10 []
unfolding understood everything
read_right_ids_is ts is = record { names = _; is = refl; plain = (refl, refl); unlisted = refl }

abbrev pub old_right_scan : Scan RawRight
old_right_scan =
    filled_scan right_values (λ r. r.rowid) (λ r. refl) v1 READ_OLD_RIGHTS.now old_rights 5 refl refl
    first_end 2 refl refl read_old_rights_is

abbrev pub right_id_scan : IdScan
right_id_scan = record { base = v1; tree = 10; text = READ_RIGHT_IDS.now; means = read_right_ids_is }
