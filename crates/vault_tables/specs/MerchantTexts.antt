-- What the texts of merchants mean, and how each version of the table is read whole.
use Rattle.std.specs.Prelude.{◌++◌, [], ◌∷◌, refl, pos, string_bytes}
use Rattle.sqlite.specs.Listing.{understood}
use Rattle.sqlite.specs.Order.{Row}
use Rattle.sqlite.specs.Term.{col}
use Rattle.sqlite.specs.declared.types.Value.TheVariants.{Int, Text}
use Rattle.sqlite_tied.specs.Compute.{everything}
use Rattle.sql_tables.proofs.ConstantColumns.{constants, filled}
use Rattle.sql_tables.proofs.Scans.{columns_of, filled_scan, present_scan}
use Rattle.sql_tables.specs.Keyed.{finding, putting}
use Rattle.sql_tables.specs.Scans.{IdScan, Scan, ScansTree}
use Rattle.sql_tables.specs.Texts.{IsQuery, IsWrite, counting_of, ordered_by, sorted_of}
use Rattle.vault_rules.specs.declared.rows.RawMerchant.{RawMerchant}
use Rattle.vault_schema.specs.Merchants.{old_merchants, merchants}
use Rattle.vault_schema.specs.Schema.{newest_schema}
use Rattle.vault_schema.specs.Schemas.{v1, v3}
use Rattle.vault_tables.specs.declared.merchants.TheConstants.{COUNT_MERCHANTS, FIND_LIVES, PUT_MERCHANT}
use Rattle.vault_tables.specs.declared.merchants.TheConstants.{READ_MERCHANTS}
use Rattle.vault_tables.specs.declared.merchants.old.TheConstants.{READ_MERCHANT_IDS, READ_OLD_MERCHANTS}

-- a row of `merchants3`, with its rowid in front
abbrev pub merchant_values : RawMerchant → Row
merchant_values m =
    Int m.rowid ∷ Text (string_bytes m.name) ∷ Int m.single_life ∷ Int m.multi_life ∷ Int m.moment
    ∷ Int m.lead ∷ []

-- what a merchant had before schema 3, beside its row: its masks show six digits at the left at most
abbrev pub first_lead : Row
first_lead = Int (pos 6) ∷ []

abbrev pub with_first_lead : Row → Row
with_first_lead = filled first_lead

-- ---- the texts

-- ---- the newest version

pub read_merchants_is : ScansTree v3 READ_MERCHANTS.now 17 (columns_of merchants)
unfolding understood everything
read_merchants_is ts is = record { names = _; is = refl; plain = (refl, refl); unlisted = refl }

pub all_merchants_is : IsQuery newest_schema READ_MERCHANTS.now
    (sorted_of merchants.tree [] (col 1 0 ∷ columns_of merchants) [] (ordered_by (0 ∷ [])))
unfolding understood everything
all_merchants_is = record { names = _; is = refl; plain = (refl, refl); unlisted = refl }

pub how_many_is : IsQuery newest_schema COUNT_MERCHANTS.now (counting_of merchants.tree)
unfolding understood everything
how_many_is = record { names = _; is = refl; plain = (refl, refl); unlisted = refl }

pub lives_is : IsQuery newest_schema FIND_LIVES.now (finding merchants 1)
unfolding understood everything
lives_is = record { names = _; is = refl; plain = (refl, refl); unlisted = refl }

pub put_merchant_is : IsWrite newest_schema PUT_MERCHANT.now (putting merchants 8 1)
unfolding understood everything
put_merchant_is = record { is = refl; plain = (refl, refl) }

abbrev pub merchant_scan : Scan RawMerchant
merchant_scan =
    present_scan merchant_values (λ m. m.rowid) (λ m. refl) v3 READ_MERCHANTS.now merchants 8 refl refl 4 refl
    refl read_merchants_is

-- ---- before schema 3

pub read_old_merchants_is : ScansTree v1 READ_OLD_MERCHANTS.now 1
    (columns_of old_merchants ++ constants first_lead)
unfolding understood everything
read_old_merchants_is ts is = record { names = _; is = refl; plain = (refl, refl); unlisted = refl }

pub read_merchant_ids_is : ScansTree v1 READ_MERCHANT_IDS.now 1 []
unfolding understood everything
read_merchant_ids_is ts is = record { names = _; is = refl; plain = (refl, refl); unlisted = refl }

abbrev pub old_merchant_scan : Scan RawMerchant
old_merchant_scan =
    filled_scan merchant_values (λ m. m.rowid) (λ m. refl) v1 READ_OLD_MERCHANTS.now old_merchants 1 refl refl
    first_lead 3 refl refl read_old_merchants_is

abbrev pub merchant_id_scan : IdScan
merchant_id_scan =
    record { base = v1; tree = 1; text = READ_MERCHANT_IDS.now; means = read_merchant_ids_is }
