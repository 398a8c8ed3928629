-- What the texts that make schema 1 define, one after the other.
use Rattle.std.proofs.Common.{◌≡◌, [], ◌∷◌, codes, refl}
use Rattle.sqlite.specs.Change.{indexed}
use Rattle.sqlite.specs.Listing.{understood}
use Rattle.sqlite.specs.Schema.{Schema}
use Rattle.sqlite_schema.specs.declared.schema.Index.{Index}
use Rattle.sqlite_tied.specs.Compute.{everything}
use Rattle.sql_tables.specs.Schema.{table_of, no_schema, plain_index}
use Rattle.sql_tables.specs.Texts.{MakesTable, MakesIndex}
use Rattle.vault_schema.proofs.Meanings.{treeless, with_tables}
use Rattle.vault_schema.specs.Counts.{counts}
use Rattle.vault_schema.specs.Entries.{old_entries as entries}
use Rattle.vault_schema.specs.Merchants.{old_merchants as merchants}
use Rattle.vault_schema.specs.Records.{records}
use Rattle.vault_schema.specs.Rights.{old_rights as rights}
use Rattle.vault_schema.specs.Schemas.{v1}
use Rattle.vault_schema.specs.VersionRows.{vault}
use Rattle.vault_tables.specs.declared.counts.TheConstants.{CREATE_COUNTS}
use Rattle.vault_tables.specs.declared.entries.old.TheConstants.{CREATE_OLD_ENTRIES}
use Rattle.vault_tables.specs.declared.entries.old.TheConstants.{CREATE_OLD_ENTRIES_NUMBER}
use Rattle.vault_tables.specs.declared.merchants.old.TheConstants.{CREATE_OLD_MERCHANTS}
use Rattle.vault_tables.specs.declared.records.TheConstants.{CREATE_RECORDS}
use Rattle.vault_tables.specs.declared.rights.old.TheConstants.{CREATE_OLD_RIGHTS}
use Rattle.vault_tables.specs.declared.versions.TheConstants.{CREATE_VAULT}

-- the index by number, before it has a tree
abbrev pub number_index : Index
number_index = plain_index 0 (codes "entries_number") 5 (1 ∷ 3 ∷ [])

-- the schema with the index by number, and the tables before it
abbrev pub with_number : Schema
with_number =
    indexed (with_tables no_schema (vault ∷ merchants ∷ counts ∷ entries ∷ [])) (table_of entries)
    number_index

-- what each text makes of the schema that those before it made
pub record MakesFirst : Type 0 where
  pub for_vault : MakesTable no_schema CREATE_VAULT.now (treeless vault)
  pub for_merchants : MakesTable (with_tables no_schema (vault ∷ [])) CREATE_OLD_MERCHANTS.now
      (treeless merchants)
  pub for_counts : MakesTable (with_tables no_schema (vault ∷ merchants ∷ [])) CREATE_COUNTS.now
      (treeless counts)
  pub for_entries : MakesTable (with_tables no_schema (vault ∷ merchants ∷ counts ∷ []))
      CREATE_OLD_ENTRIES.now (treeless entries)
  pub for_number : MakesIndex (with_tables no_schema (vault ∷ merchants ∷ counts ∷ entries ∷ []))
      CREATE_OLD_ENTRIES_NUMBER.now 3 (table_of entries) number_index
  pub for_records : MakesTable with_number CREATE_RECORDS.now (treeless records)
  pub for_rights : MakesTable (with_tables with_number (records ∷ [])) CREATE_OLD_RIGHTS.now (treeless rights)
  pub all : with_tables with_number (records ∷ rights ∷ []) ≡ v1

pub makes_first : MakesFirst
unfolding understood everything
makes_first = record {
  for_vault = record { is = refl; whole = refl; plain = (refl, refl); defines = refl; uncounted = refl };
  for_merchants = record { is = refl; whole = refl; plain = (refl, refl); defines = refl; uncounted = refl };
  for_counts = record { is = refl; whole = refl; plain = (refl, refl); defines = refl; uncounted = refl };
  for_entries = record { is = refl; whole = refl; plain = (refl, refl); defines = refl; uncounted = refl };
  for_number = record { is = refl; whole = refl; plain = (refl, refl); here = refl; defines = refl };
  for_records = record { is = refl; whole = refl; plain = (refl, refl); defines = refl; uncounted = refl };
  for_rights = record { is = refl; whole = refl; plain = (refl, refl); defines = refl; uncounted = refl };
  all = refl;
}
