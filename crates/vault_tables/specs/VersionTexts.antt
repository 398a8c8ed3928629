-- What the texts of the version mean, and those of the step to schema 2 beside them.
use Rattle.std.proofs.Common.{List, [], ◌∷◌, refl, pos}
use Rattle.sqlite.specs.Command.TheVariants.{Update}
use Rattle.sqlite.specs.Listing.{understood}
use Rattle.sqlite.specs.Order.{Row}
use Rattle.sqlite.specs.Table.{Table}
use Rattle.sqlite.specs.Term.{col, lit}
use Rattle.sqlite.specs.declared.types.Value.TheVariants.{Null, Int}
use Rattle.sqlite_schema.specs.declared.schema.Index.{Index}
use Rattle.sqlite_tied.specs.Compute.{everything}
use Rattle.sql_tables.specs.Schema.{grown}
use Rattle.sql_tables.specs.Texts.{IsQuery, sorted_of, ordered_by, IsWrite, query_of, eq, delete}
use Rattle.vault_rules.specs.declared.rows.RawVersion.{RawVersion}
use Rattle.vault_schema.specs.Schemas.{v2}
use Rattle.vault_schema.specs.Versioned.{versioned}
use Rattle.vault_tables.specs.declared.entries.old.TheConstants.{EMPTY_OLD_ENTRIES}
use Rattle.vault_tables.specs.declared.versions.TheConstants.{READ_VERSIONS, SET_SECOND}

-- its id, which the database keeps as the rowid, and the version
abbrev pub version_values : RawVersion → Row
version_values v = Int v.id ∷ Int v.version ∷ []

-- ---- the texts

module _ (ts : List Table) (is : List Index) where
  pub read_version_is : IsQuery (versioned ts is) READ_VERSIONS.now
      (sorted_of 0 [] (col 1 0 ∷ col 1 2 ∷ []) [] (ordered_by (0 ∷ [])))
  unfolding understood everything
  read_version_is = record { names = _; is = refl; plain = (refl, refl); unlisted = refl }

-- ---- the step to schema 2, beside what makes its tables

module _ (ts : List Table) (is : List Index) where
  pub set_version_is : IsWrite (grown v2 ts is) SET_SECOND.now
      (Update 0
      (record {
        lets = [];
        body =
            query_of 0 (eq (col 1 0) (lit (Int (pos 1))) ∷ [])
            (col 1 0 ∷ col 1 0 ∷ lit Null ∷ lit (Int (pos 2)) ∷ []);
      }))
  unfolding understood everything
  set_version_is = record { is = refl; plain = (refl, refl) }

  pub empty_entries_is : IsWrite (grown v2 ts is) EMPTY_OLD_ENTRIES.now (delete 3 5 [])
  unfolding understood everything
  empty_entries_is = record { is = refl; plain = (refl, refl) }
