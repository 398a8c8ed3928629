-- What makes the tables that came since schema 2, one after the other, and writes the version.
use Rattle.std.proofs.Common.{◌≡◌, ◌<◌, ℕ, pos, length, List, [], ◌∷◌, arith, get_or, map, refl, subst, suc}
use Rattle.std.proofs.Common.{sym, take, zero}
use Rattle.sqlite.specs.Change.{created}
use Rattle.sqlite.specs.Listing.{understood}
use Rattle.sqlite.specs.Schema.{Schema}
use Rattle.sqlite.specs.Table.{Table}
use Rattle.sqlite.specs.Term.{lit}
use Rattle.sqlite.specs.declared.types.Value.TheVariants.{Int, Null}
use Rattle.sqlite_tied.specs.Compute.{everything}
use Rattle.sql_tables.specs.Schema.{grown}
use Rattle.sql_tables.specs.Texts.{IsWrite, MakesTable, insert}
use Rattle.vault_schema.specs.Schema.{newest_schema}
use Rattle.vault_schema.specs.Schemas.{v2}
use Rattle.vault_schema.specs.Versions.{newest, number_of}
use Rattle.vault_tables.proofs.OldMerchants.{third_texts}
use Rattle.vault_tables.proofs.OldRights.{fourth_texts}
use Rattle.vault_tables.specs.declared.versions.TheConstants.{CREATE_LATER, PUT_VERSION}
use Rattle.vault_schema.proofs.Newest.{behind_second, indexes_behind_second}

-- schema 2 with so many of the tables that came since
abbrev pub later_made : ℕ → Schema
later_made n = grown v2 (take n behind_second) (take n indexes_behind_second)

-- a text makes one more of them
pub record MakesLater (n : ℕ) (text : List ℕ) : Type 0 where
  pub table : Table
  pub makes : MakesTable (later_made n) text table
  pub made : created (later_made n) table ≡ later_made (suc n)
  pub more : suc (length (later_made n).tables) ≡ length (later_made (suc n)).tables

-- the texts that make them, in their order
abbrev pub later_texts : List (List ℕ)
later_texts = map (λ text. text.now) CREATE_LATER

pub later_makes : (n : ℕ) (text : List ℕ) → n < length later_texts → text ≡ get_or later_texts n []
    → MakesLater n text
later_makes zero text inside is = subst (MakesLater 0) (sym is) (record {
  table = _;
  makes = third_texts.makes;
  made = third_texts.made;
  more = refl;
})
later_makes (suc zero) text inside is = subst (MakesLater 1) (sym is) (record {
  table = _;
  makes = fourth_texts.makes;
  made = fourth_texts.made;
  more = refl;
})
later_makes (suc (suc n)) text inside is = absurd (omega (arith, inside))

pub put_version_is : IsWrite newest_schema PUT_VERSION.now
    (insert 0 3 (lit (Int (pos 1)) ∷ lit Null ∷ lit (Int (number_of newest)) ∷ []))
unfolding understood everything
put_version_is = record { is = refl; plain = (refl, refl) }
