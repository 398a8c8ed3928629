-- How far a reader of records has come in known bytes.
use Rattle.std.proofs.Common.{◌≡◌, List, [], ◌∷◌, ◌++◌, Option, Some, None, Bool, true, false, refl, sym, ◌∙◌}
use Rattle.std.specs.Prelude.{option_map}
use Rattle.csv.specs.Reading.{Reached, ReadRecord, Ready, default_config, reader_config, reader_state}
use Rattle.csv.specs.Reading.{source_of, strip_bom}
use Rattle.csv.specs.declared.parser.State.TheVariants.{StartRecord}
use Rattle.csv.specs.declared.reader.Reader.{Reader}
use Rattle.csv.proofs.ReadFacts.{rows-end, rows-more}
use Rattle.vault_core.specs.Keys.{Bytes}
use Rattle.vault_batch.specs.ReadingRecords.{HasGiven, StandsAfter, StandsNext}
use Rattle.vault_batch.specs.Rows.{AreRecordsOf, BeginRecordsOf, Fields}

-- before all records
pub given_none : {R : Type 0} (known : Option Bytes) (rem : R → Option Bytes) (reader : Reader R)
    → source_of rem reader ≡ option_map strip_bom known → reader_state reader ≡ StartRecord
    → HasGiven known rem [] reader
unfolding Reached
given_none None rem reader e s = tt
given_none (Some xs) rem reader e s = (strip_bom xs, e, (sym s, refl))

given_more : {R : Type 0} (known : Option Bytes) (rem : R → Option Bytes) (a b : Reader R) (f : Fields)
    (before : List Fields) → reader_config a ≡ default_config → HasGiven known rem before a
    → ReadRecord rem a b true f → HasGiven known rem (before ++ f ∷ []) b
given_more None rem a b f before c t r = tt
given_more (Some xs) rem a b f before c t r =
    rows-more rem a b f default_config StartRecord (strip_bom xs) t.0 before c t.1 t.2 r

given_all : {R : Type 0} (known : Option Bytes) (rem : R → Option Bytes) (a b : Reader R) (f : Fields)
    (before : List Fields) → reader_config a ≡ default_config → HasGiven known rem before a
    → ReadRecord rem a b false f → AreRecordsOf known before
given_all None rem a b f before c t r = tt
given_all (Some xs) rem a b f before c t r =
    (reader_state a, t.0, t.2, rows-end rem a b f default_config t.0 c t.1 r)

-- a read of a reader that stands after some records
pub stands_next : {R : Type 0} (known : Option Bytes) (rem : R → Option Bytes) (a b : Reader R) (f : Fields)
    (before : List Fields) (found : Bool) → StandsAfter known rem before a → Ready b
    → ReadRecord rem a b found f → StandsNext known rem before f b found
stands_next known rem a b f before true s ready r = record {
  plain = r.2 ∙ s.plain;
  whole = r.3 ∙ s.whole;
  ready = ready;
  gave = given_more known rem a b f before s.plain s.gave r;
}
stands_next known rem a b f before false s ready r = given_all known rem a b f before s.plain s.gave r

-- the records of known bytes begin with those that were given
pub begins_given : {R : Type 0} (known : Option Bytes) (rem : R → Option Bytes) (reader : Reader R)
    (before : List Fields) → HasGiven known rem before reader → BeginRecordsOf known before
begins_given None rem reader before t = tt
begins_given (Some xs) rem reader before t = (reader_state reader, t.0, t.2)

-- all records are a beginning
pub begins_all : (known : Option Bytes) (records : List Fields) → AreRecordsOf known records
    → BeginRecordsOf known records
begins_all None records t = tt
begins_all (Some xs) records t = (t.0, t.1, t.2)
