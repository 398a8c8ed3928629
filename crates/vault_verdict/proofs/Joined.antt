-- One reading after another, and one that failed.
use Rattle.std.proofs.Common.{◌≡◌, IsErr, IfErr, IfOk, OnOk, Ok, Err, Result, sym, true≢false}
use Rattle.std.proofs.Common.{◌⊎◌, List, [], ap, arith, inl, inr, refl, subst, ◌∙◌}
use Rattle.sqlite.specs.Effect.{Database}
use Rattle.sqlite.specs.Held.{Held, state}
use Rattle.sqlite.specs.Schema.{Schema}
use Rattle.sqlite_trees.specs.declared.store.Store.{Ghosts}
use Rattle.sqlite.specs.State.{State, HasCleanDisk}
use Rattle.sql_tables.proofs.Calls.{reads_then}
use Rattle.sql_tables.specs.Schema.{grown}
use Rattle.sql_tables.specs.States.{Reads}
use Rattle.vault_schema.specs.Schemas.{v1}
use Rattle.vault_schema.specs.Versions.{schema_of}
use Rattle.vault_schema.specs.declared.version.Version.{Version}
use Rattle.vault_rules.specs.Seen.{HasEntries, HasRecords}
use Rattle.vault_rules.specs.declared.entries.Entries.{Entries}
use Rattle.vault_rules.specs.declared.records.Records.{Records}
use Rattle.vault_rules.specs.declared.rows.RawEntry.{RawEntry}
use Rattle.vault_rules.specs.declared.rows.RawRecord.{RawRecord}
use Rattle.vault_tables.specs.RecordTexts.{record_values}
use Rattle.sql_tables.specs.Reading.{AreTable, IsAny}
use Rattle.vault_verdict.specs.Reading.{AreEntriesIn, AreTaken}
use Rattle.vault_tables.specs.Taken.{EntriesTaken, RecordsTaken}
use Rattle.sql_tables.specs.declared.fault.StoreFault.{StoreFault}
use Rattle.sql_tables.specs.declared.fault.StoreFault.TheVariants.{Memory, Store}
use Rattle.vault_tables.specs.declared.entries.old.OldEntry.{OldEntry}
use Rattle.vault_schema.proofs.TablesBehind.{behind, indexes_behind, schema_is}

none_on : {R E : Type 0} (r : Result R E) (A : Type 0) → IsErr r → OnOk r A
none_on (Err e) A failed = tt
none_on (Ok x) A failed = absurd (true≢false (sym failed))

-- of a failure nothing is told
pub none_if : {R E : Type 0} (r : Result R E) (P : R → Type 0) → IsErr r → IfOk r P
none_if (Err e) P failed = tt
none_if (Ok x) P failed = absurd (true≢false (sym failed))

-- where only memory fails, the database doesn't
pub never_store : {R : Type 0} (P : Type 0) (r : Result R StoreFault) → IfErr r (λ e. e ≡ Memory)
    → IfErr r (λ e. e ≡ Store → P)
never_store P (Err e) memory = λ store. absurd (let clash = sym memory ∙ store in cc)
never_store P (Ok x) memory = tt

-- a reading that failed is answered by another failure
pub failed_as : {R E R' E' : Type 0} {s : Schema} {first : Result R E} {second : Result R' E'} {a b : State}
    → Reads s first a b → IsErr second → Reads s second a b
failed_as {second = second} one failed = record {
  clean = one.clean;
  mode = one.mode;
  limit = one.limit;
  left = one.left;
  kept = λ clean known. none_on second _ failed;
}

-- after one that told something, too
pub failed_then : {R E R' E' R'' E'' : Type 0} {s : Schema} {x : R} {second : Result R' E'}
    {third : Result R'' E''} {a b c : State} → Reads s (let it : Result R E = Ok x in it) a b
    → Reads s second b c → IsErr third → Reads s third a c
failed_then one two failed = failed_as (reads_then one one.kept two) failed

-- what two told is answered as one thing
pub both_told : {R E R' E' R'' E'' : Type 0} {s : Schema} {x : R} {y : R'} {z : R''} {a b c : State}
    → Reads s (let it : Result R E = Ok x in it) a b → Reads s (let it : Result R' E' = Ok y in it) b c
    → Reads s (let it : Result R'' E'' = Ok z in it) a c
both_told one two = assumption (reads_then one one.kept two)

-- a reading in whatever schema begins with schema 1 is one in a version's
pub in_version : {R E : Type 0} {result : Result R E} {a b : State} (v : Version)
    → Reads (grown v1 (behind v) (indexes_behind v)) result a b → Reads (schema_of v) result a b
in_version {result = result} {a = a} {b = b} v it = subst (λ s. Reads s result a b) (sym (schema_is v)) it

-- what was told after a first reading was so from the start
pub from_start : {R E : Type 0} {s : Schema} {x : R} {a b : State} (P : Database → Type 0)
    → Reads s (let it : Result R E = Ok x in it) a b → HasCleanDisk b → a.now.schema ≡ s
    → (b.now.schema ≡ s → P b.now) → P a.now
from_start P one clean has told =
    let same = (one.kept clean has).0.now_is in
    subst P same (told (ap (λ (d : Database). d.schema) same ∙ has))

-- why entries aren't read is why entries or cards aren't
pub unread_entries : {A E : Type 0} (P Q : Type 0) (fault : E) (r : Result A E)
    → IfErr r (λ e. e ≡ fault → Q) → IfErr r (λ e. e ≡ fault → P ⊎ Q)
unread_entries P Q fault (Ok a) why = tt
unread_entries P Q fault (Err e) why = λ store. inr (why store)

-- a failure without a reading
pub failed_still : {R E : Type 0} (s : Schema) (result : Result R E) (a : State) → IsErr result
    → Reads s result a a
failed_still s result a failed = record {
  clean = omega arith;
  mode = λ idle. idle;
  limit = refl;
  left = λ clean known db left. left;
  kept = λ clean known. none_on result _ failed;
}

-- what the one told, or what wasn't read, is told with the other
pub told_both : {S : Type 0} (g : Ghosts S) {R E R' E' : Type 0} {s : Schema} {x : R}
    {second : Result R' E'} {a b : Held S} (c : Held S)
    → Reads s (let it : Result R E = Ok x in it) (state g a) (state g b) ⊎ (b ≡ a)
    → Reads s second (state g b) (state g c) → Reads s second (state g a) (state g c)
told_both g c (inl one) two = reads_then one one.kept two
told_both g {s = s} {second = second} c (inr same) two =
    subst (λ h. Reads s second (state g h) (state g c)) same two

-- and the database is as it was
pub same_both : {S : Type 0} (g : Ghosts S) {R E : Type 0} {s : Schema} {x : R} {a b : Held S}
    → Reads s (let it : Result R E = Ok x in it) (state g a) (state g b) ⊎ (b ≡ a)
    → HasCleanDisk (state g b) → (state g a).now.schema ≡ s → (state g b).now ≡ (state g a).now
same_both g (inl one) clean has = (one.kept clean has).0.now_is
same_both g (inr same) clean has = ap (λ h. (state g h).now) same

pub failed_both : {S : Type 0} (g : Ghosts S) {R E R' E' : Type 0} {s : Schema} {first : Result R E}
    (second : Result R' E') {a b : Held S} → Reads s first (state g a) (state g b) ⊎ (b ≡ a)
    → IsErr second → Reads s second (state g a) (state g b)
failed_both g second (inl one) failed = failed_as one failed
failed_both g {s = s} second {a = a} (inr same) failed =
    subst (λ h. Reads s second (state g a) (state g h)) (sym same) (failed_still s second (state g a) failed)

-- entries that were taken, and records behind them
pub taken_both : (v : Version) (db now : Database) (olders : List OldEntry) (start mid : Entries)
    (begun : Records) (r : Result Records StoreFault) (entries : List RawEntry)
    → EntriesTaken start mid entries → AreEntriesIn v db olders entries → begun.entries ≡ mid
    → HasRecords begun [] → now ≡ db
    → IfOk r (λ it. (raws : List RawRecord) × RecordsTaken begun it raws
    × AreTable IsAny (λ t. t 8) record_values (λ x. x.rowid) now raws)
    → IfOk r (AreTaken v db olders start)
taken_both v db now olders start mid begun (Err e) entries took are is none same told = tt
taken_both v db now olders start mid begun (Ok it) entries took are is none same told =
    let came = told.1 none in
    let whose = came.0 ∙ is in
    record {
      entries = entries;
      records = told.0;
      index_is = λ cards fresh. ap (λ (e : Entries). e.index) whose ∙ (took cards fresh).0;
      entries_came = λ cards fresh.
          subst (λ e. HasEntries e cards entries) (sym whose) (took cards fresh).1;
      records_came = came.1;
      entries_are = are;
      records_are =
          subst (λ d. AreTable IsAny (λ t. t 8) record_values (λ x. x.rowid) d told.0) same told.2;
    }
