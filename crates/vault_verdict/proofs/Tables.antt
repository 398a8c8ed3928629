-- The tables of a vault, each in every schema that begins with the one that brought it.
use Rattle.std.proofs.Common.{◌≡◌, ℕ, ℤ, true, List, [], ◌∷◌, refl, ap, ◌∙◌, is_eq, arith}
use Rattle.std.proofs.lemmas.Cmp.{tied_itself}
use Rattle.std.specs.Cmp.{int_cmp_total}
use Rattle.sqlite.specs.Collation.TheVariants.{Binary}
use Rattle.sqlite.specs.Order.{Row}
use Rattle.sqlite.specs.declared.types.Value.TheVariants.{Int, Text}
use Rattle.sqlite.specs.Table.{Table as SqlTable}
use Rattle.sqlite_schema.specs.Rules.{equal}
use Rattle.sqlite_schema.specs.declared.schema.Index.{Index}
use Rattle.sql_tables.proofs.KeyTests.{text_eq, int_eq}
use Rattle.sql_tables.specs.Schema.{Descriptor, columns_to, guards_of, table_of}
use Rattle.vault_core.proofs.Maps.{bytes_total}
use Rattle.vault_core.specs.Keys.{Bytes}
use Rattle.vault_verdict.proofs.Table.{Listing, Table, listed_by}
use Rattle.vault_tables.specs.CountTexts.{count_values}
use Rattle.vault_tables.specs.EntryTexts.{entry_values}
use Rattle.vault_tables.specs.EntryTexts.{old_entry_values}
use Rattle.vault_tables.specs.RecordTexts.{record_values}
use Rattle.vault_rules.specs.Codes.{natural}
use Rattle.vault_rules.specs.VaultOf.{count_key, entry_key, request_key}
use Rattle.sql_tables.specs.KeptTexts.{text_bytes}
use Rattle.vault_tables.specs.declared.entries.old.OldEntry.{OldEntry}
use Rattle.vault_rules.specs.declared.rows.RawCount.{RawCount}
use Rattle.vault_rules.specs.declared.rows.RawEntry.{RawEntry}
use Rattle.vault_rules.specs.declared.rows.RawRecord.{RawRecord}
use Rattle.sql_tables.proofs.Grown.{keyed_in_grown}
use Rattle.vault_schema.proofs.CountCodes.{counts_in_first}
use Rattle.vault_schema.proofs.EntryCodes.{old_entries_in_first}
use Rattle.vault_schema.proofs.RecordCodes.{records_in_first}
use Rattle.vault_schema.proofs.Newest as newest
use Rattle.vault_schema.proofs.EntryCodes.{entries_in_second}
use Rattle.vault_schema.specs.Entries.{entry_key as row_entry_key}
use Rattle.vault_schema.specs.Merchants.{merchant_key}
use Rattle.vault_schema.specs.Values.{numbered_key}
use Rattle.vault_schema.specs.Counts.{counts as counts_table}
use Rattle.vault_schema.specs.Records.{records as records_table}
use Rattle.vault_schema.specs.Entries.{entries as entries_table}

-- a value that isn't NULL is equal to itself
pub same_text : (t : Bytes) → equal Binary (Text t) (Text t) ≡ true
same_text t = text_eq t t ∙ ap is_eq (tied_itself bytes_total t)

pub same_int : (n : ℤ) → equal Binary (Int n) (Int n) ≡ true
same_int n = int_eq n n ∙ ap is_eq (tied_itself int_cmp_total n)

-- a text and a number
abbrev numbered : Bytes × ℤ → Row
numbered q = Text q.0 ∷ Int q.1 ∷ []

abbrev number_of : Bytes × ℤ → Bytes × ℕ
number_of q = (q.0, natural q.1)

-- the columns of a key tell it
pub name_back : (q k : Bytes) → Text q ∷ [] ≡ merchant_key k → q ≡ k
name_back q k e = grind arith

pub number_back : (q : Bytes × ℤ) (k : Bytes × ℕ) → numbered q ≡ numbered_key k → number_of q ≡ k
number_back q k e = grind arith

pub entry_back : (q k : Bytes × Bytes) → Text q.0 ∷ Text q.1 ∷ [] ≡ row_entry_key k → q ≡ k
entry_back q k e = grind arith

-- ---- how keys are listed

-- a name
abbrev pub by_name : Listing merchant_key 1 Bytes
by_name = record {
  shows = λ q. Text q ∷ [];
  key_of = λ q. q;
  fits = λ q. (refl, rw (same_text q) refl);
  back = name_back;
}

-- a text and a number
abbrev pub by_number : Listing numbered_key 2 (Bytes × ℤ)
by_number = record {
  shows = numbered;
  key_of = number_of;
  fits = λ q. (refl, rw (same_text q.0, same_int q.1) refl);
  back = number_back;
}

-- a merchant and a token
abbrev pub by_token : Listing row_entry_key 2 (Bytes × Bytes)
by_token = record {
  shows = λ q. Text q.0 ∷ Text q.1 ∷ [];
  key_of = λ q. q;
  fits = λ q. (refl, rw (same_text q.0, same_text q.1) refl);
  back = entry_back;
}

-- ---- the tables

module _ (tables : List SqlTable) (indexes : List Index) where
  -- no index behind those of schema 1 guards the key
  abbrev pub IsFree : Descriptor → ℕ → Type 0
  IsFree d n = guards_of indexes (table_of d) (columns_to n) ≡ []

  abbrev pub counts_in : (free : IsFree counts_table 2)
      → Table (keyed_in_grown counts_in_first tables indexes free) RawCount (Bytes × ℤ)
  counts_in free = listed_by by_number count_values count_key (λ c. refl)

  abbrev pub records_in : (free : IsFree records_table 2)
      → Table (keyed_in_grown records_in_first tables indexes free) RawRecord (Bytes × ℤ)
  records_in free = listed_by by_number record_values request_key (λ r. refl)

-- the entries of schema 1
abbrev pub old_entries : Table old_entries_in_first OldEntry (Bytes × Bytes)
old_entries =
    listed_by by_token old_entry_values (λ o. (text_bytes o.merchant, text_bytes o.token)) (λ e. refl)

-- those of schema 2, in each schema that begins with it
module _ (tables : List SqlTable) (indexes : List Index) where
  abbrev pub entries_in : (free : guards_of indexes (table_of entries_table) (columns_to 2) ≡ [])
      → Table (keyed_in_grown entries_in_second tables indexes free) RawEntry (Bytes × Bytes)
  entries_in free = listed_by by_token entry_values entry_key (λ e. refl)

-- the tables of the newest schema
abbrev pub counts : Table (keyed_in_grown counts_in_first newest.behind_first newest.indexes_behind_first
    refl)
    RawCount (Bytes × ℤ)
counts = counts_in newest.behind_first newest.indexes_behind_first refl

abbrev pub records :
    Table (keyed_in_grown records_in_first newest.behind_first newest.indexes_behind_first refl) RawRecord
    (Bytes × ℤ)
records = records_in newest.behind_first newest.indexes_behind_first refl

abbrev pub entries : Table entries_in_second RawEntry (Bytes × Bytes)
entries = listed_by by_token entry_values entry_key (λ e. refl)
