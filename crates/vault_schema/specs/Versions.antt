-- What the rows of each version stand for, by one form: that of the newest one. A version that can't hold
-- something stands only where that has its default.
use Rattle.std.specs.Prelude.{◌≡◌, ℕ, suc, ℤ, pos, Bool, List, [], ◌∷◌, false, Option, Some, None, option_map}
use Rattle.std.specs.Prelude.{IsTrue}
use Rattle.sqlite.specs.Effect.{Database, IsDatabase}
use Rattle.sqlite.specs.Schema.{Schema}
use Rattle.sqlite.specs.State.{State}
use Rattle.sqlite.specs.Tree.{Trees}
use Rattle.sqlite_catalog.specs.Listing.{IsSound}
use Rattle.sql_tables.specs.Rows.{AreRowsById, AreRowsOf}
use Rattle.sql_tables.specs.Schema.{table_of}
use Rattle.sql_tables.specs.States.{Claim, IsFree, StandsIn}
use Rattle.vault_pan.specs.declared.lead.Lead.TheVariants.{Six}
use Rattle.vault_core.specs.Keys.{Bytes}
use Rattle.vault_core.specs.declared.right.Right.{Right}
use Rattle.vault_core.specs.declared.row.Entry.{Entry}
use Rattle.vault_core.specs.declared.row.GrantRow.{GrantRow}
use Rattle.vault_core.specs.declared.row.Lives.{Lives}
use Rattle.vault_core.specs.declared.row.Record.{Record}
use Rattle.vault_schema.specs.Cards.{card_columns, card_indexes, cards as cards_table}
use Rattle.vault_schema.specs.Counts.{count_row, count_indexes, counts as counts_table}
use Rattle.vault_schema.specs.Entries.{entry_row, old_entries, old_entry_indexes, pointing_row}
use Rattle.vault_schema.specs.Entries.{entries as entries_table, entry_indexes}
use Rattle.vault_schema.specs.Joined.{AreJoined, nothing_owed}
use Rattle.vault_schema.specs.Layers.{Either, Layer, claims_at, claims_if, is_from, rank, schema_at}
use Rattle.vault_schema.specs.Merchants.{old_merchant_row, old_merchant_indexes, old_merchants, merchant_row}
use Rattle.vault_schema.specs.Merchants.{merchants as merchants_table, older_lives}
use Rattle.vault_schema.specs.Records.{record_row, record_indexes, records as records_table}
use Rattle.vault_schema.specs.Rights.{old_right_row, old_right_indexes, old_rights, older_right, right_row}
use Rattle.vault_schema.specs.Rights.{rights as rights_table}
use Rattle.vault_schema.specs.Schemas.{indexes3, indexes4}
use Rattle.vault_schema.specs.VersionRows.{IsVersion, vault as vault_table}
use Rattle.vault_schema.specs.declared.rows.Card.{Card}
use Rattle.vault_schema.specs.declared.rows.Pointing.{Pointing}
use Rattle.vault_schema.specs.declared.version.Version.{Version}
use Rattle.vault_schema.specs.declared.version.Version.TheVariants.{One, Two, Three, Four}

-- its number, as the one row of `vault` says it
abbrev pub natural_of : Version → ℕ
natural_of v = suc (rank v)

abbrev pub number_of : Version → ℤ
number_of v = pos (natural_of v)

-- the version that a step leads to; the newest one is its own next
abbrev pub next_of : Version → Version
next_of One = Two
next_of Two = Three
next_of Three = Four
next_of Four = Four

-- the newest version
abbrev pub newest : Version
newest = Four

-- ---- what is looked up, and what tables have of it

-- what is looked up in a vault, whatever the version
pub record Lookups : Type 0 where
  pub merchants : Bytes → Option Lives
  pub counts : Bytes × ℕ → Option ℕ
  pub entries : Bytes × Bytes → Option Entry
  pub records : Bytes × ℕ → Option Record
  pub rights : Bytes × (Bytes × Right) → Option GrantRow

-- what the tables have that stand for it, from schema 2 on
pub record Tables : Type 0 where
  pub merchants : Bytes → Option Lives
  pub counts : Bytes × ℕ → Option ℕ
  pub records : Bytes × ℕ → Option Record
  pub rights : Bytes × (Bytes × Right) → Option GrantRow
  pub cards : ℤ → Option Card
  pub pointing : Bytes × Bytes → Option Pointing

abbrev pub tables_of : Lookups → (ℤ → Option Card) → (Bytes × Bytes → Option Pointing) → Tables
tables_of h cards pointing = record {
  merchants = h.merchants;
  counts = h.counts;
  records = h.records;
  rights = h.rights;
  cards = cards;
  pointing = pointing;
}

-- merchants and rights as the older tables have them, and as the newer ones
abbrev pub OldMerchants : (Bytes → Option Lives) → Claim
OldMerchants held rows = AreRowsOf old_merchant_row rows (λ m. option_map older_lives (held m))

abbrev pub OldRights : (Bytes × (Bytes × Right) → Option GrantRow) → Claim
OldRights held rows = AreRowsOf old_right_row rows (λ key. option_map older_right (held key))

abbrev pub Merchants : (Bytes → Option Lives) → Claim
Merchants held rows = AreRowsOf merchant_row rows held

abbrev pub Rights : (Bytes × (Bytes × Right) → Option GrantRow) → Claim
Rights held rows = AreRowsOf right_row rows held

-- ---- the tables of a vault, in the order in which they came

-- what they may have: the entries of schema 1, and what stands from schema 2 on
abbrev pub Contents : Type 0
Contents = (Bytes × Bytes → Option Entry) × Tables

-- those that came with schema 4
abbrev pub fourth_layers : List (Layer Contents)
fourth_layers = record {
  since = Four;
  till = None;
  table = table_of rights_table;
  indexes = indexes4;
  claim = λ v held. Rights held.1.rights;
} ∷ []

-- with schema 3, or since
abbrev pub third_layers : List (Layer Contents)
third_layers = record {
  since = Three;
  till = None;
  table = table_of merchants_table;
  indexes = indexes3;
  claim = λ v held. Merchants held.1.merchants;
} ∷ fourth_layers

-- with schema 2, or since
abbrev pub second_layers : List (Layer Contents)
second_layers =
    record {
      since = Two;
      till = None;
      table = table_of cards_table;
      indexes = card_indexes;
      claim = λ v held rows. AreRowsById card_columns rows held.1.cards;
    }
    ∷ record {
      since = Two;
      till = None;
      table = table_of entries_table;
      indexes = entry_indexes;
      claim = λ v held rows. AreRowsOf pointing_row rows held.1.pointing;
    }
    ∷ third_layers

-- all of them
abbrev pub layers : List (Layer Contents)
layers =
    record {
      since = One;
      till = None;
      table = table_of vault_table;
      indexes = [];
      claim = λ v held. IsVersion (natural_of v);
    }
    ∷ record {
      since = One;
      till = Some Three;
      table = table_of old_merchants;
      indexes = old_merchant_indexes;
      claim = λ v held. OldMerchants held.1.merchants;
    }
    ∷ record {
      since = One;
      till = None;
      table = table_of counts_table;
      indexes = count_indexes;
      claim = λ v held rows. AreRowsOf count_row rows held.1.counts;
    }
    ∷ record {
      since = One;
      till = Some Two;
      table = table_of old_entries;
      indexes = old_entry_indexes;
      claim = λ v held rows. AreRowsOf entry_row rows held.0;
    }
    ∷ record {
      since = One;
      till = None;
      table = table_of records_table;
      indexes = record_indexes;
      claim = λ v held rows. AreRowsOf record_row rows held.1.records;
    }
    ∷ record {
      since = One;
      till = Some Four;
      table = table_of old_rights;
      indexes = old_right_indexes;
      claim = λ v held. OldRights held.1.rights;
    }
    ∷ second_layers

abbrev pub schema_of : Version → Schema
schema_of v = schema_at v layers

-- it has cards, and entries that point at them
abbrev pub has_cards : Version → Bool
has_cards v = is_from Two v

-- what is said of the rows of a version without cards, in its order
abbrev pub uncarded_claims : Version → Lookups → List Claim
uncarded_claims v h = claims_at v layers (h.entries, tables_of h (λ id. None) (λ key. None))

abbrev pub first_claims : Lookups → List Claim
first_claims h = uncarded_claims One h

-- and of one with cards
abbrev pub claims_of : Version → Tables → List Claim
claims_of v t = claims_if (has_cards v) (claims_at v layers (λ key. None, t))

-- the rows stand for what is looked up, with cards and entries that point at them
pub record StandJoined (v : Version) (db : Trees) (h : Lookups) : Type 0 where
  pub cards : ℤ → Option Card
  pub pointing : Bytes × Bytes → Option Pointing
  pub rows : StandsIn (schema_of v).tables (claims_of v (tables_of h cards pointing)) db
  pub joined : AreJoined nothing_owed cards pointing h.entries

abbrev pub StandRows : Version → Trees → Lookups → Type 0
StandRows v db h =
    Either (has_cards v) (StandJoined v db h) (StandsIn (schema_of v).tables (uncarded_claims v h) db)

-- each merchant has the lead of six digits
abbrev pub AreSix : Lookups → Type 0
AreSix h = (m : Bytes) (x : Lives) → h.merchants m ≡ Some x → x.lead ≡ Six

-- no right ends
abbrev pub AreEndless : Lookups → Type 0
AreEndless h = (key : Bytes × (Bytes × Right)) (g : GrantRow) → h.rights key ≡ Some g → g.ends ≡ None

-- what is so of all that is looked up before a version, which can't hold anything else
pub record Default : Type 1 where
  pub till : Version
  pub is : Lookups → Type 0

-- in the order of the versions
abbrev pub defaults : List Default
defaults = record { till = Three; is = AreSix } ∷ record { till = Four; is = AreEndless } ∷ []

-- what a version can't hold has its default
abbrev pub HaveDefaults : Version → Lookups → List Default → Type 0
HaveDefaults v h [] = Unit {0}
HaveDefaults v h (d ∷ ds) = Either (is_from d.till v) (Unit {0}) (d.is h) × HaveDefaults v h ds

abbrev pub HasDefaults : Version → Lookups → Type 0
HasDefaults v h = HaveDefaults v h defaults

-- THE ROWS OF A VERSION STAND FOR WHAT IS LOOKED UP
pub record Stand (v : Version) (db : Trees) (h : Lookups) : Type 0 where
  pub rows : StandRows v db h
  pub defaults : HasDefaults v h

-- a sound database in a version's schema, whose rows stand for this
pub record AreOf (v : Version) (h : Lookups) (db : Trees) : Type 0 where
  pub sound : IsSound (schema_of v) db
  pub stand : Stand v db h

-- so does a database with its schema
pub record IsOf (v : Version) (h : Lookups) (db : Database) : Type 0 where
  pub schema : db.schema ≡ schema_of v
  pub sound : IsDatabase db
  pub stand : Stand v db.trees h

-- the connection is outside a transaction, with all that it sees committed
pub record HoldsOf (v : Version) (h : Lookups) (st : State) : Type 0 where
  pub free : IsFree st
  pub autocommit : st.in_transaction ≡ false
  pub settled : st.now ≡ st.committed
  pub is : IsOf v h st.now

-- the connection is inside a transaction over this last commit
pub record WithinOf (v : Version) (h : Lookups) (base : Database) (st : State) : Type 0 where
  pub free : IsFree st
  pub inside : IsTrue st.in_transaction
  pub committed : st.committed ≡ base
  pub is : IsOf v h st.now
