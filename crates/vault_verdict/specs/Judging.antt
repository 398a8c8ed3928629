-- What the rows of a version come to.
use Rattle.std.specs.Prelude.{◌≡◌, ◌⊎◌, ℕ, true, List, Result, Ok, Err, IfErr, IfOk, IsErrAnd, OnOk}
use Rattle.sqlite.specs.Effect.{Database}
use Rattle.sqlite.specs.Held.{Held, state}
use Rattle.sqlite.specs.State.{IsUnchanged}
use Rattle.sqlite_trees.specs.declared.store.Store.{Ghosts}
use Rattle.vault_verdict.specs.Apart.{AreApart, AreByRowid}
use Rattle.vault_verdict.specs.Faults.{IsJudged}
use Rattle.vault_tables.specs.RightTexts.{right_values}
use Rattle.vault_tables.specs.RecordTexts.{record_values}
use Rattle.vault_verdict.specs.ReadAs.{replaced_in, rights_in}
use Rattle.sql_tables.specs.Reading.{AreTable, InSchema, IsAny}
use Rattle.vault_verdict.specs.ReadAs.{AreRightsFull}
use Rattle.vault_verdict.specs.Reading.{AreCardsIn, AreEntriesIn, IsUnreadOne}
use Rattle.vault_verdict.specs.Sizes.{counts_of}
use Rattle.vault_verdict.specs.declared.fault.OpenFault.{OpenFault}
use Rattle.vault_verdict.specs.declared.fault.OpenFault.TheVariants.{Damaged, Store}
use Rattle.vault_tables.specs.declared.entries.old.OldEntry.{OldEntry}
use Rattle.vault_verdict.specs.declared.first_rows.First.{First}
use Rattle.vault_verdict.specs.declared.sizes.Sizes.{Sizes}
use Rattle.vault_verdict.specs.declared.verdict.Judged.{Judged}
use Rattle.vault_rules.specs.AllRows.{Rows}
use Rattle.vault_rules.specs.HeldRows.{HoldCards}
use Rattle.vault_rules.specs.Rules.{IsLeastBroken, keeps}
use Rattle.vault_rules.specs.declared.index.Index.{Index}
use Rattle.vault_rules.specs.declared.rows.RawVersion.{RawVersion}
use Rattle.vault_rules.specs.declared.rows.RawMerchant.{RawMerchant}
use Rattle.vault_rules.specs.declared.rows.RawCount.{RawCount}
use Rattle.vault_rules.specs.declared.rows.RawCard.{RawCard}
use Rattle.vault_schema.specs.Versions.{schema_of}
use Rattle.vault_schema.specs.declared.version.Version.{Version}

-- the sizes of rows that keep each rule, and of which no rowid comes twice; or why there are none
pub record IsVerdictOf (rows : Rows) (result : Result Sizes OpenFault) : Type 0 where
  pub sizes : IfOk result (λ sizes. sizes ≡ counts_of rows)
  pub kept : OnOk result ((r : ℕ) → keeps rows r ≡ true)
  pub apart : OnOk result (AreApart rows)
  pub damaged : IfErr result (λ e. (rule : ℕ) → e ≡ Damaged rule → IsLeastBroken rows rule)
  pub shared : IfErr result (λ e. e ≡ Store → AreByRowid rows → ¬ AreApart rows)
  pub unbroken : IfErr result (λ e. e ≡ Store → (r : ℕ) → keeps rows r ≡ true)

-- the rows that cards and entries name, with those of `vault`
pub record NamedRows : Type 0 where
  pub versions : List RawVersion
  pub merchants : List RawMerchant
  pub counts : List RawCount

-- the rows that are read before entries: with the cards, the entries of schema 1
pub record FirstRows : Type 0 where
  pub named : NamedRows
  pub olders : List OldEntry
  pub cards : List RawCard

-- those of `vault`, and what an index of merchants and counts is over
abbrev pub named_rows : List RawVersion → Index → NamedRows
named_rows versions index =
    record { versions = versions; merchants = index.merchants.now; counts = index.counts.now }

abbrev pub first_rows : NamedRows → List OldEntry → List RawCard → FirstRows
first_rows named olders cards = record { named = named; olders = olders; cards = cards }

abbrev pub named_in : List RawVersion → First → NamedRows
named_in versions first =
    record { versions = versions; merchants = first.merchants.items; counts = first.counts.items }

-- this is so of the cards that an index has taken
abbrev pub WhereCards : Index → (List RawCard → Type 0) → Type 0
WhereCards index Is = (cards : List RawCard) → HoldCards index.merchants.now index.cards cards → Is cards

-- these rows are those that were read, and all behind them
pub record AreOnward (v : Version) (first : FirstRows) (db : Database) (rows : Rows) : Type 0 where
  pub versions : rows.versions ≡ first.named.versions
  pub merchants : rows.merchants ≡ first.named.merchants
  pub counts : rows.counts ≡ first.named.counts
  pub cards : rows.cards ≡ first.cards
  pub entries : AreEntriesIn v db first.olders rows.entries
  pub records : AreTable IsAny (λ t. t 8) record_values (λ r. r.rowid) db rows.records
  pub rights : AreTable (AreRightsFull v) (rights_in v) right_values (λ r. r.rowid) db rows.rights
  pub replaced : rows.replaced ≡ replaced_in v db.trees

-- what a judgment says of sizes
abbrev pub sizes_in : Result Judged OpenFault → Result Sizes OpenFault
sizes_in (Ok it) = Ok it.sizes
sizes_in (Err e) = Err e

module _ {S : Type 0} (g : Ghosts S) (v : Version) where
  -- rows that weren't read are judged by nothing
  abbrev pub IsUnjudged : {A : Type 0} → Result A OpenFault → Held S → Held S → Type 0
  IsUnjudged result old new =
      IsErrAnd result (λ e. (IsJudged e → ⊥) × (e ≡ Store → IsUnreadOne g v (state g old).now new))

  -- the rows behind the cards aren't read; or nothing changed, and this is what all come to
  abbrev pub ComeTo : FirstRows → Result Sizes OpenFault → Held S → Held S → Type 0
  ComeTo first result old new =
      IsUnjudged result old new
      ⊎ (IsUnchanged (state g old) (state g new) × (rows : Rows) × AreOnward v first (state g old).now rows
      × IsVerdictOf rows result)

  -- so it is of the rows behind the counts, with the entries of schema 1
  abbrev pub AllComeTo : NamedRows → Result Judged OpenFault → Held S → Held S → Type 0
  AllComeTo named result old new =
      IsUnjudged result old new
      ⊎ (IsUnchanged (state g old) (state g new) × (olders : List OldEntry) × (rows : Rows)
      × AreCardsIn v (state g old).now olders rows.cards
      × AreOnward v (first_rows named olders rows.cards) (state g old).now rows
      × IsVerdictOf rows (sizes_in result) × IfOk result (λ it. it.olders.items ≡ olders))

  -- in the version's schema, on an honest disk, this is what the rows come to
  abbrev pub Judges : FirstRows → Result Sizes OpenFault → Held S → Held S → Type 0
  Judges first result old new = InSchema g (schema_of v) old new (λ _. ComeTo first result old new)

  abbrev pub JudgesAll : NamedRows → Result Judged OpenFault → Held S → Held S → Type 0
  JudgesAll named result old new = InSchema g (schema_of v) old new (λ _. AllComeTo named result old new)
