-- What takes rows, and what it took.
use Rattle.std.specs.Prelude.{List, ◌≡◌, []}
use Rattle.vault_rules.specs.HeldRows.{HoldCards}
use Rattle.vault_rules.specs.Seen.{HasEntries, HasRecords}
use Rattle.vault_rules.specs.declared.entries.Entries.{Entries}
use Rattle.vault_rules.specs.declared.index.Index.{Index}
use Rattle.vault_rules.specs.declared.records.Records.{Records}
use Rattle.vault_rules.specs.declared.rows.RawCard.{RawCard}
use Rattle.vault_rules.specs.declared.rows.RawEntry.{RawEntry}
use Rattle.vault_rules.specs.declared.rows.RawRecord.{RawRecord}

-- after these cards, from none
abbrev pub CardsTaken : Index → Index → List RawCard → Type 0
CardsTaken start now raws =
    HoldCards start.merchants.now start.cards []
    → (now.merchants ≡ start.merchants) × (now.counts ≡ start.counts)
    × HoldCards now.merchants.now now.cards raws

-- after these entries, from none
abbrev pub EntriesTaken : Entries → Entries → List RawEntry → Type 0
EntriesTaken start now raws =
    (cards : List RawCard) → HasEntries start cards []
    → (now.index ≡ start.index) × HasEntries now cards raws

-- after these records, from none
abbrev pub RecordsTaken : Records → Records → List RawRecord → Type 0
RecordsTaken start now raws = HasRecords start [] → (now.entries ≡ start.entries) × HasRecords now raws
