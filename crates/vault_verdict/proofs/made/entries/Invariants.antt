use Rattle.std.proofs.Common.{◌≡◌, List, map, take}
use Rattle.vault_verdict.specs.Made.{as_entry}
use Rattle.vault_tables.specs.EntryTexts.{entry_values}
use Rattle.vault_tables.specs.Taken.{EntriesTaken}
use Rattle.vault_rules.specs.declared.rows.RawEntry.{RawEntry}
use Rattle.vault_verdict.proofs.made.entries.Given as goal

-- the entries so far are those of the old ones so far
abbrev pub invariant-loop-older : goal.invariant-loop-older
invariant-loop-older l =
    (raws : List RawEntry) × EntriesTaken l.fn.start l.entries raws
    × (map as_entry (take l.older-index l.olders) ≡ map entry_values raws)
