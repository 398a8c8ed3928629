use Rattle.std.proofs.Common.{◌≡◌, ◌++◌, List}
use Rattle.toml.specs.View.{members_view}
use Rattle.toml.proofs.Views.{Entry}
use Rattle.vault_rights.specs.Named.{Names, IsExtendedBy}
use Rattle.vault_rights.specs.Proper.{IsProperCaller}
use Rattle.vault_rights.proofs.Members.{EachEntry}
use Rattle.vault_rights.proofs.read.read_callers.Given as goal

abbrev pub invariant-loop-key : goal.invariant-loop-key
invariant-loop-key l =
    (done : List Entry) × (l.document.entries ≡ done ++ l.key-iterator)
    × EachEntry IsProperCaller done
    × IsExtendedBy (Names (members_view done)) l.initial.rows.items l.rows.items
