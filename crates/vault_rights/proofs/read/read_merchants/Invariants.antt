use Rattle.std.proofs.Common.{◌≡◌, ◌++◌, List}
use Rattle.toml.specs.View.{members_view}
use Rattle.toml.proofs.Views.{Entry}
use Rattle.vault_rights.specs.Named.{HasRight, IsExtendedBy}
use Rattle.vault_rights.specs.Proper.{IsProperMerchant}
use Rattle.vault_rights.proofs.Members.{EachEntry, HasRow}
use Rattle.vault_rights.proofs.read.read_merchants.Given as goal

abbrev pub invariant-loop-key : goal.invariant-loop-key
invariant-loop-key l =
    (done : List Entry) × (l.members.entries ≡ done ++ l.key-iterator)
    × EachEntry IsProperMerchant done
    × IsExtendedBy (HasRow (λ row. row.1) (λ value row. (row.0 ≡ l.caller) × HasRight value row.2 row.3)
    (members_view done))
    l.initial.rows.items l.rows.items
