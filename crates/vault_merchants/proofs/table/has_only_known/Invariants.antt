use Rattle.std.proofs.Common.{◌≡◌, ◌++◌, List}
use Rattle.toml.proofs.Views.{Entry}
use Rattle.vault_rights.proofs.Members.{EachEntry}
use Rattle.vault_merchants.specs.ListedMerchants.{IsKnown}
use Rattle.vault_merchants.proofs.table.has_only_known.Given as goal

abbrev pub invariant-loop-key : goal.invariant-loop-key
invariant-loop-key l =
    (done : List Entry) × (l.members.entries ≡ done ++ l.key-iterator)
    × EachEntry (λ key value. IsKnown key) done
