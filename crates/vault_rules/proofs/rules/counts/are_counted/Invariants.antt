use Rattle.std.proofs.Common.{◌≡◌, drop, List}
use Rattle.std.specs.List.{list_all}
use Rattle.vault_rules.specs.Rules.{is_counted}
use Rattle.vault_rules.specs.Seen.{HasEntries}
use Rattle.vault_rules.specs.declared.rows.RawCard.{RawCard}
use Rattle.vault_rules.specs.declared.rows.RawEntry.{RawEntry}
use Rattle.vault_rules.proofs.rules.counts.are_counted.Given as goal

abbrev pub invariant-loop-merchant : goal.invariant-loop-merchant
invariant-loop-merchant l =
    let index = l.entries.index in
    (cards : List RawCard) (raws : List RawEntry) → HasEntries l.entries cards raws
    → list_all (is_counted index.counts.now raws) (drop l.merchant-index index.merchants.now)
    ≡ list_all (is_counted index.counts.now raws) index.merchants.now
