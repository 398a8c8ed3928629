use Rattle.std.proofs.Common.{◌≡◌, ◌<◌, ◌∙◌, List, sym, arith, length}
use Rattle.vault_rules.specs.Rules.{is_counted}
use Rattle.vault_rules.specs.Seen.{HasEntries}
use Rattle.vault_rules.specs.declared.rows.RawCard.{RawCard}
use Rattle.vault_rules.specs.declared.rows.RawEntry.{RawEntry}
use Rattle.vault_rules.proofs.Walks.{all_on, all_off, known_there}
use Rattle.vault_rules.proofs.rules.counts.are_counted.Goals.{After-is_counted}
use Rattle.vault_rules.proofs.rules.counts.are_counted.Goals as goal

-- the merchant that is read is among the merchants, and the test tells whether it is counted
module _ (c : After-is_counted) (cards : List RawCard) (raws : List RawEntry)
    (has : HasEntries c.args.entries.now cards raws) where
  inside : c.loop-merchant.merchant-index < length c.args.entries.now.index.merchants.now
  inside = omega arith

  told : is_counted c.args.entries.now.index.counts.now raws c.merchant-item.result ≡ c.is_counted.result
  told = sym (c.is_counted.ensures cards raws has (known_there c.args.entries.now.index.merchants.now
      c.loop-merchant.merchant-index c.merchant-item.result inside c.merchant-item.is))

pub returns-then-not-is_counted : goal.returns-then-not-is_counted
returns-then-not-is_counted c cards raws has =
    let at = (goal.at.returns-then-not-is_counted c).After-is_counted in
    all_off (is_counted c.args.entries.now.index.counts.now raws) _ _ _ (inside at cards raws has)
    c.merchant-item.is (told at cards raws has ∙ search (c.if-not-is_counted.true))
    (c.loop-merchant.invariant cards raws has)

pub loop-merchant-preserved : goal.loop-merchant-preserved
loop-merchant-preserved c cards raws has =
    let at = (goal.at.loop-merchant-preserved c).After-is_counted in
    all_on (is_counted c.args.entries.now.index.counts.now raws) _ _ _ (inside at cards raws has)
    c.merchant-item.is (told at cards raws has ∙ search (c.if-not-is_counted.false))
    (c.loop-merchant.invariant cards raws has)
