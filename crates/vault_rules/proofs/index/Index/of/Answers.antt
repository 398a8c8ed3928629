use Rattle.vault_rules.proofs.index.Index.of.Goals as goal

pub returns-clause-cards : goal.returns-clause-cards
returns-clause-cards c = c.new.ensures c.args.merchants.now
