use Rattle.vault_store.proofs.ListedMerchants.{has-names}
use Rattle.vault_store.proofs.memory.MemTablesTables.names.Goals as goal

pub returns-clause-told : goal.returns-clause-told
returns-clause-told c _ V held sound =
    c.in_ok-names_of.ensures V (has-names c.args.self.now.merchants V held.merchants)
