use Rattle.vault_store.proofs.memory.MemTablesTables.rights.Goals as goal

pub returns-clause-told : goal.returns-clause-told
returns-clause-told c _ V held sound = c.in_ok-rows_of.ensures V.rights held.rights.at
