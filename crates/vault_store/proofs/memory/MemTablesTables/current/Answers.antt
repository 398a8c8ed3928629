use Rattle.vault_store.proofs.LiveLemmas.{current-is}
use Rattle.vault_store.proofs.memory.MemTablesTables.current.Goals as goal

pub returns-clause-told : goal.returns-clause-told
returns-clause-told c _ V held sound now =
    let live = c.current.ensures in
    current-is V sound c.args.m c.args.p c.args.at now c.args.self.now.entries.rows held.entries.rows
    c.current.result (live.some V.entries held.entries) (live.none V.entries held.entries)
