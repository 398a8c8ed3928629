use Rattle.std.proofs.Common.{◌∙◌}
use Rattle.vault_store.proofs.RightOrder.{get-derived}
use Rattle.vault_store.proofs.memory.MemTablesTables.right.Goals as goal

pub returns-clause-told : goal.returns-clause-told
returns-clause-told c _ V held sound =
    c.copied.ensures ∙ c.get.ensures.value
    ∙ get-derived c.args.self.now.rights (c.args.c, (c.args.m, c.args.r))
    ∙ held.rights.at (c.args.c, (c.args.m, c.args.r))
