use Rattle.vault_core.proofs.Maps.{right_exact}
use Rattle.vault_store.proofs.RightOrder.{back-derived}
use Rattle.vault_store.proofs.memory.rights.give_back.Goals as goal

pub returns : goal.returns
returns g c =
    back-derived c.args.rights.now c.put_back.new.rows c.args.key c.args.was c.put_back.ensures right_exact
