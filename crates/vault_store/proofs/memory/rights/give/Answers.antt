use Rattle.std.proofs.Common.{◌≡◌, None, subst}
use Rattle.std.specs.BTreeMap as tree
use Rattle.std.specs.Prelude.{IfOk, OnErr}
use Rattle.std.specs.declared.cmp.Ordering.{Ordering}
use Rattle.vault_store.proofs.RightOrder.{RightKey, derived_is, put-derived, kept-derived}
use Rattle.vault_store.proofs.memory.rights.give.Goals as goal

pub returns-clause-was : goal.returns-clause-was
returns-clause-was g c =
    subst (λ (R : RightKey → RightKey → Ordering). IfOk c.put.result
    (λ was. was ≡ tree.get R c.args.rights.now c.args.key))
    derived_is c.put.ensures.was

pub returns-clause-ok : goal.returns-clause-ok
returns-clause-ok g c =
    put-derived c.put.result c.args.rights.now c.put.new.rows c.args.key c.args.row c.put.ensures.ok

pub returns-clause-new : goal.returns-clause-new
returns-clause-new g c =
    subst (λ (R : RightKey → RightKey → Ordering). OnErr c.put.result
    (tree.get R c.args.rights.now c.args.key ≡ None))
    derived_is c.put.ensures.new

pub returns-clause-err : goal.returns-clause-err
returns-clause-err g c = kept-derived c.put.result c.args.rights.now c.put.new.rows c.put.ensures.err
