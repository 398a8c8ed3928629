use Rattle.std.proofs.Common.{Option, sym, ◌∙◌, subst}
use Rattle.std.specs.BTreeSet.{BTreeSet}
use Rattle.std.specs.FinMap as map
use Rattle.vault_core.specs.Keys.{Bytes}
use Rattle.vault_core.specs.declared.row.Entry.{Entry}
use Rattle.vault_store.specs.Index.{Indexes, ShowsIndex, with_at}
use Rattle.vault_store.specs.declared.memory.index.NumberKey.{NumberKey}
use Rattle.vault_store.proofs.Results.{not_err}
use Rattle.vault_store.proofs.WithAt.{get-removed, inserted-again}
use Rattle.vault_store.proofs.memory.entries.follow.Goals as goal

pub returns-in_default-now-clause-shown : goal.returns-in_default-now-clause-shown
returns-in_default-now-clause-shown c F was shown =
    let at : Bytes × Bytes = (c.args.merchant, c.args.token) in
    let held = subst (λ (o : Option (BTreeSet NumberKey)). ShowsIndex o F) c.in-Some.is shown in
    subst (λ (o : Option Entry). Indexes c.take_out.new.index (with_at F at o)) (sym c.in_default-now.is)
    (c.take_out.ensures F was held)

pub returns-else-is_err-clause-shown : goal.returns-else-is_err-clause-shown
returns-else-is_err-clause-shown c F was shown =
    let at : Bytes × Bytes = (c.args.merchant, c.args.token) in
    let held = subst (λ (o : Option (BTreeSet NumberKey)). ShowsIndex o F) c.in-Some.is shown in
    let put =
    not_err c.put_in.result _ (sym c.is_err.ensures.value ∙ c.if-is_err.false) c.put_in.ensures.ok
    (map.remove F at) (get-removed F at) (c.take_out.ensures F was held) in
    subst (λ (o : Option Entry). Indexes c.put_in.new.index (with_at F at o)) (sym c.in-Some-now.is)
    (subst (Indexes c.put_in.new.index) (inserted-again F at c.in-Some-now.entry) put)
