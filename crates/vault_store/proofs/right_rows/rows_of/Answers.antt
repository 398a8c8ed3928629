use Rattle.std.proofs.Common.{sym, ap, ◌∙◌, ◌++◌, append-nil, subst}
use Rattle.std.specs.BTreeMap as tree
use Rattle.vault_core.specs.Keys.{right_cmp}
use Rattle.vault_core.proofs.Maps.{right_exact, right_total}
use Rattle.vault_store.proofs.EntriesLemmas.{entries-shown}
use Rattle.vault_store.proofs.RightOrder.{derived_is}
use Rattle.vault_store.proofs.right_rows.rows_of.Goals as goal

pub returns : goal.returns
returns c F shows =
    let left = c.in-None.ensures.steps.0 in
    let xs = c.loop-key.found.items in
    let sorted =
    subst (λ R. tree.IsOrdered R c.args.rights.now) derived_is c.iter-key-items.ensures.ordered in
    sym (append-nil xs) ∙ sym (ap (λ es. xs ++ es) left) ∙ c.loop-key.invariant
    ∙ sym (entries-shown right_cmp right_total right_exact c.args.rights.now sorted F shows)
