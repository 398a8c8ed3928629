use Rattle.std.proofs.Common.{map, sym, ap, ◌∙◌, ◌++◌, append-nil}
use Rattle.vault_store.proofs.ListedMerchants.{names-shown}
use Rattle.vault_store.proofs.merchant_names.names_of.Goals as goal

pub returns : goal.returns
returns g c V shows =
    let left = c.in-None.ensures.steps.0 in
    let xs = c.loop-name.names.items in
    sym (append-nil xs) ∙ sym (ap (λ es. xs ++ map (λ e. e.0) es) left) ∙ c.loop-name.invariant
    ∙ sym (names-shown c.args.merchants.now c.iter-name-items.ensures.ordered V shows)
