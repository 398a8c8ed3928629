use Rattle.std.proofs.Common.{sym, ◌∙◌, subst}
use Rattle.vault_core.specs.Keys.{Bytes}
use Rattle.vault_store.specs.Index.{Indexes}
use Rattle.vault_store.proofs.IndexLemmas.{indexes-taken_key, indexes-taken_none}
use Rattle.vault_store.proofs.WithAt.{removed-absent}
use Rattle.vault_store.proofs.memory.index.take_out.Goals as goal

pub returns-in_default : goal.returns-in_default
returns-in_default c F was =
    let at : Bytes × Bytes = (c.args.merchant, c.args.token) in
    subst (Indexes c.args.index.now) (sym (removed-absent F at (was ∙ c.in_default.is)))

pub returns-in_default-number_key : goal.returns-in_default-number_key
returns-in_default-number_key c F was =
    let at : Bytes × Bytes = (c.args.merchant, c.args.token) in
    let none = sym c.number_key.ensures ∙ c.in_default-number_key.is in
    indexes-taken_none c.args.index.now F at c.in-Some.entry none (was ∙ c.in-Some.is)

pub returns : goal.returns
returns c F was =
    let at : Bytes × Bytes = (c.args.merchant, c.args.token) in
    let updates = c.remove.ensures.updates in
    let is = sym c.number_key.ensures ∙ c.in-Some-number_key.is in
    indexes-taken_key c.args.index.now c.remove.new.self F at c.in-Some.entry c.in-Some-number_key.number is
    (record { there = updates.1; others = updates.2 }) (was ∙ c.in-Some.is)
