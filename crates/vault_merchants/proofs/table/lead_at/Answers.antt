use Rattle.std.proofs.Common.{◌≡◌, ◌∙◌, ℤ, Option, Some, None, codes, option_map, sym}
use Rattle.toml.specs.Data.{get_member, integer}
use Rattle.toml.specs.View.{table_view}
use Rattle.toml.proofs.Views.{table_get}
use Rattle.vault_rights.proofs.Pairs.{if-none}
use Rattle.vault_merchants.proofs.table.lead_at.Goals as goal

never : {X : Type 0} {x : X} → ¬ (Some x ≡ None)
never h = cc

pub returns-in-None-clause-stands : goal.returns-in-None-clause-stands
returns-in-None-clause-stands c =
    let got = table_get c.get.result (codes "lead") c.args.members.now.entries c.get.ensures.value in
    sym (rw c.in-None.is at got)

pub returns-in_err-number-clause-none : goal.returns-in_err-number-clause-none
returns-in_err-number-clause-none c =
    let got = table_get c.get.result (codes "lead") c.args.members.now.entries c.get.ensures.value in
    let there = rw c.in-Some.is at got in
    let no : (lead : Option ℤ)
    → ¬ (get_member (codes "lead") (table_view c.args.members.now) ≡ option_map integer lead) =
    λ lead. elim lead
    as (λ l. ¬ (get_member (codes "lead") (table_view c.args.members.now) ≡ option_map integer l)) [
      | None ↦ λ h. never (there ∙ h)
      | Some n ↦ λ h. c.in_err-number.ensures.none n h
    ] in
    if-none _ _ no
