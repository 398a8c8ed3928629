use Rattle.std.proofs.Common.{◌≡◌, ◌∙◌, Option, Some, None, codes, option_map, sym}
use Rattle.std.specs.Prelude.{IfSome}
use Rattle.toml.specs.Data.{get_member, string}
use Rattle.toml.specs.View.{table_view}
use Rattle.toml.proofs.Views.{table_get}
use Rattle.vault_core.specs.Keys.{Bytes}
use Rattle.vault_core.specs.Name.{IsName}
use Rattle.vault_rights.proofs.Pairs.{if-none}
use Rattle.vault_merchants.proofs.table.sweeper_at.Goals as goal

never : {X : Type 0} {x : X} → ¬ (Some x ≡ None)
never h = cc

pub returns-in-None-clause-stands : goal.returns-in-None-clause-stands
returns-in-None-clause-stands c =
    let got = table_get c.get.result (codes "sweep") c.args.members.now.entries c.get.ensures.value in
    (sym (rw c.in-None.is at got), tt)

pub returns-in_err-name-clause-none : goal.returns-in_err-name-clause-none
returns-in_err-name-clause-none c =
    let got = table_get c.get.result (codes "sweep") c.args.members.now.entries c.get.ensures.value in
    let there = rw c.in-Some.is at got in
    let no : (name : Option Bytes) → IfSome name IsName
    → ¬ (get_member (codes "sweep") (table_view c.args.members.now) ≡ option_map string name) =
    λ name. elim name
    as (λ n. IfSome n IsName
    → ¬ (get_member (codes "sweep") (table_view c.args.members.now) ≡ option_map string n)) [
      | None ↦ λ is h. never (there ∙ h)
      | Some n ↦ λ is h. c.in_err-name.ensures.none n is h
    ] in
    if-none _ _ no
