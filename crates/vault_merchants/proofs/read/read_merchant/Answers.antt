use Rattle.std.proofs.Common.{rules, ◌≡◌, ◌∙◌, Some, ap, inl, inr, refl, subst, sym}
use Rattle.toml.specs.Data.{as_table}
use Rattle.toml.specs.View.{table_view, view}
use Rattle.vault_core.specs.Name.{IsName}
use Rattle.vault_rights.proofs.Members.{some_same}
use Rattle.vault_merchants.specs.ListedMerchants.{IsTableOf}
use Rattle.vault_merchants.proofs.read.read_merchant.Goals as goal

pub returns-in_default-parts_of-clause-fault : goal.returns-in_default-parts_of-clause-fault
returns-in_default-parts_of-clause-fault c =
    let named : IsName c.args.key.now = search (rules, c.in-Ok.ensures.name, c.as_bytes.ensures.value) in
    let got = rw c.in-Some.is at c.as_table.ensures in
    inr
    (inl (
      named,
      λ single multi lead sweeper (members, is, of).
          c.in_default-parts_of.ensures.none single multi lead sweeper
          (subst (λ ms. IsTableOf ms single multi lead sweeper)
          (sym (some_same (got ∙ ap as_table is))) of),
      refl,
    ))
