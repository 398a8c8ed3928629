use Rattle.std.proofs.Common.{◌+◌, ◌≡◌, ◌≤◌, ℕ, Bool, List, arith, false, length, refl, true}
use Rattle.std.specs.Prelude.{nat_lt, not}
use Rattle.std.proofs.lemmas.List.Sums.{count_by-le-length, length-filter}
use Rattle.std.proofs.lemmas.Bool.Decides.{nat_tests}
use Rattle.vault_changes.specs.Settings.{Named}
use Rattle.vault_core.specs.declared.limit.TheConstants.{MOST_MERCHANTS}
use Rattle.vault_merchants.specs.ListedMerchants.{Wanted}
use Rattle.vault_live.specs.Known.{has_merchant, new_merchants}
use Rattle.vault_live.proofs.known.are_more.Goals as goal

-- no more rows are new than there are
few_new : (held : List Named) (rows : List Wanted) → new_merchants held rows ≤ length rows
few_new held rows =
    let is_new : Wanted → Bool = λ row. not (has_merchant held row.0) in
    omega (arith, length-filter is_new rows, count_by-le-length is_new rows)

pub returns-then-held-rows : goal.returns-then-held-rows
returns-then-held-rows c =
    let few = few_new c.args.held.now c.args.rows.now in
    let many : ℕ = length c.args.held.now + new_merchants c.args.held.now c.args.rows.now in
    elim (nat_lt MOST_MERCHANTS many) as (λ b. nat_lt MOST_MERCHANTS many ≡ b → false ≡ b) [
      | true ↦ λ more. grind (arith, nat_tests, more, few, c.if-held-rows.true)
      | false ↦ λ fits. refl
    ] refl

pub overflow_add-result : goal.overflow_add-result
overflow_add-result c =
    omega (arith, few_new c.args.held.now c.args.rows.now, c.count_new.ensures, c.well_formed, c)
