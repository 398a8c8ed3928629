use Rattle.std.proofs.Common.{◌∙◌, arith, refl, sym}
use Rattle.vault_routes.proofs.FindLemmas.{AllText-found, IsText-bytes, route_of-named, route_of-unnamed}
use Rattle.vault_routes.proofs.FindLemmas.{taken_or_empty}
use Rattle.vault_routes.proofs.route.Routes.find.Goals as goal

pub returns-in_err-merchant : goal.returns-in_err-merchant
returns-in_err-merchant c =
    let plain = rw c.as_bytes.ensures.value at (sym c.contains.ensures.value ∙ c.if-contains.false) in
    let small = IsText-bytes c.args.target.now (λ k. (let f = c.type_inv.target k in omega (arith, f))) in
    let given = rw c.args.self.now.rows at c.in-Ok.ensures.found in
    let took = rw c.in-Ok.ensures.path at c.in_err-merchant.ensures in
    let none = took (AllText-found _ _ small c.utf8.target given) in
    rw c.from_residual.ensures (sym (route_of-unnamed _ _ plain given none))

pub returns : goal.returns
returns c =
    let plain = rw c.as_bytes.ensures.value at (sym c.contains.ensures.value ∙ c.if-contains.false) in
    let small = IsText-bytes c.args.target.now (λ k. (let f = c.type_inv.target k in omega (arith, f))) in
    let given = rw c.args.self.now.rows at c.in-Ok.ensures.found in
    let all = AllText-found _ _ small c.utf8.target given in
    let merchant = (rw c.in-Ok.ensures.path at c.in_ok-merchant.ensures) all in
    let took = (rw c.in-Ok.ensures.path at c.get-2.ensures) all in
    let token = taken_or_empty _ _ _ refl took in
    rw c.unwrap_or-token.ensures (sym (route_of-named _ _ _ _ plain given merchant token))
