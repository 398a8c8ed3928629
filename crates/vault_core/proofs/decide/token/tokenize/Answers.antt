use Rattle.std.proofs.Common.{◌≡◌, sym, subst, ap, ◌∙◌, Option}
use Rattle.std.specs.Option.{option_map_or}
use Rattle.std.specs.Prelude.{IfNone}
use Rattle.vault_core.specs.Changes.{Yields}
use Rattle.vault_core.specs.Outcome.{Outcome, of_merchant, plain_refusal}
use Rattle.vault_core.specs.Tokens.{tokenize, earlier_request, new_request}
use Rattle.vault_core.specs.Vault.{Merchant}
use Rattle.vault_core.specs.Refusals.{no_merchant}
use Rattle.vault_core.specs.Window.{ShowsNewRequest}
use Rattle.vault_core.specs.declared.row.Entry.{Entry}
use Rattle.vault_core.specs.declared.row.Record.{Record}
use Rattle.vault_core.proofs.Recorded.{recorded-none}
use Rattle.vault_core.proofs.Shown.{shows_merchant}
use Rattle.vault_core.proofs.decide.token.tokenize.Goals as goal

pub returns-clause-settles : goal.returns-clause-settles
returns-clause-settles c V sound window =
    let a = c.args.asked.now in
    let shows : ShowsNewRequest V a c.args.w.now =
    subst (λ (o : Option (Record × Entry)). IfNone o (ShowsNewRequest V a c.args.w.now)) c.in_default.is
    window.others in
    let k = shows_merchant V sound a c.args.w.now c.in-Some-merchant.row shows c.in-Some-merchant.is in
    let new = recorded-none V sound a.caller a.request (sym window.before ∙ c.in_default.is) in
    let same : tokenize V a ≡ new_request V a k.0 =
    ap (λ (o : Option Record). option_map_or (earlier_request V a) o
    (of_merchant V a.merchant (new_request V a))) new
    ∙ ap (λ (o : Option Merchant). option_map_or (new_request V a) o (plain_refusal V no_merchant))
    k.1.known_as in
    subst (λ (o : Outcome). Yields V o c.new_request.result) (sym same)
    (c.new_request.ensures.yields V k.0 k.1)
