use Rattle.std.proofs.Common.{◌&&◌, ◌∙◌, ap, sym, is_some, option_map}
use Rattle.std.specs.Option.{option_copied}
use Rattle.vault_rules.proofs.LiveKeys.{merchant_named}
use Rattle.vault_rules.proofs.TokenLemmas.{none_of}
use Rattle.vault_rules.proofs.entries.Entries.usage.Goals as goal
use Rattle.vault_rules.specs.Lookups.{entry_of, is_known}
use Rattle.vault_rules.specs.Texts.{is_token}
use Rattle.vault_rules.specs.declared.rows.RawEntry.{RawEntry}

pub returns-in-None : goal.returns-in-None
returns-in-None c cards raws has tokens =
    let merchants = c.args.self.now.index.merchants.now in
    let unknown = sym c.merchant.ensures ∙ ap option_copied c.in-None.is in
    sym (ap (option_map (λ (e : RawEntry). e.usage))
    (none_of merchants raws c.args.merchant.now c.args.token.now (sym has.rules.tokens ∙ tokens)
    (ap (λ o. is_some o && is_token c.args.token.now) unknown)))

pub returns-in-Some : goal.returns-in-Some
returns-in-Some c cards raws has tokens =
    let merchants = c.args.self.now.index.merchants.now in
    let m = c.in-Some.merchant.now in
    let found = sym c.merchant.ensures ∙ ap option_copied c.in-Some.is in
    let named = merchant_named merchants c.args.merchant.now m found in
    let text = c.as_bytes.ensures.value in
    c.usage.ensures merchants raws has.tokens (sym has.rules.tokens ∙ tokens)
    (ap (is_known merchants) named ∙ ap is_some found)
    ∙ (λ i. option_map (λ (e : RawEntry). e.usage) (entry_of raws (named i) (text i)))
