use Rattle.std.proofs.Common.{◌≡◌, ◌&&◌, ◌∙◌, ap, sym, false, option_map}
use Rattle.std.proofs.Math.Bool.{and-false}
use Rattle.vault_rules.proofs.TokenLemmas.{none_of}
use Rattle.vault_rules.proofs.entries.tokens.Tokens.usage.Goals as goal
use Rattle.vault_rules.specs.Lookups.{is_known}
use Rattle.vault_rules.specs.Texts.{is_token}
use Rattle.vault_rules.specs.declared.rows.RawEntry.{RawEntry}
use Rattle.std.specs.Prelude.{string_bytes}

pub returns-then-not-is_token : goal.returns-then-not-is_token
returns-then-not-is_token c merchants raws hold all known =
    let name = string_bytes c.args.merchant.now.name in
    let none : is_token c.args.token.now ≡ false = sym c.is_token.ensures ∙ search (c.if-not-is_token.true) in
    sym (ap (option_map (λ (e : RawEntry). e.usage))
    (none_of merchants raws name c.args.token.now all
    (ap (λ b. is_known merchants name && b) none ∙ and-false (is_known merchants name))))
