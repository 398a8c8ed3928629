use Rattle.std.proofs.Common.{◌∙◌, ap, bytes_eq, option_map, sym}
use Rattle.std.specs.Option.{option_copied}
use Rattle.vault_rules.proofs.CardRows.{card_is}
use Rattle.vault_rules.proofs.rules.cards.has_card.Goals as goal
use Rattle.vault_rules.specs.HeldRows.{seen_card}

pub returns-in-Some-merchant : goal.returns-in-Some-merchant
returns-in-Some-merchant c merchants cards is known =
    let e = c.args.found.now.entry.now in
    c.eq.ensures ∙ (λ i. bytes_eq (c.as_str.ensures.value i) (c.as_str-in-Some-merchant.ensures.value i))
    ∙ card_is merchants cards e (seen_card c.in-Some.card) c.in-Some-merchant.merchant.now
    (ap (option_map seen_card) (sym c.in-Some.is) ∙ is.card) (ap option_copied c.in-Some-merchant.is)
