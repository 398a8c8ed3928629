use Rattle.std.proofs.Common.{◌∙◌, ap, option_map, rules, Some, sym, SFits, w64}
use Rattle.std.proofs.lemmas.Int.{to_z-of_z}
use Rattle.std.specs.Option.{option_copied}
use Rattle.vault_rules.proofs.CardRows.{live_kept}
use Rattle.vault_rules.proofs.rules.live.live_key.Goals as goal
use Rattle.vault_rules.specs.HeldRows.{seen_card}
use Rattle.vault_rules.specs.Packed.{packed}
use Rattle.vault_rules.specs.Rules.{is_live_multi}

pub returns-then-is_pan : goal.returns-then-is_pan
returns-then-is_pan c merchants cards is fits =
    let e = c.args.found.now.entry.now in
    let m = c.in_ok-merchant.merchant.now in
    let whole : SFits w64 m.moment = search rules in
    let digits = c.packed.ensures ∙ ap packed c.bytes-number.ensures.value in
    (λ i. Some (digits i, c.as_str.ensures.value i))
    ∙ sym (live_kept merchants cards e m (seen_card c.in-Some.card)
    (sym is.merchant ∙ ap option_copied c.in_ok-merchant.was)
    (ap (option_map seen_card) (sym c.in-Some.is) ∙ is.card)
    (ap (λ z. is_live_multi z e) (sym (to_z-of_z w64 m.moment whole)) ∙ sym c.is_live.ensures
    ∙ c.if-is_live.true) fits)
