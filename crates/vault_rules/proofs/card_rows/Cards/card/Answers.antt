use Rattle.std.proofs.Common.{◌∙◌, ap, option_map, rules, SFits, slice_get, sym, w64}
use Rattle.std.proofs.lemmas.Int.{to_z-of_z}
use Rattle.vault_rules.proofs.CardRows.{kept_at, kept_nowhere}
use Rattle.vault_rules.proofs.card_rows.Cards.card.Goals as goal
use Rattle.vault_rules.specs.HeldRows.{seen_card}
use Rattle.vault_rules.specs.Kept.{place_of}

pub returns-in-Some : goal.returns-in-Some
returns-in-Some c merchants raws held =
    let it = c.args.self.now in
    let fits : SFits w64 c.args.id = search rules in
    let at = ap (place_of raws) (sym (to_z-of_z w64 c.args.id fits))
    ∙ sym (c.place.ensures merchants raws held) ∙ c.in-Some.is in
    ap (option_map seen_card)
    (c.card_at.ensures ∙ ap (λ l. slice_get l c.in-Some.place) c.deref.ensures.value)
    ∙ kept_at merchants it raws held c.args.id c.in-Some.place at

pub returns-in-None : goal.returns-in-None
returns-in-None c merchants raws held =
    let fits : SFits w64 c.args.id = search rules in
    let at = ap (place_of raws) (sym (to_z-of_z w64 c.args.id fits))
    ∙ sym (c.place.ensures merchants raws held) ∙ c.in-None.is in
    kept_nowhere merchants c.args.self.now raws held c.args.id at
