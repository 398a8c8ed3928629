use Rattle.std.proofs.Common.{◌∙◌, ap, map, rules, SFits, sym, w64}
use Rattle.std.proofs.lemmas.Int.{to_z-of_z}
use Rattle.std.specs.Ordering.{int_eq}
use Rattle.std.specs.Prelude.{position}
use Rattle.vault_rules.proofs.CardRows.{ids_are, place_kept}
use Rattle.vault_rules.proofs.card_rows.Cards.place.Goals as goal
use Rattle.vault_rules.specs.RisingNumbers.{are_rising}
use Rattle.vault_rules.specs.declared.card_rows.Card.{Card}

pub returns-then-rises : goal.returns-then-rises
returns-then-rises c merchants raws held =
    let it = c.args.self.now in
    let fits : SFits w64 c.args.id = search rules in
    let id = to_z-of_z w64 c.args.id fits in
    let all = c.deref.ensures.value in
    c.searched.ensures
    (ap (λ l. are_rising (map (λ (card : Card). card.id) l)) all
    ∙ ap are_rising (ids_are merchants it raws held c.args.id) ∙ sym held.rowids.rises
    ∙ search (c.if-rises.true))
    ∙ (λ i. position (λ (card : Card). int_eq card.id (id i)) (all i))
    ∙ place_kept merchants it raws held c.args.id

pub returns-else-rises : goal.returns-else-rises
returns-else-rises c merchants raws held =
    let it = c.args.self.now in
    let fits : SFits w64 c.args.id = search rules in
    let id = to_z-of_z w64 c.args.id fits in
    let all = c.deref-else-rises.ensures.value in
    c.first_of.ensures ∙ (λ i. position (λ (card : Card). int_eq card.id (id i)) (all i))
    ∙ place_kept merchants it raws held c.args.id
