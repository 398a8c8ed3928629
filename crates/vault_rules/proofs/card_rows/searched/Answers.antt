use Rattle.std.proofs.Common.{◌∙◌, ap, rules, SFits, w64}
use Rattle.std.proofs.lemmas.Int.{to_z-of_z}
use Rattle.std.proofs.lemmas.List.Sorted.{answers_always}
use Rattle.std.specs.Ordering.{int_eq}
use Rattle.std.specs.Prelude.{position}
use Rattle.vault_rules.proofs.Places as places
use Rattle.vault_rules.proofs.card_rows.searched.Goals as goal
use Rattle.vault_rules.specs.declared.card_rows.Card.{Card}

-- the closure gives a card's id
pub returns : goal.returns
returns c rising =
    let facts = c.binary_search_by_key.ensures in
    let by_id =
    facts.position (λ (card : Card). card.id) (answers_always _ _ _ (λ f a r g called. search rules)) in
    let fits : SFits w64 c.args.id = search rules in
    c.ok.ensures.value
    ∙ places.searched (λ (card : Card). card.id) _ c.args.kept.now _ rising facts.bound by_id
    ∙ ap (λ id. position (λ (card : Card). int_eq card.id id) c.args.kept.now) (to_z-of_z w64 c.args.id fits)
