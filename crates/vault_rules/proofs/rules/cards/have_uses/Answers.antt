use Rattle.std.proofs.Common.{◌≡◌, ◌<◌, ◌≤◌, ◌∙◌, List, ap, get_or, sym, arith, length}
use Rattle.std.proofs.lemmas.List.{drop_all}
use Rattle.std.specs.List.{list_all}
use Rattle.vault_rules.specs.HeldRows.{seen_card}
use Rattle.vault_rules.specs.Kept.{is_used}
use Rattle.vault_rules.specs.Seen.{HasEntries}
use Rattle.vault_rules.specs.declared.card_rows.Card.{Card}
use Rattle.vault_rules.specs.declared.rows.RawCard.{RawCard}
use Rattle.vault_rules.specs.declared.rows.RawEntry.{RawEntry}
use Rattle.vault_rules.proofs.CardRows.{all_used, row_there}
use Rattle.vault_rules.proofs.Walks.{all_on, all_off}
use Rattle.vault_rules.proofs.rules.cards.have_uses.Goals.{After-is_card}
use Rattle.vault_rules.proofs.rules.cards.have_uses.Goals as goal

-- the card that is read is among the cards, and the test tells whether it is used
module _ (c : After-is_card) (cards : List RawCard) (raws : List RawEntry)
    (has : HasEntries c.args.entries.now cards raws) where
  abbrev kept : List Card
  kept = c.args.entries.now.index.cards.kept.items

  is : c.card-item.result ≡ get_or kept c.loop-card.card-index c.card-item.result
  is = let same = c.deref-card-items.ensures.value in rw same at c.card-item.is

  inside : c.loop-card.card-index < length kept
  inside = omega arith

  told : is_used raws (seen_card c.card-item.result) ≡ c.is_card.result
  told = sym (c.is_card.ensures cards raws has
      (row_there _ kept cards has.held.kept c.loop-card.card-index c.card-item.result inside is))

pub returns-then-not-is_card : goal.returns-then-not-is_card
returns-then-not-is_card c cards raws has =
    let at = (goal.at.returns-then-not-is_card c).After-is_card in
    all_off (λ c. is_used raws (seen_card c)) _ _ _ (inside at cards raws has) (is at cards raws has)
    (told at cards raws has ∙ search (c.if-not-is_card.true)) (c.loop-card.invariant cards raws has)
    ∙ all_used _ _ cards raws has.held

pub loop-card-preserved : goal.loop-card-preserved
loop-card-preserved c cards raws has =
    let at = (goal.at.loop-card-preserved c).After-is_card in
    all_on (λ c. is_used raws (seen_card c)) _ _ _ (inside at cards raws has) (is at cards raws has)
    (told at cards raws has ∙ search (c.if-not-is_card.false)) (c.loop-card.invariant cards raws has)

pub returns : goal.returns
returns c cards raws has =
    let kept = c.args.entries.now.index.cards.kept.items in
    let i = c.loop-card.card-index in
    let over : length kept ≤ i = omega (
      arith,
      c.loop-card-test.false,
      c.loop-card.auto.card-index-end,
      c.deref-card-items.ensures.len,
    ) in
    ap (list_all (λ c. is_used raws (seen_card c))) (sym (drop_all i kept over))
    ∙ c.loop-card.invariant cards raws has ∙ all_used _ _ cards raws has.held
