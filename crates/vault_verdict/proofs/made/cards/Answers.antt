use Rattle.std.proofs.Common.{◌≡◌, ◌<◌, ◌∙◌, ◌∷◌, ◌+◌, ◌++◌, List, [], arith, length, map, sym}
use Rattle.std.proofs.Common.{subst, take}
use Rattle.std.specs.List.{filter_map}
use Rattle.vault_tables.specs.CardTexts.{card_values}
use Rattle.vault_verdict.specs.Made.{as_card}
use Rattle.vault_tables.specs.Taken.{CardsTaken}
use Rattle.vault_verdict.proofs.More.{card_more, none_more, of_all}
use Rattle.vault_verdict.proofs.made.cards.Goals.{in-Some+in_ok-take, in_default}
use Rattle.vault_verdict.proofs.made.cards.Goals as goal
use Rattle.vault_rules.specs.declared.index.Index.{Index}
use Rattle.vault_rules.specs.declared.rows.RawCard.{RawCard}

pub loop-older-preserved : goal.loop-older-preserved
loop-older-preserved c =
    let olders = c.args.olders.now in
    let i = c.loop-older.older-index in
    let inside : i < length olders =
    omega (arith, c.loop-older-test.true, c.loop-older.auto.older-index-end) in
    let inv = c.loop-older.invariant in
    let raws = inv.0 in
    let o = c.older-item.result in
    let given = c.in_ok-card.field-0 in
    let P : Index → Type 0 =
    λ x. (raws : List RawCard) × CardsTaken c.args.start x raws
    × (filter_map as_card (take (i + 1) olders) ≡ map card_values raws) in
    elim c.match-branch-2.branch [
      | in-Some+in_ok-take w ↦ subst P (sym w.index-is) (
        raws ++ w.in-Some.card ∷ [],
        λ none.
            let before = inv.1 none in (
              w.in_ok-take.ensures.merchants ∙ before.0,
              w.in_ok-take.ensures.counts ∙ before.1,
              w.in_ok-take.ensures.taken raws before.2,
            ),
        card_more olders i o inside c.older-item.is raws inv.2 given c.in_ok-card.ensures
            w.in-Some.card w.in-Some.is,
      )
      | in_default w ↦ subst P (sym w.index-is) (
        raws,
        inv.1,
        none_more olders i o inside c.older-item.is raws inv.2 given c.in_ok-card.ensures w.in_default.is,
      )
    ]

pub returns-clause-made : goal.returns-clause-made
returns-clause-made c =
    let inv = c.loop-older.invariant in (
      inv.0,
      inv.1,
      of_all (filter_map as_card) c.args.olders.now c.loop-older.older-index _
          (omega (arith, c.loop-older.auto.older-index-end, c.loop-older-test.false)) inv.2,
    )
