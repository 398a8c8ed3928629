use Rattle.std.proofs.Common.{◌<◌, ◌++◌, ◌∷◌, [], ap, arith, length, map, sym, take, ◌∙◌}
use Rattle.std.proofs.lemmas.List.{map-append, take_more}
use Rattle.vault_tables.specs.EntryTexts.{entry_values}
use Rattle.vault_verdict.specs.Made.{as_entry}
use Rattle.vault_verdict.proofs.More.{of_all}
use Rattle.vault_verdict.proofs.made.entries.Goals as goal

pub returns-clause-made : goal.returns-clause-made
returns-clause-made c =
    let inv = c.loop-older.invariant in (
      inv.0,
      inv.1,
      of_all (map as_entry) c.args.olders.now c.loop-older.older-index _
          (omega (arith, c.loop-older.auto.older-index-end, c.loop-older-test.false)) inv.2,
    )

pub loop-older-preserved : goal.loop-older-preserved
loop-older-preserved c =
    let olders = c.args.olders.now in
    let i = c.loop-older.older-index in
    let o = c.older-item.result in
    let e = c.in_ok-entry.entry in
    let inv = c.loop-older.invariant in
    let raws = inv.0 in
    let inside : i < length olders =
    omega (arith, c.loop-older-test.true, c.loop-older.auto.older-index-end) in (
      raws ++ e ∷ [],
      λ cards none.
          let before = inv.1 cards none in
          (c.in_ok-take.ensures.index ∙ before.0, c.in_ok-take.ensures.taken cards raws before.1),
      ap (map as_entry)
          (take_more olders i o inside ∙ ap (λ y. take i olders ++ y ∷ []) (sym c.older-item.is))
          ∙ map-append as_entry (take i olders) (o ∷ [])
          ∙ (λ j. inv.2 j ++ sym c.in_ok-entry.ensures j ∷ [])
          ∙ sym (map-append entry_values raws (e ∷ [])),
    )
