use Rattle.std.proofs.Common.{◌∙◌, ap, is_some, rules, SFits, slice_index_or, sym, true≢false, w64}
use Rattle.std.proofs.lemmas.Int.{to_z-of_z}
use Rattle.vault_rules.proofs.CardRows.{no_card}
use Rattle.vault_rules.proofs.entries.Entries.used.Goals as goal
use Rattle.vault_rules.specs.Kept.{place_of}

pub returns-in-Some : goal.returns-in-Some
returns-in-Some c cards raws has there =
    let fits : SFits w64 c.args.id = search rules in
    let at = ap (place_of cards) (sym (to_z-of_z w64 c.args.id fits)) ∙ sym (c.place.ensures _ cards has.held)
    ∙ c.in-Some.is in
    c.count_of.ensures ∙ ap (λ l. slice_index_or l c.in-Some.place 0) c.deref.ensures.value
    ∙ has.used c.args.id c.in-Some.place at

pub returns-in-None : goal.returns-in-None
returns-in-None c cards raws has there =
    let fits : SFits w64 c.args.id = search rules in
    let at = ap (place_of cards) (sym (to_z-of_z w64 c.args.id fits)) ∙ sym (c.place.ensures _ cards has.held)
    ∙ c.in-None.is in
    absurd (true≢false (sym there ∙ ap is_some (no_card cards c.args.id at)))
