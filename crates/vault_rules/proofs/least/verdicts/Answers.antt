use Rattle.std.proofs.Common.{◌&&◌, ap, sym, ◌∙◌}
use Rattle.std.specs.List.{filter_map, list_all}
use Rattle.vault_rules.proofs.least.verdicts.Goals as goal
use Rattle.vault_rules.specs.Rules as rules
use Rattle.vault_rules.specs.Verdicts.{AllTold, Told}

pub returns : goal.returns
returns c rows has =
    let m = has.merchants in
    let k = rows.cards in
    let e = has.entries in
    let one = c.is_current.ensures ∙ (λ i. rules.is_current (has.versions i) (has.replaced i)) in
    let two = c.are_named.ensures ∙ ap rules.are_named m in
    let three = c.are_lasting.ensures ∙ ap (list_all rules.is_lasting) m in
    let four = c.are_counts.ensures ∙ (λ i. list_all (rules.is_count (m i)) (has.counts i)) in
    let five = e.rules.tokens ∙ ap (λ ms. list_all (rules.has_token ms) rows.entries) m in
    let six = e.rules.numbers in
    let seven = e.rules.timed ∙ ap (λ ms. list_all (rules.at_moments ms rules.is_timed) rows.entries) m in
    let eight = e.rules.kept ∙ ap (λ ms. list_all (rules.at_moments ms rules.is_kept) rows.entries) m in
    let ten = c.are_counted.ensures k rows.entries e
    ∙ (λ i. list_all (rules.is_counted (has.counts i) rows.entries) (m i)) in
    let twelve = c.are_rights.ensures ∙ (λ i. list_all (rules.is_right (m i)) (has.rights i)) in
    let fourteen = c.have_leads.ensures ∙ ap (list_all rules.has_lead) m in
    let fifteen = c.have_ends.ensures ∙ ap (list_all rules.has_end) has.rights in
    Told one (λ so. Told two (λ so. Told three (λ so. Told four (λ so. Told five (λ tokens.
    Told six (λ numbers.
    let nine = e.live.alone (sym six ∙ numbers)
    ∙ (λ i. rules.are_distinct (filter_map (rules.live_key (m i) k) rows.entries)) in
    let eleven = has.records.kept k rows.entries e tokens in
    let thirteen = c.are_cards.ensures k rows.entries e tokens
    ∙ (λ i. list_all (rules.is_card (m i) rows.entries) k && list_all (rules.has_card k) rows.entries) in
    Told seven (λ so. Told eight (λ so. Told nine (λ so. Told ten (λ so. Told eleven (λ so.
    Told twelve (λ so. Told thirteen (λ so. Told fourteen (λ so. Told fifteen (λ so.
    AllTold)))))))))))))))
