use Rattle.std.proofs.Common.{◌∙◌, ◌∷◌, ◌++◌, [], ap, map, rules, SFits, subst, sym}
use Rattle.std.proofs.Common.{w64}
use Rattle.std.proofs.lemmas.Int.{to_z-of_z}
use Rattle.std.proofs.lemmas.List.{map-append}
use Rattle.vault_rules.proofs.card_rows.Cards.take.Goals as goal
use Rattle.vault_rules.specs.HeldRows.{seen_card}
use Rattle.vault_rules.specs.Kept.{KeptCard, kept_card, short_text}
use Rattle.vault_rules.specs.RisingNumbers.{IsRisingOver}
use Rattle.vault_rules.specs.declared.rows.RawCard.{RawCard}

pub returns-clause-taken : goal.returns-clause-taken
returns-clause-taken c merchants found raws held =
    let old = c.args.self.now in
    let card = c.args.card.now in
    let numbered : SFits w64 card.id = search rules in
    let used : SFits w64 card.uses = search rules in
    let number = c.short_text.ensures ∙ ap short_text c.as_str.ensures.value in
    let id = to_z-of_z w64 card.id numbered in
    let uses = to_z-of_z w64 card.uses used in
    record {
      kept =
          ap (map seen_card) c.in-Ok.ensures.items ∙ map-append seen_card old.kept.items _
          ∙ (λ i. held.kept i ++ (let k : KeptCard = record {
            id = id i;
            uses = uses i;
            merchant = found i;
            number = number i;
          } in k) ∷ [])
          ∙ sym (map-append (kept_card merchants) raws (card ∷ []));
      rowids = subst (IsRisingOver c.take.new.self)
          (sym (map-append (λ (r : RawCard). r.id) raws (card ∷ [])))
          (subst (λ z. IsRisingOver c.take.new.self (map (λ (r : RawCard). r.id) raws ++ z ∷ [])) id
          (c.take.ensures _ held.rowids));
    }
