use Rattle.std.proofs.Common.{List, ℕ, ◌++◌, codes, decimal, ap, subst, sym, w64, SFits, rules, ◌∙◌}
use Rattle.std.specs.Fmt.{signed_decimal}
use Rattle.std.proofs.lemmas.Int.{to_z-of_z}
use Rattle.vault_refusal.specs.Refusal.{number_of}
use Rattle.vault_live.specs.Told.{Tells}
use Rattle.vault_app.proofs.Lines.{with_detail, without_detail}
use Rattle.vault_app.proofs.report.tell_not_opened.Goals as goal

pub returns-in-None : goal.returns-in-None
returns-in-None g c =
    let old = g.E.Write.contents c.args.errors.now.inner in
    let new = g.E.Write.contents c.tell_lines.new.writer.inner in
    let none = sym c.detail.ensures ∙ c.in-None.is in
    subst (λ (line : List ℕ). Tells old new c.tell_lines.new.writer.stopped line)
    (ap (λ (behind : List ℕ). codes "vault: file not opened " ++ decimal c.number.result ++ codes "\n" ++ behind)
    c.cause.ensures
    ∙ without_detail c.args.fault.now c.number.result (c.number.ensures ∙ ap number_of c.refusal.ensures) none)
    c.tell_lines.ensures

pub returns-in-Some : goal.returns-in-Some
returns-in-Some g c =
    let old = g.E.Write.contents c.args.errors.now.inner in
    let new = g.E.Write.contents c.tell_both.new.writer.inner in
    let line = λ (text : List ℕ). codes "vault: file not opened " ++ decimal c.number-in-Some.result
    ++ (codes " " ++ text) ++ codes "\n" in
    let fits : SFits w64 c.in-Some.detail = search (rules, c.detail.type_inv, c.in-Some.is) in
    let written =
    c.format-text.ensures.text ∙ ap (λ m. signed_decimal m) (to_z-of_z w64 c.in-Some.detail fits) in
    let some = sym c.detail.ensures ∙ c.in-Some.is in
    subst (λ (line : List ℕ). Tells old new c.tell_both.new.writer.stopped line)
    (with_detail c.args.fault.now c.number-in-Some.result c.in-Some.detail
    (c.number-in-Some.ensures ∙ ap number_of c.refusal-in-Some.ensures) some)
    (subst (λ text. Tells old new c.tell_both.new.writer.stopped (line text)) written c.tell_both.ensures)
