use Rattle.std.proofs.Common.{◌≡◌, ◌∙◌, ◌++◌, List, ℕ, ℤ, ap, codes, subst, to_z, of_z, w64}
use Rattle.std.specs.Fmt.{digits, signed_decimal}
use Rattle.vault_schema.specs.Versions.{newest, number_of}
use Rattle.vault_live.specs.Told.{Tells}
use Rattle.vault_app.proofs.report.tell_version.Goals as goal

-- the newest version's text is in the line
pub returns : goal.returns
unfolding digits
returns g c =
    let old = g.W.Write.contents c.args.output.now.inner in
    let new = g.W.Write.contents c.tell.new.writer.inner in
    let written : c.format-schema.result.now ≡ signed_decimal (number_of newest) =
    c.format-schema.ensures.text
    ∙ ap (λ (z : ℤ). signed_decimal (to_z w64 (of_z w64 z))) c.number.ensures in
    subst (λ (text : List ℕ). Tells old new c.tell.new.writer.stopped
    (codes "vault " ++ codes "0.4.0" ++ codes ", schema " ++ text ++ codes "\n")) written c.tell.ensures
