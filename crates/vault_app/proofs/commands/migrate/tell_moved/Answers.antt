use Rattle.std.proofs.Common.{◌≡◌, ◌∙◌, ◌++◌, List, ℕ, ℤ, ap, codes, subst, to_z, of_z, w64}
use Rattle.std.specs.Fmt.{digits, signed_decimal}
use Rattle.vault_schema.specs.Versions.{newest, number_of}
use Rattle.vault_app.specs.Endings.{LineEnds}
use Rattle.vault_jobs.specs.Streams.{output_of}
use Rattle.vault_app.proofs.commands.migrate.tell_moved.Goals as goal

-- the version is the newest, and its text is in the line
pub returns : goal.returns
unfolding digits
returns g c =
    let last : c.in-Ok.version ≡ number_of newest = rw c.in-Ok.is at c.requires in
    let written : c.format.result.now ≡ signed_decimal (number_of newest) =
    c.format.ensures.text ∙ ap (λ (z : ℤ). signed_decimal (to_z w64 (of_z w64 z))) last in
    rw c.in-Ok.is (
      c.end_with-line.result,
      subst (λ (text : List ℕ). LineEnds (codes "schema " ++ text ++ codes "\n") c.end_with-line.result
          (output_of g.W.Write.contents c.args.output.now c.end_with-line.new.output)) written
          c.end_with-line.ensures,
      c.end_beside.ensures,
    )
