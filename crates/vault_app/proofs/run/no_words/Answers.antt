use Rattle.std.proofs.Common.{ℕ, List, append-nil, arith, subst}
use Rattle.vault_wire.specs.Watching.{inner_of, is_stopped}
use Rattle.vault_live.specs.Told.{Tells}
use Rattle.vault_app.specs.Ending.{stop_line}
use Rattle.vault_app.proofs.run.no_words.Goals as goal
use Rattle.vault_app.proofs.run.no_words.Goals.{in-OutOfMemory, in_default}

-- memory was refused for the words, so no list is named behind that
pub returns-clause-says_stopped : goal.returns-clause-says_stopped
returns-clause-says_stopped g c four =
    let old = g.E.Write.contents (inner_of c.args.errors.now) in
    let told = c.report.new.errors in
    let new = g.E.Write.contents (inner_of told) in
    elim c.match-kind.branch [
      | in-OutOfMemory w ↦
          subst (λ (t : List ℕ). Tells old new (is_stopped told) t) (append-nil (stop_line 20))
          (rw w.ending-is at c.report.ensures.said).1
      | in_default w ↦
          let two = rw w.ending-is at c.report.ensures.status in
          absurd (omega (arith, four, two))
    ]
