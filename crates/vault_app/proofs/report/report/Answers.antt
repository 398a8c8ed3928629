use Rattle.std.proofs.Common.{ℕ, List, ◌++◌, ◌∙◌, ap, ap₂, append-nil, codes, refl, subst}
use Rattle.vault_wire.specs.Watching.{inner_of, is_stopped}
use Rattle.vault_app.specs.Ending.{refusal_line, stop_line}
use Rattle.vault_refusal.specs.Refusal.{number_of}
use Rattle.vault_live.specs.Told.{Tells}
use Rattle.vault_app.proofs.report.report.Goals as goal

pub returns-in-Noted-clause-said : goal.returns-in-Noted-clause-said
returns-in-Noted-clause-said g c =
    let old = g.E.Write.contents (inner_of c.args.errors.now) in
    let told = c.tell.new.writer in
    let new = g.E.Write.contents (inner_of told) in
    rw c.in-Noted.is (
      refl,
      subst (λ (t : List ℕ). Tells old new (is_stopped told) t)
          (append-nil c.line.result.now ∙ c.line.ensures) c.tell.ensures,
    )

pub returns-in-Misnamed-clause-said : goal.returns-in-Misnamed-clause-said
returns-in-Misnamed-clause-said g c =
    let sent = c.tell_numbered-in-Misnamed.new.writer in
    let old = g.E.Write.contents (inner_of c.args.errors.now) in
    let told = c.tell-in-Misnamed.new.writer in
    let new = g.E.Write.contents (inner_of told) in
    rw c.in-Misnamed.is (
      subst (λ (n : ℕ). Tells (g.W.Write.contents (inner_of c.args.output.now))
          (g.W.Write.contents (inner_of sent)) (is_stopped sent) (refusal_line n)) c.number.ensures
          c.tell_numbered-in-Misnamed.ensures,
      subst (λ (t : List ℕ). Tells old new (is_stopped told) t)
          (append-nil c.line-in-Misnamed.result.now ∙ c.line-in-Misnamed.ensures) c.tell-in-Misnamed.ensures,
    )

pub returns-in-Unfinished-clause-said : goal.returns-in-Unfinished-clause-said
returns-in-Unfinished-clause-said g c =
    let sent = c.tell_numbered-in-Unfinished.new.writer in
    let old = g.E.Write.contents (inner_of c.args.errors.now) in
    let told = c.tell-in-Unfinished.new.writer in
    let new = g.E.Write.contents (inner_of told) in
    rw c.in-Unfinished.is (
      subst (λ (n : ℕ). Tells (g.W.Write.contents (inner_of c.args.output.now))
          (g.W.Write.contents (inner_of sent)) (is_stopped sent) (refusal_line n))
          c.number-in-Unfinished.ensures c.tell_numbered-in-Unfinished.ensures,
      subst (λ (t : List ℕ). Tells old new (is_stopped told) t)
          (append-nil c.unfinished.result.now ∙ c.unfinished.ensures) c.tell-in-Unfinished.ensures,
    )

pub returns-in-Stopped-clause-said : goal.returns-in-Stopped-clause-said
returns-in-Stopped-clause-said g c =
    let old = g.E.Write.contents c.args.errors.now.inner in
    let new = g.E.Write.contents c.tell_lines.new.writer.inner in
    rw c.in-Stopped.is (
      refl,
      subst (λ (t : List ℕ). Tells old new c.tell_lines.new.writer.stopped t)
          (ap₂ (λ (n : ℕ) (t : List ℕ). stop_line n ++ t)
          (c.number-in-Stopped.ensures ∙ ap number_of c.refusal.ensures) c.unread.ensures)
          c.tell_lines.ensures,
    )

pub returns-in-BadWords-clause-said : goal.returns-in-BadWords-clause-said
returns-in-BadWords-clause-said g c =
    let old = g.E.Write.contents (inner_of c.args.errors.now) in
    let told = c.tell-in-BadWords.new.writer in
    let new = g.E.Write.contents (inner_of told) in
    rw c.in-BadWords.is (
      refl,
      subst (λ (t : List ℕ). Tells old new (is_stopped told) (codes "vault: bad words\n" ++ t))
          (append-nil c.args.why.now) c.tell-in-BadWords.ensures,
    )
