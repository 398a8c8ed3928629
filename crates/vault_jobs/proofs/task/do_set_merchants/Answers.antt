use Rattle.std.proofs.Common.{◌∙◌, ap, codes, decimal, inl, inr, refl, subst}
use Rattle.std.specs.Io.KnownBytes.{Appends}
use Rattle.vault_wire.specs.Watching.{inner_of}
use Rattle.vault_jobs.specs.Doing.{AppendsPart}
use Rattle.vault_jobs.proofs.Lines.{three}
use Rattle.vault_jobs.proofs.task.do_set_merchants.Goals as goal

pub returns-in-Ok-clause-does : goal.returns-in-Ok-clause-does
returns-in-Ok-clause-does g c =
    let it = c.in-Ok-Ok-default in
    inl (
      it.commands.items,
      it.ensures.changes,
      (
        c.in-Ok.ensures.writer_ok,
        subst (Appends (g.W.Write.contents (inner_of c.args.output.now))
            (g.W.Write.contents (inner_of c.answer.new.output)))
            (three (codes "merchants set ") c.format.result.now _ (codes "\n")
            (c.format.ensures.text ∙ ap decimal (c.len.ensures ∙ it.commands.ok.0)))
            c.in-Ok.ensures.answered,
        rw it.field-0-0-is at it.ensures.carried,
      ),
    )

pub returns-in-Ok-Ok-default-clause-does : goal.returns-in-Ok-Ok-default-clause-does
returns-in-Ok-Ok-default-clause-does g c =
    let it = c.in-Ok-Ok-default in
    inl (
      it.commands.items,
      it.ensures.changes,
      (
        c.in-Err-answer.ensures.failed.0,
        c.in-Err-answer.ensures.failed.1,
        rw it.field-0-0-is at it.ensures.carried,
        subst (AppendsPart (g.W.Write.contents (inner_of c.args.output.now))
            (g.W.Write.contents (inner_of c.answer.new.output)))
            (three (codes "merchants set ") c.format.result.now _ (codes "\n")
            (c.format.ensures.text ∙ ap decimal (c.len.ensures ∙ it.commands.ok.0)))
            c.in-Err-answer.ensures.cut,
      ),
    )

pub returns-in-Ok-Err-default-clause-does : goal.returns-in-Ok-Err-default-clause-does
returns-in-Ok-Err-default-clause-does g c =
    let it = c.in-Ok-Err-default in
    inl (it.field-0-1.items, it.ensures.changes, (refl, rw it.field-0-0-is at it.ensures.carried))

pub returns-clause-does : goal.returns-clause-does
returns-clause-does g c = elim c.in-Err.ensures.failed [
  | inl (cs, of, h) ↦ inl (cs, of, (refl, h))
  | inr h ↦ inr (c.in-Err.fault, refl, refl, h)
]
