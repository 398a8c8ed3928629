use Rattle.std.proofs.Common.{IfOk, Result, subst}
use Rattle.std.proofs.lemmas.Result.{IfOk-weaker}
use Rattle.std.specs.declared.alloc.AllocError.{AllocError}
use Rattle.clap.specs.declared.builder.command.Command.{Command}
use Rattle.vault_words.proofs.Added.{with_arg}
use Rattle.vault_words.specs.Rules.{IsApp}
use Rattle.vault_words.proofs.args.add.Goals as goal

pub returns : goal.returns
returns c a rule is (same, local) =
    let old = c.in_ok-command.field-0 in
    let at : IsApp old a =
    subst (λ (r : Result Command AllocError). IfOk r (λ k. IsApp k a)) c.in_ok-command.was is in
    IfOk-weaker c.arg.result _ _ (λ new adds. with_arg old new c.args.arg a rule adds at same local)
    c.arg.ensures
