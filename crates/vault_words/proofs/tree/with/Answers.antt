use Rattle.std.proofs.Common.{IfOk, Result, subst}
use Rattle.std.proofs.lemmas.Result.{IfOk-weaker}
use Rattle.std.specs.declared.alloc.AllocError.{AllocError}
use Rattle.clap.specs.Words.{App}
use Rattle.clap.specs.declared.builder.command.Command.{Command}
use Rattle.vault_words.proofs.Added.{with_sub}
use Rattle.vault_words.specs.Rules.{IsApp}
use Rattle.vault_words.proofs.tree.with.Goals as goal

abbrev Makes : App → Result Command AllocError → Type 0
Makes a r = IfOk r (λ c. IsApp c a)

pub returns : goal.returns
returns c a s is has =
    let old = c.in_ok-command.field-0 in
    let sub = c.in_ok-subcommand.field-0 in
    let at : IsApp old a = subst (Makes a) c.in_ok-command.was is in
    let one : IsApp sub s = subst (Makes s) c.in_ok-subcommand.was has in
    IfOk-weaker c.subcommand.result _ _ (λ new adds. with_sub old sub new a s adds at one)
    c.subcommand.ensures
