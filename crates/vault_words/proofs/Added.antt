-- What a command is after one more argument, subcommand or setting.
use Rattle.std.proofs.Common.{◌≡◌, true, false, ◌||◌, ◌∙◌, ap, Some, Bor}
use Rattle.clap.specs.Built.{AddsArg, AddsSubcommand}
use Rattle.clap.specs.Simple.{app_of_fields, shape_of}
use Rattle.clap.specs.Words.{App, Rule, Text, rule_of, with_rule, with_subcommand}
use Rattle.clap.specs.declared.builder.arg.Arg.{Arg}
use Rattle.clap.specs.declared.builder.command.Command.{Command}
use Rattle.clap.specs.declared.builder.command.Command.TheViews.{out-Command}
use Rattle.vault_words.specs.Rules.{IsApp}

-- with one more argument
pub with_arg : (old new : Command) (x : Arg) (a : App) (rule : Rule) → AddsArg old x new
    → IsApp old a → rule_of x ≡ rule → x.global ≡ false → IsApp new (with_rule a rule)
with_arg old new x a rule adds is same local = record {
  shape = adds.shape local ∙ (ap (λ (b : App). with_rule b (rule_of x)) is.shape ∙ ap (with_rule a) same);
  locals = adds.globals ∙ (ap (λ b. b || x.global) is.locals ∙ ap (λ b. false || b) local);
}

-- with one more subcommand
pub with_sub : (old sub new : Command) (a s : App) → AddsSubcommand old sub new → IsApp old a
    → IsApp sub s → IsApp new (with_subcommand a s.top)
with_sub old sub new a s adds is has = record {
  shape = adds.shape has.locals
      ∙ (ap (λ (b : App). with_subcommand b (shape_of sub)) is.shape
      ∙ ap (λ (b : App). with_subcommand a b.top) has.shape);
  locals = adds.globals
      ∙ (ap (λ b. b || (out-Command sub).has_globals) is.locals ∙ ap (λ b. false || b) has.locals);
}

-- with a version
pub with_version : (old new : Command) (a : App) (text : Bor Text)
    → out-Command new ≡ record (out-Command old) { version = Some text } → IsApp old a
    → IsApp new (record a { top = record a.top { has_version = true } })
with_version old new a text sets is = record {
  shape = ap app_of_fields sets
      ∙ ap (λ (b : App). record b { top = record b.top { has_version = true } }) is.shape;
  locals = ap (λ f. f.has_globals) sets ∙ is.locals;
}

-- with a subcommand that must be named
pub with_required : (old new : Command) (a : App)
    → out-Command new ≡ record (out-Command old) { subcommand_required = true } → IsApp old a
    → IsApp new (record a { top = record a.top { subcommand_required = true } })
with_required old new a sets is = record {
  shape = ap app_of_fields sets
      ∙ ap (λ (b : App). record b { top = record b.top { subcommand_required = true } }) is.shape;
  locals = ap (λ f. f.has_globals) sets ∙ is.locals;
}

-- with help where no word stands
pub with_help : (old new : Command) (a : App)
    → out-Command new ≡ record (out-Command old) { arg_required_else_help = true } → IsApp old a
    → IsApp new (record a { top = record a.top { arg_required_else_help = true } })
with_help old new a sets is = record {
  shape = ap app_of_fields sets
      ∙ ap (λ (b : App). record b { top = record b.top { arg_required_else_help = true } }) is.shape;
  locals = ap (λ f. f.has_globals) sets ∙ is.locals;
}
