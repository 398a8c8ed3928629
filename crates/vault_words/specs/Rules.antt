-- Rules for the arguments of a command, as clap sees commands and rules.
use Rattle.std.specs.Prelude.{◌≡◌, List, [], ◌∷◌, Some, true, false, codes}
use Rattle.clap.specs.Words.{App, Rule, Text, app_of, new_rule, rule_of, with_rule}
use Rattle.clap.specs.declared.builder.arg.Arg.{Arg}
use Rattle.clap.specs.declared.builder.command.Command.{Command}
use Rattle.clap.specs.declared.builder.command.Command.TheViews.{out-Command}
use Rattle.clap.specs.declared.builder.action.ArgAction.TheVariants.{Set, SetTrue}
use Rattle.clap.specs.declared.builder.value_parser.ValueParser.TheVariants as vp

-- one value that must be there, a text
abbrev pub text_rule : Text → Rule
text_rule id = record (new_rule id) { required = true; action = Some Set }

-- the same, a whole number of 64 bits
abbrev pub number_rule : Text → Rule
number_rule id = record (text_rule id) { parser = Some (vp.Unsigned 0 18446744073709551615) }

-- one value behind -- and its name, which may be left out: a text, with one name in help
abbrev pub text_option : Text → Rule
text_option id = record (new_rule id) { long = Some id; action = Some Set; value_names = 1 }

-- the same, a whole number of 64 bits
abbrev pub number_option : Text → Rule
number_option id = record (text_option id) { parser = Some (vp.Unsigned 0 18446744073709551615) }

-- the word -- and its name, which may be left out
abbrev pub flag_rule : Text → Rule
flag_rule id = record (new_rule id) { long = Some id; action = Some SetTrue }

-- --now T
abbrev pub now_rule : Rule
now_rule = number_option (codes "now")

-- --until T
abbrev pub until_rule : Rule
until_rule = number_option (codes "until")

-- --lead L
abbrev pub lead_rule : Rule
lead_rule = number_option (codes "lead")

-- --digits D
abbrev pub digits_rule : Rule
digits_rule = text_option (codes "digits")

-- a command with these arguments, in order
abbrev pub with_rules : App → List Rule → App
with_rules a [] = a
with_rules a (r ∷ rs) = with_rules (with_rule a r) rs

-- the argument has this rule, and doesn't go down to subcommands
abbrev pub IsArg : Arg → Rule → Type 0
IsArg arg rule = (rule_of arg ≡ rule) × (arg.global ≡ false)

-- the command is this one, and none of its arguments goes down to subcommands
pub record IsApp (c : Command) (a : App) : Type 0 where
  pub shape : app_of c ≡ a
  pub locals : (out-Command c).has_globals ≡ false
