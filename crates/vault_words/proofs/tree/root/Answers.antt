use Rattle.std.proofs.Common.{codes, true}
use Rattle.clap.specs.Words.{App, new_app}
use Rattle.vault_words.proofs.Added.{with_help, with_required, with_version}
use Rattle.vault_words.proofs.tree.root.Goals as goal

pub returns : goal.returns
returns c =
    let bare : App = new_app (codes "vault") in
    let told = with_version c.command.result c.version-named.result bare _ c.version-named.ensures
    c.command.ensures in
    let set = c.subcommand_required in
    let versioned = record bare { top = record bare.top { has_version = true } } in
    let required = record versioned { top = record versioned.top { subcommand_required = true } } in
    let helped = c.arg_required_else_help in
    with_help set.result helped.result required helped.ensures
    (with_required c.version-named.result set.result versioned set.ensures told)
