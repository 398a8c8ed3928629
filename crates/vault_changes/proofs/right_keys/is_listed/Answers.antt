use Rattle.std.proofs.Common.{◌∙◌}
use Rattle.vault_changes.proofs.RightKeys.{listed_found}
use Rattle.vault_changes.proofs.right_keys.is_listed.Goals as goal

pub returns : goal.returns
returns c rows has = c.contains.ensures ∙ listed_found c.args.keys.now rows c.args.right.now has
