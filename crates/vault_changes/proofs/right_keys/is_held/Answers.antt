use Rattle.std.proofs.Common.{◌∙◌}
use Rattle.vault_changes.proofs.RightKeys.{held_found}
use Rattle.vault_changes.proofs.right_keys.is_held.Goals as goal

pub returns : goal.returns
returns c held has = c.contains.ensures ∙ held_found c.args.keys.now held c.args.row.now has
