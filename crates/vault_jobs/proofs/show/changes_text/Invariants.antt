use Rattle.std.proofs.Common.{◌≡◌, take}
use Rattle.vault_changes.specs.Changes.{changes_text}
use Rattle.vault_jobs.proofs.show.changes_text.Given as goal

abbrev pub invariant-loop-command : goal.invariant-loop-command
invariant-loop-command l = l.text.items ≡ changes_text (take l.command-index l.commands)
