use Rattle.vault_batch.proofs.TokenReplies.{rows_show}
use Rattle.vault_batch.proofs.laws.rows_have_lines.Goals as goal

pub returns : goal.returns
returns c = rows_show
