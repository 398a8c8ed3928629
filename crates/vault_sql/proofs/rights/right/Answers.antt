use Rattle.vault_sql.proofs.Calls.{tells_of}
use Rattle.vault_sql.proofs.rights.right.Goals as goal

pub returns : goal.returns
returns g c =
    tells_of c.find.ensures
    (λ V cards pointing found are is. rw (c.caller_text.ensures, c.merchant_text.ensures) at is)
