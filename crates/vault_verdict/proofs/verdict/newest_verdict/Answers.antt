use Rattle.vault_schema.specs.Versions.{newest}
use Rattle.vault_verdict.proofs.InVersion.{has_version_in}
use Rattle.vault_verdict.proofs.verdict.newest_verdict.Goals as goal

pub returns-in-Err-clause-versioned : goal.returns-in-Err-clause-versioned
returns-in-Err-clause-versioned g c clean n same ours =
    let it = (rw c.in-Err.is at (c.verdict.ensures.versioned clean)) n same ours in
    record { first = has_version_in newest _ ours; versions = it.versions; are = it.are; says = it.says }

pub returns-in-Err-clause-unread : goal.returns-in-Err-clause-unread
returns-in-Err-clause-unread g c clean = rw c.in-Err.is at (c.verdict.ensures.unread clean)
