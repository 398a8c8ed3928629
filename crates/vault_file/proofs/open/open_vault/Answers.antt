use Rattle.std.proofs.Common.{arith}
use Rattle.sqlite.specs.Files.{file_state}
use Rattle.sqlite.specs.State.{HasCleanDisk}
use Rattle.vault_file.proofs.Leaving.{stays}
use Rattle.vault_file.proofs.Whole.{stays_whole}
use Rattle.vault_file.proofs.open.open_vault.Goals as goal

pub returns-in-Err-default-Some-clause-rightly : goal.returns-in-Err-default-Some-clause-rightly
returns-in-Err-default-Some-clause-rightly g c image holds clean =
    let was : HasCleanDisk (file_state c.in-Err-default-Some.conn) =
    omega (arith, c.close.ensures.clean, clean) in
    (rw c.in-Err-default-Some.field-0-1-is at c.in-Err-default-Some.ensures.rightly) image holds was

pub returns-in-Err-default-Some-clause-same : goal.returns-in-Err-default-Some-clause-same
returns-in-Err-default-Some-clause-same g c image holds some =
    stays_whole image c.in-Err-default-Some.conn c.close.result
    ((rw c.in-Err-default-Some.field-0-1-is at c.in-Err-default-Some.ensures.same) image holds some)
    (λ clean. omega (arith, c.close.ensures.clean, clean)) c.close.ensures.after

pub returns-in-Err-default-Some-clause-left : goal.returns-in-Err-default-Some-clause-left
returns-in-Err-default-Some-clause-left g c image holds =
    stays image c.in-Err-default-Some.conn c.close.result
    ((rw c.in-Err-default-Some.field-0-1-is at c.in-Err-default-Some.ensures.left) image holds)
    (λ clean. omega (arith, c.close.ensures.clean, clean))
    c.close.ensures.after
