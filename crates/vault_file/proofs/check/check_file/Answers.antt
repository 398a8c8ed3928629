use Rattle.std.proofs.Common.{arith}
use Rattle.sqlite.specs.Files.{file_state}
use Rattle.sqlite.specs.State.{HasCleanDisk}
use Rattle.sqlite.specs.View.{IsClean}
use Rattle.sqlite_store.specs.FileStore.{view}
use Rattle.vault_file.proofs.Leaving.{stays}
use Rattle.vault_file.proofs.Whole.{stays_whole}
use Rattle.vault_file.proofs.check.check_file.Goals as goal
use Rattle.vault_verdict.proofs.Holders.{no_sizes}

pub returns-in-Ok-clause-sound : goal.returns-in-Ok-clause-sound
returns-in-Ok-clause-sound g c image holds =
    let was : IsClean (view c.close.result) → HasCleanDisk (file_state c.in-Ok.conn) =
    λ clean. omega (arith, c.close.ensures.clean, clean) in
    record {
      sizes_are = λ clean. c.in-Ok.ensures.sizes image holds (was clean);
      kept = λ clean V sound keeps. (c.close.ensures.after clean).kept V
          (c.in-Ok.ensures.kept image holds (was clean) V sound keeps);
    }

pub returns-in-Err-default-Some-clause-rightly : goal.returns-in-Err-default-Some-clause-rightly
returns-in-Err-default-Some-clause-rightly g c image holds clean =
    let was : HasCleanDisk (file_state c.in-Err-default-Some.conn) =
    omega (arith, c.close-in-Err-default-Some.ensures.clean, clean) in
    (rw c.in-Err-default-Some.field-0-1-is at c.in-Err-default-Some.ensures.rightly) image holds was

pub returns-in-Ok-true-clause-empty : goal.returns-in-Ok-true-clause-empty
returns-in-Ok-true-clause-empty g c = λ _. (no_sizes, c.in-Ok-true.ensures c.in-Ok-true.field-0-test)

pub returns-in-Ok-clause-same : goal.returns-in-Ok-clause-same
returns-in-Ok-clause-same g c image holds =
    stays_whole image c.in-Ok.conn c.close.result (c.in-Ok.ensures.same image holds)
    (λ clean. omega (arith, c.close.ensures.clean, clean)) c.close.ensures.after

pub returns-in-Err-default-Some-clause-same : goal.returns-in-Err-default-Some-clause-same
returns-in-Err-default-Some-clause-same g c image holds =
    stays_whole image c.in-Err-default-Some.conn
    c.close-in-Err-default-Some.result
    ((rw c.in-Err-default-Some.field-0-1-is at c.in-Err-default-Some.ensures.same) image holds)
    (λ clean. omega (arith, c.close-in-Err-default-Some.ensures.clean, clean))
    c.close-in-Err-default-Some.ensures.after

pub returns-in-Ok-clause-left : goal.returns-in-Ok-clause-left
returns-in-Ok-clause-left g c image holds =
    stays image c.in-Ok.conn c.close.result (c.in-Ok.ensures.left image holds)
    (λ clean. omega (arith, c.close.ensures.clean, clean)) c.close.ensures.after

pub returns-in-Err-default-Some-clause-left : goal.returns-in-Err-default-Some-clause-left
returns-in-Err-default-Some-clause-left g c image holds =
    stays image c.in-Err-default-Some.conn c.close-in-Err-default-Some.result
    ((rw c.in-Err-default-Some.field-0-1-is at c.in-Err-default-Some.ensures.left) image holds)
    (λ clean. omega (arith, c.close-in-Err-default-Some.ensures.clean, clean))
    c.close-in-Err-default-Some.ensures.after

pub returns-in-Ok-clause-no_path : goal.returns-in-Ok-clause-no_path
returns-in-Ok-clause-no_path g c none = absurd (c.in-Ok.ensures.no_path none)
