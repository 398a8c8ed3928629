use Rattle.std.proofs.Common.{arith}
use Rattle.sqlite.specs.Files.{file_state}
use Rattle.sqlite.specs.State.{HasCleanDisk}
use Rattle.sqlite.specs.View.{IsClean}
use Rattle.sqlite_store.specs.FileStore.{view}
use Rattle.vault_file.proofs.Leaving.{stays}
use Rattle.vault_file.proofs.Moving.{moves_as, stays_old}
use Rattle.vault_file.proofs.Whole.{stays_whole}
use Rattle.vault_file.proofs.migrate.migrate_file.Goals as goal

pub returns-in-Ok-clause-no_path : goal.returns-in-Ok-clause-no_path
returns-in-Ok-clause-no_path g c none = absurd (c.in-Ok.ensures.no_path none)

pub returns-in-Ok-clause-moved : goal.returns-in-Ok-clause-moved
returns-in-Ok-clause-moved g c image holds =
    moves_as image c.in-Ok.conn c.close.result (c.in-Ok.ensures.moved image holds)
    (λ clean. omega (arith, c.close.ensures.clean, clean)) c.close.ensures.after

pub returns-in-Err-default-Some-clause-left : goal.returns-in-Err-default-Some-clause-left
returns-in-Err-default-Some-clause-left g c image holds =
    let conn = c.in-Err-default-Some.conn in
    let after = c.close-in-Err-default-Some.ensures.after in
    let was : IsClean (view c.close-in-Err-default-Some.result) → HasCleanDisk (file_state conn) =
    λ clean. omega (arith, c.close-in-Err-default-Some.ensures.clean, clean) in
    let left = (rw c.in-Err-default-Some.field-0-1-is at c.in-Err-default-Some.ensures.left) image holds in
    let rightly = (rw c.in-Err-default-Some.field-0-1-is at c.in-Err-default-Some.ensures.rightly) in
    record {
      refuses = λ clean. rightly image holds (was clean);
      stays = stays image conn _ left.left was after;
      old = stays_old image conn _ c.in-Err-default-Some.fault left.old was after;
      same = λ other. stays_whole image conn _ (left.same other) was after;
      same_unmoved = λ some none. stays_whole image conn _ (left.same_unmoved some none) was after;
    }
