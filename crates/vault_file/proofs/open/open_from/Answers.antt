use Rattle.std.proofs.Common.{arith}
use Rattle.sqlite.specs.Files.{file_state}
use Rattle.vault_file.proofs.Leaving.{leaves_from, older_left}
use Rattle.vault_file.proofs.Opening.{opens_from, spares, tells_found}
use Rattle.vault_file.proofs.Whole.{leaves_whole, opened_less, some_there}
use Rattle.vault_file.proofs.open.open_from.Goals as goal
use Rattle.vault_store.specs.Applied.{tables_of}

pub returns-in-Ok-open-clause-found : goal.returns-in-Ok-open-clause-found
returns-in-Ok-open-clause-found g c image holds =
    opens_from (c.in-Ok.ensures.opened image holds)
    (c.in-Ok.ensures.again image holds) (tables_of c.in-Ok-open.vault).conn c.in-Ok.ensures.unlimited
    (c.in-Ok.ensures.either image holds) (c.in-Ok.ensures.first image holds) c.in-Ok-open.ensures.opens.opens
    c.in-Ok-open.ensures.opens.clean

pub returns-in-Ok-open-clause-no_path : goal.returns-in-Ok-open-clause-no_path
returns-in-Ok-open-clause-no_path g c none = absurd (cc (c.in-Ok.ensures.no_path none))

pub returns-in-Err-open-clause-no_path : goal.returns-in-Err-open-clause-no_path
returns-in-Err-open-clause-no_path g c none = absurd (cc (c.in-Ok.ensures.no_path none))

pub returns-in-Err-open-clause-rightly : goal.returns-in-Err-open-clause-rightly
returns-in-Err-open-clause-rightly g c image holds clean =
    let refused = c.in-Err-open.ensures.refused in
    record {
      tells = tells_found (c.in-Ok.ensures.opened image holds) (c.in-Ok.ensures.again image holds)
          c.in-Err-open.refusal.1 c.in-Err-open.refusal.0 refused.spared (λ some. (refused.nothing_new some).clean)
          clean
          (refused.damaged clean) (refused.wrong clean);
      spared = spares (c.in-Ok.ensures.opened image holds) (c.in-Ok.ensures.again image holds)
          c.in-Err-open.refusal.1 c.in-Err-open.refusal.0 refused.spared (λ some. (refused.nothing_new some).clean)
          clean
          (c.in-Ok.ensures.either image holds) (c.in-Ok.ensures.first image holds);
    }

pub returns-in-Err-open-clause-same : goal.returns-in-Err-open-clause-same
returns-in-Err-open-clause-same g c image holds some clean =
    leaves_whole image c.in-Ok.conn c.in-Err-open.refusal.1 (c.in-Ok.ensures.opened image holds)
    c.settled.ensures c.in-Err-open.ensures.refused.leaves.clean
    (λ whole. opened_less c.in-Ok.conn c.in-Err-open.refusal.1 _ c.in-Err-open.refusal.0
    (some_there image c.in-Ok.conn (c.in-Ok.ensures.opened image holds) some
    (omega (arith, c.in-Err-open.ensures.refused.leaves.clean, whole)))
    c.told-told.result.0 c.told-told.result.1 c.told-told.ensures.version c.told-told.ensures.holder
    c.in-Err-open.ensures.refused.nothing_new c.in-Err-open.ensures.mixed c.in-Err-open.ensures.strange whole) clean

pub returns-in-Err-open-clause-left : goal.returns-in-Err-open-clause-left
returns-in-Err-open-clause-left g c image holds =
    leaves_from image c.in-Ok.conn c.in-Err-open.refusal.1 (c.in-Ok.ensures.opened image holds)
    c.in-Ok.ensures.unlimited c.in-Err-open.ensures.refused.leaves.left c.in-Err-open.ensures.refused.leaves.clean
    (older_left (file_state c.in-Ok.conn) (file_state c.in-Err-open.refusal.1) c.settled.ensures
    c.in-Err-open.ensures.refused.nothing_new)
    (c.in-Ok.ensures.again image holds)
    (c.in-Ok.ensures.either image holds) (c.in-Ok.ensures.first image holds)
