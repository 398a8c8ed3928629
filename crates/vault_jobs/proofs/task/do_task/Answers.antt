use Rattle.std.proofs.Common.{refl, subst, sym}
use Rattle.std.specs.Prelude.{All}
use Rattle.vault_changes.specs.Settings.{HasLives}
use Rattle.vault_jobs.proofs.Parts.{change_done, give_done, serve_done, set_done, settle_done, show_done}
use Rattle.vault_jobs.proofs.Parts.{sweep_done, task_done, unlinked}
use Rattle.vault_jobs.proofs.task.do_task.Goals as goal

pub returns-in-Change-clause-does : goal.returns-in-Change-clause-does
returns-in-Change-clause-does g c =
    rw c.in-Change.is (unlinked (g.N.Network.tells c.args.network.now) _
    (change_done c.in-Change.command c.do_change.result.1 refl refl c.do_change.ensures.breaks
    c.do_change.ensures.noted c.do_change.ensures.does))

pub returns-in-Give-clause-does : goal.returns-in-Give-clause-does
returns-in-Give-clause-does g c =
    rw c.in-Give.is (unlinked (g.N.Network.tells c.args.network.now) _
    (give_done c.in-Give.rights c.in-Give.now _ c.deref.result.now c.deref.ensures.value
    (rw c.in-Give.is refl) refl refl c.do_give.ensures.breaks c.do_give.ensures.does))

pub returns-in-Sweep-clause-does : goal.returns-in-Sweep-clause-does
returns-in-Sweep-clause-does g c =
    rw c.in-Sweep.is (unlinked (g.N.Network.tells c.args.network.now) _
    (sweep_done c.in-Sweep.asker c.in-Sweep.now c.in-Sweep.giver c.do_sweep.result.1 refl refl
    c.do_sweep.ensures.breaks c.do_sweep.ensures.noted c.do_sweep.ensures.swept))

pub returns-in-Batch-clause-does : goal.returns-in-Batch-clause-does
returns-in-Batch-clause-does g c =
    rw c.in-Batch.is (unlinked (g.N.Network.tells c.args.network.now) _
    (task_done (λ V. refl) c.do_batch-ended.ensures.does tt refl c.do_batch-ended.ensures.caused
    c.do_batch-ended.ensures.breaks))

pub returns-in-Pipe-clause-does : goal.returns-in-Pipe-clause-does
returns-in-Pipe-clause-does g c =
    rw c.in-Pipe.is (unlinked (g.N.Network.tells c.args.network.now) _
    (task_done (λ V. refl) c.do_pipe.ensures.does tt refl c.do_pipe.ensures.caused c.do_pipe.ensures.breaks))

pub returns-in-Serve-clause-does : goal.returns-in-Serve-clause-does
returns-in-Serve-clause-does g c = rw c.in-Serve.is (
  c.serve_lists-ended.ensures.does.0,
  c.serve_lists-ended.ensures.does.1,
  serve_done c.in-Serve.service refl c.serve_lists-ended.ensures.breaks c.serve_lists-ended.ensures.does.2,
)

pub returns-in-Settle-clause-does : goal.returns-in-Settle-clause-does
returns-in-Settle-clause-does g c =
    rw c.in-Settle.is (unlinked (g.N.Network.tells c.args.network.now) _
    (settle_done c.in-Settle.rights c.in-Settle.now c.deref-in-Settle.result.now
    c.deref-in-Settle.ensures.value refl refl c.do_settle.ensures.breaks
    (rw c.in-Settle.is at c.do_settle.ensures.does)))

pub returns-in-SetMerchants-clause-does : goal.returns-in-SetMerchants-clause-does
returns-in-SetMerchants-clause-does g c =
    rw c.in-SetMerchants.is (unlinked (g.N.Network.tells c.args.network.now) _
    (set_done c.in-SetMerchants.rows c.in-SetMerchants.now c.deref-in-SetMerchants.result.now
    c.deref-in-SetMerchants.ensures.value refl refl c.do_set_merchants.ensures.breaks
    (rw c.in-SetMerchants.is at c.do_set_merchants.ensures.does)))

pub do_set_merchants-requires-clause-lives : goal.do_set_merchants-requires-clause-lives
do_set_merchants-requires-clause-lives g c =
    subst (All HasLives) (sym c.deref-in-SetMerchants.ensures.value)
    (rw c.in-SetMerchants.is at c.requires.proper)

pub returns-in-Show-clause-does : goal.returns-in-Show-clause-does
returns-in-Show-clause-does g c =
    rw c.in-Show.is (unlinked (g.N.Network.tells c.args.network.now) _
    (show_done c.in-Show.shown refl refl c.do_show.ensures.breaks c.do_show.ensures.does))
