-- `trial`: messages answered by a vault in memory.
use Rattle.std.specs.Prelude.{List, None, ◌≡◌, ◌≢◌, false}
use Rattle.vault_core.specs.Scalar.{IsLife}
use Rattle.vault_engine.specs.declared.stop.Stop.{Stop as ServeFault}
use Rattle.vault_engine.specs.declared.stop.Stop.TheVariants as service
use Rattle.vault_listen.specs.Live.{AreGiven, Turns}
use Rattle.vault_words.specs.declared.commands.trial.TrialJob.{TrialJob}
use Rattle.vault_jobs.specs.Causes.{IsCauseOf}
use Rattle.vault_jobs.specs.Moments.{IsMomentOf}
use Rattle.vault_jobs.specs.Streams.{Streams}
use Rattle.vault_jobs.specs.Trial as memory
use Rattle.vault_jobs.specs.declared.stop.Stop.TheVariants as stop
use Rattle.vault_jobs.specs.declared.trial.Trial.{Trial as Asked}
use Rattle.vault_app.specs.Asked.{MisnamesAsker}
use Rattle.vault_app.specs.Endings.{EndsSo, no_ending}
use Rattle.vault_app.specs.Saying.{OfTrial, Saying, quiet}
use Rattle.vault_app.specs.World.{World}
use Rattle.vault_app.specs.declared.ending.Ending.{Ending}
use Rattle.vault_core.specs.Vault.{Vault as Content}
use Rattle.vault_engine.specs.Asking.{Pair}

-- the trial that the words ask for
pub record IsTrialOf (world : World) (j : TrialJob) (t : Asked) : Type 0 where
  pub caller : t.caller ≡ j.caller.now
  pub merchant : t.merchant ≡ j.merchant.now
  pub life : t.life ≡ j.life
  pub made : IsMomentOf world.tells j.now t.made
  pub moment : t.moment ≡ j.now
  pub digits : t.digits ≡ j.digits

-- its caller or its merchant may be no name
abbrev pub trial_says : TrialJob → Saying
trial_says j = record (quiet (OfTrial (λ world t. IsTrialOf world j t))) {
  lives = IsLife j.life;
  misnamed = MisnamesAsker j.caller.now j.merchant.now;
  needs_moment = j.now ≡ None;
}

-- how a trial ends: with the answers of its vault, or with the first of them
abbrev pub TrialEnds : Turns → Asked → Ending → Streams → Type 0
TrialEnds tells t ending s =
    let Own : List Pair → Type 0 = AreGiven tells t.moment t.digits in
    let V : Content = memory.trial_vault t.caller t.merchant t.life t.made in
    EndsSo (record no_ending {
      done = (s.writer ≡ false) × memory.IsTrial Own V s.left_old s.left_new s.sent_old s.sent_new;
      stopped = λ why. IsCauseOf why s
          × ((fault : ServeFault) × (why ≡ stop.Service fault) × (fault ≢ service.Store))
          × memory.IsCut Own V s.left_old s.left_new s.sent_old s.sent_new;
    }) ending
