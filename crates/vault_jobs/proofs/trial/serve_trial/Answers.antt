use Rattle.std.proofs.Common.{◌⊎◌}
use Rattle.vault_core.specs.Vault.{Vault as Content}
use Rattle.vault_listen.specs.Live.{AreGiven, pairs_of}
use Rattle.vault_store.specs.HeldInMemory.{IsHeld}
use Rattle.vault_engine.specs.Passing.{Passage, giving, sending, vault_passing}
use Rattle.vault_jobs.specs.Streams.{Known}
use Rattle.vault_jobs.specs.Trial.{IsCut, trial_vault}
use Rattle.vault_jobs.specs.declared.trial.Trial.{Trial}
use Rattle.vault_listen.proofs.Turns.{given_since}
use Rattle.vault_jobs.proofs.Stops.{cut_piping, if_err_then, nothing_cut, on_err, on_ok_then}
use Rattle.vault_jobs.proofs.Stops.{trial_of}
use Rattle.vault_jobs.proofs.trial.serve_trial.Given.{Over}
use Rattle.vault_jobs.proofs.trial.serve_trial.Goals.{Start, After-pipe}
use Rattle.vault_jobs.proofs.trial.serve_trial.Goals as goal

-- the vault that a trial begins with
abbrev made : Trial → Content
made trial = trial_vault trial.caller trial.merchant trial.life trial.made

-- where no message is read
uncut : (g : Over) (c : Start g) → IsCut (AreGiven (g.K.Timekeeper.tells c.args.time.now)
    c.args.trial.now.moment c.args.trial.now.digits) (made c.args.trial.now)
    (g.R.Read.remaining c.args.input.now.inner) (g.R.Read.remaining c.args.input.now.inner)
    (g.W.Write.contents c.args.output.now.inner) (g.W.Write.contents c.args.output.now.inner)
uncut g c =
    nothing_cut (g.K.Timekeeper.tells c.args.time.now) (g.R.Read.remaining c.args.input.now.inner)
    (g.W.Write.contents c.args.output.now.inner) (made c.args.trial.now) c.args.trial.now.moment
    c.args.trial.now.digits

pub returns-in_err-vault-clause-cut : goal.returns-in_err-vault-clause-cut
returns-in_err-vault-clause-cut g c =
    on_err c.from_residual.result _ (uncut g (goal.at.returns-in_err-vault-clause-cut g c).Start)

pub returns-in_default-clause-cut : goal.returns-in_default-clause-cut
returns-in_default-clause-cut g c = uncut g (goal.at.returns-in_default-clause-cut g c).Start

module _ (g : Over) (c : After-pipe g) where
  abbrev left : Known
  left = g.R.Read.remaining c.args.input.now.inner

  abbrev rest : Known
  rest = g.R.Read.remaining c.pipe.new.input.inner

  abbrev w : Passage
  w = sending g.W.Write.contents c.args.output.now c.pipe.new.output
      (giving pairs_of c.in-Some.pairs c.pipe.new.source (vault_passing (λ t. Unit {0}) IsHeld
      (λ t V W. IsHeld t V ⊎ IsHeld t W) c.in_ok-vault.vault c.pipe.new.vault))

  -- the pairs are those of the trial
  fits : AreGiven (g.K.Timekeeper.tells c.args.time.now) c.args.trial.now.moment c.args.trial.now.digits
      (pairs_of c.pipe.new.source)
  fits =
      given_since g.K.Questions.Questions.tells g.K.Questions.Questions.told
      (g.K.Timekeeper.tells c.args.time.now) c.args.trial.now.moment c.args.trial.now.digits c.in-Some.pairs
      c.pipe.new.source c.in-Some.ensures.fresh.gave c.in-Some.ensures.begins c.pipe.ensures.later

pub returns-clause-served : goal.returns-clause-served
returns-clause-served g c =
    let it = (goal.at.returns-clause-served g c).After-pipe in
    let trial = c.args.trial.now in
    on_ok_then c.pipe.result _ _ (λ p. trial_of (g.K.Timekeeper.tells c.args.time.now) (w g it) (made trial)
    trial.moment trial.digits (tt, c.in_ok-vault.ensures.holds) c.in-Some.ensures.fresh.gave (fits g it)
    (left g it) (rest g it) p.0 p.1) c.pipe.ensures.served

pub returns-clause-cut : goal.returns-clause-cut
returns-clause-cut g c =
    let it = (goal.at.returns-clause-cut g c).After-pipe in
    let trial = c.args.trial.now in
    if_err_then c.pipe.result _ _ (cut_piping (g.K.Timekeeper.tells c.args.time.now) (w g it) (made trial)
    trial.moment trial.digits (tt, c.in_ok-vault.ensures.holds) c.in-Some.ensures.fresh.gave (fits g it)
    (left g it) (rest g it)) c.pipe.ensures.stopped
