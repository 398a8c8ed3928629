-- What holds by how a task ends.
use Rattle.std.specs.Prelude.{ℕ, Result, Ok, Err}
use Rattle.std.specs.declared.io.ErrorKind.{ErrorKind}
use Rattle.vault_engine.specs.declared.stop.Stop.{Stop as ServeFault}
use Rattle.vault_batch.specs.declared.fault.BatchFault.{BatchFault}
use Rattle.vault_listen.specs.declared.fault.ListenFault.{ListenFault}
use Rattle.vault_live.specs.declared.subject.Subject.{Subject}
use Rattle.vault_store.specs.declared.vault.Fault.{Fault}
use Rattle.vault_jobs.specs.declared.stop.Stop.{Stop}
use Rattle.vault_jobs.specs.declared.stop.Stop.TheVariants.{Vault, Service, Listener, Unread, Batch}
use Rattle.vault_jobs.specs.declared.task.Outcome.{Outcome}
use Rattle.vault_jobs.specs.declared.task.Outcome.TheVariants.{Done, Refused, SomeRefused}

-- what holds with each outcome and each stop
pub record Outcomes : Type 1 where
  pub done : Type 0
  pub refused : ℕ → Type 0
  pub some_refused : Type 0
  pub vault : Fault → Type 0
  pub service : ServeFault → Type 0
  pub listener : ListenFault → Type 0
  pub unread : Subject → ErrorKind → Type 0
  pub batch : BatchFault → Type 0

-- none of them comes
abbrev pub no_outcome : Outcomes
no_outcome = record {
  done = ⊥;
  refused = λ n. ⊥;
  some_refused = ⊥;
  vault = λ f. ⊥;
  service = λ f. ⊥;
  listener = λ f. ⊥;
  unread = λ about f. ⊥;
  batch = λ f. ⊥;
}

-- it comes to this, and what holds with it
abbrev pub ComesTo : Outcomes → Result Outcome Stop → Type 0
ComesTo it (Ok Done) = it.done
ComesTo it (Ok (Refused n)) = it.refused n
ComesTo it (Ok SomeRefused) = it.some_refused
ComesTo it (Err (Vault f)) = it.vault f
ComesTo it (Err (Service f)) = it.service f
ComesTo it (Err (Listener f)) = it.listener f
ComesTo it (Err (Unread about f)) = it.unread about f
ComesTo it (Err (Batch f)) = it.batch f
