-- The numbers that a service gave are counted.
use Rattle.std.proofs.Common.{ℕ, Option, List, Ok, Err}
use Rattle.vault_core.proofs.Counted.{counts_follow}
use Rattle.vault_engine.specs.declared.stop.Stop.{Stop as ServeFault}
use Rattle.vault_engine.specs.Asking.{commands_of, vault_after}
use Rattle.vault_engine.specs.Passing.{Passage}
use Rattle.vault_http.specs.Served.{IsServed, IsStopped, Serves}
use Rattle.vault_http.specs.declared.served.Served.{Served}

module _ (old new : Option (List ℕ)) (w : Passage) where
  -- where it served, its numbers are counted too
  pub serves_all : (n : Served) → IsServed old new w n → Serves old new w (Ok n)
  unfolding vault_after
  serves_all n q = record {
    served = q;
    counted = record {
      exchanges = q.exchanges;
      answered = q.answered;
      given = λ V m. (counts_follow V (commands_of q.exchanges) m).0;
    };
    stopped = tt;
  }

  pub serves_part : (e : ServeFault) → IsStopped old new w e → Serves old new w (Err e)
  serves_part e q = record { served = tt; counted = tt; stopped = q }
