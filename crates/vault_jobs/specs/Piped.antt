-- What is done with the messages of standard input.
use Rattle.std.specs.Prelude.{◌≡◌, ◌⊎◌}
use Rattle.vault_engine.specs.Passing.{Passage}
use Rattle.vault_http.specs.Served.{IsServed, IsStopped}
use Rattle.vault_engine.specs.declared.stop.Stop.{Stop as ServeFault}
use Rattle.vault_engine.specs.declared.stop.Stop.TheVariants.{Write}
use Rattle.vault_http.specs.declared.served.Served.{Served}
use Rattle.vault_jobs.specs.Streams.{Known}

-- they were served to their end
abbrev pub IsPiped : Known → Known → Passage → Type 0
IsPiped left_old left_new w = (served : Served) × IsServed left_old left_new w served

-- the service stopped; or it came to its end, and what had gone out couldn't be handed on
abbrev pub StopsPiping : Known → Known → Passage → ServeFault → Type 0
StopsPiping left_old left_new w e =
    IsStopped left_old left_new w e ⊎ ((e ≡ Write) × IsPiped left_old left_new w)
