use Rattle.vault_words.proofs.Readings.{none_found}
use Rattle.vault_words.proofs.commands.serve.ServeJob.read.Goals as goal

pub returns-in_err-connections : goal.returns-in_err-connections
returns-in_err-connections c =
    let r = c.from_residual in
    none_found r.result _ r.ensures.0 (λ job h. c.in_err-connections.ensures job.connections h.0)

pub returns-in_err-port : goal.returns-in_err-port
returns-in_err-port c =
    let r = c.from_residual-in_err-port in
    none_found r.result _ r.ensures.0 (λ job h. c.in_err-port.ensures job.port h.1)
