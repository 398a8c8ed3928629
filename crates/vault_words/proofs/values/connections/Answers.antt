use Rattle.clap.specs.Words.{found_of, rows_of}
use Rattle.vault_words.proofs.Readings.{no_connections, none_found}
use Rattle.vault_words.proofs.values.connections.Goals as goal

pub returns-in_err-count : goal.returns-in_err-count
returns-in_err-count c =
    let rows = rows_of (found_of c.args.matches.now) in
    let r = c.from_residual in
    none_found r.result _ r.ensures.0
    (no_connections rows (λ none. absurd (cc (c.if-is_left_out.false, c.is_left_out.ensures.1 none)))
    (λ n h _ _. c.in_err-count.ensures n h))
