use Rattle.clap.specs.Words.{found_of, rows_of, subcommand_rows_of}
use Rattle.vault_words.proofs.Parsed.{by_met, met}
use Rattle.vault_words.proofs.job.asked_by.Goals as goal

pub returns-in-Some : goal.returns-in-Some
returns-in-Some c =
    let m = c.args.matches.now in
    let name = c.in-Some.name.now in
    let rows = rows_of (found_of c.in-Some.given.now) in
    let is = met m name rows c.in-Some.ensures.name c.in-Some.ensures.rows in
    by_met (subcommand_rows_of m) name rows c.job_of.result is c.job_of.ensures
