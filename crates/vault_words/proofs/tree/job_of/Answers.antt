use Rattle.clap.specs.Words.{found_of, rows_of}
use Rattle.vault_words.proofs.Parsed.{no_batch, no_pipe, no_trial}
use Rattle.vault_words.proofs.tree.job_of.Goals as goal

pub returns-in-Err : goal.returns-in-Err
returns-in-Err c =
    let rows = rows_of (found_of c.args.matches.now) in
    no_trial c.args.name.now rows c.in-trial.is c.in-Err.ensures

pub returns-in-Err-read-6 : goal.returns-in-Err-read-6
returns-in-Err-read-6 c =
    let rows = rows_of (found_of c.args.matches.now) in
    no_pipe c.args.name.now rows c.in-pipe.is c.in-Err-read-6.ensures

pub returns-in-Err-read-7 : goal.returns-in-Err-read-7
returns-in-Err-read-7 c =
    let rows = rows_of (found_of c.args.matches.now) in
    no_batch c.args.name.now rows c.in-batch.is c.in-Err-read-7.ensures
