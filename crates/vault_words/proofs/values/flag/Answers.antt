use Rattle.clap.specs.Words.{found_of}
use Rattle.vault_words.proofs.Readings.{flag_none, flag_some}
use Rattle.vault_words.proofs.values.flag.Goals as goal

pub returns-in-Some : goal.returns-in-Some
returns-in-Some c =
    flag_some (found_of c.args.matches.now) c.args.id.now c.in-Some.text.now c.eq.result c.in-Some.ensures
    c.eq.ensures

pub returns-in-None : goal.returns-in-None
returns-in-None c = flag_none (found_of c.args.matches.now) c.args.id.now c.in-None.ensures
