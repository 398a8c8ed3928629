use Rattle.clap.specs.Words.{found_of}
use Rattle.vault_words.proofs.Readings.{read_number}
use Rattle.vault_words.proofs.values.number.Goals as goal

pub returns : goal.returns
returns c =
    let f = found_of c.args.matches.now in
    let one = c.get_one in
    rw c.ok_or.ensures.value
    (read_number f c.args.id.now one.result _ one.ensures.none one.ensures.value)
