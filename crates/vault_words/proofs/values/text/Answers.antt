use Rattle.clap.specs.Words.{found_of}
use Rattle.vault_words.proofs.Readings.{read_text}
use Rattle.vault_words.proofs.values.text.Goals as goal

pub returns : goal.returns
returns c =
    let f = found_of c.args.matches.now in
    rw c.ok_or.ensures.value (read_text f c.args.id.now c.get_str.result _ c.get_str.ensures)
