use Rattle.clap.specs.Words.{found_of}
use Rattle.vault_words.proofs.Readings.{left_out}
use Rattle.vault_words.proofs.values.is_left_out.Goals as goal

pub returns : goal.returns
returns c =
    let f = found_of c.args.matches.now in
    let text = c.get_str in
    left_out f c.args.id.now text.result c.is_none.result text.ensures c.is_none.ensures
