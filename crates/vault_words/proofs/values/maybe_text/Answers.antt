use Rattle.clap.specs.Words.{found_of}
use Rattle.vault_words.proofs.Readings.{maybe_read}
use Rattle.vault_words.proofs.values.maybe_text.Goals as goal

pub returns : goal.returns
returns c = maybe_read (found_of c.args.matches.now) c.args.id.now c.get_str.result c.get_str.ensures
