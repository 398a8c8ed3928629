use Rattle.std.proofs.Common.{◌∙◌, inr}
use Rattle.vault_batch.proofs.ReaderProgress.{given_none}
use Rattle.vault_batch.proofs.csv_records.records_of.Goals as goal

pub returns : goal.returns
returns g c =
    let made = c.from_reader.ensures in
    let h = c.has_headers.ensures in
    let k = c.flexible.ensures in
    record {
      plain = rw (k, h) at made.config ∙ c.new.ensures.config;
      whole = rw (k, h) at made.trim ∙ c.new.ensures.trim;
      ready = inr (inr (rw (k, h) at made.has_headers, made.headers));
      gave = given_none _ _ _ made.source made.state;
    }
