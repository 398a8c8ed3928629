use Rattle.std.proofs.Common.{map, subst, Option, List}
use Rattle.clap.specs.Words.{Row, Text, app_of, subcommand_rows_of}
use Rattle.vault_words.proofs.Parsed.{explained, parsed, unasked}
use Rattle.vault_words.specs.Jobs.{AsksBy}
use Rattle.vault_words.proofs.job.job.Goals as goal

pub returns-in-Ok-asked_by : goal.returns-in-Ok-asked_by
returns-in-Ok-asked_by g c =
    let got = c.in-Ok-try_get_matches_from in
    let is = parsed (app_of c.in-Ok.tree) (map g.S.AsStr.text c.args.words.now) got.matches
    c.in-Ok.ensures.shape got.ensures.kinds got.ensures.matches in
    let job = c.in-Ok-asked_by.job in
    let asks = subst (λ (met : Option (Text × List Row)). AsksBy met job) is.1 c.in-Ok-asked_by.ensures in
    record { taken = is.0; asks = asks }

pub returns-in-Ok-try_get_matches_from : goal.returns-in-Ok-try_get_matches_from
returns-in-Ok-try_get_matches_from g c =
    let got = c.in-Ok-try_get_matches_from in
    let is = parsed (app_of c.in-Ok.tree) (map g.S.AsStr.text c.args.words.now) got.matches
    c.in-Ok.ensures.shape got.ensures.kinds got.ensures.matches in
    unasked _ (subcommand_rows_of got.matches) is.0 is.1 c.in-Err-asked_by.ensures c.of_value.result
    c.of_value.ensures

pub returns : goal.returns
returns g c =
    let words = map g.S.AsStr.text c.args.words.now in
    let app = app_of c.in-Ok.tree in
    let error = c.in-Err.error in
    let kinds = c.in-Err.ensures.kinds in
    explained app words error c.fault_of.result c.in-Ok.ensures.shape kinds c.fault_of.ensures
