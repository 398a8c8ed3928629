use Rattle.std.proofs.Common.{refl, map}
use Rattle.vault_jobs.specs.Streams.{streams, with_turns}
use Rattle.vault_promise.specs.Runs.{last_of}
use Rattle.vault_promise.proofs.witness.run_again.Goals as goal

pub returns : goal.returns
returns g c image moments texts so found =
    let (told, seen) = c.run.ensures.does in
    let (turns, came, does) = seen in (
      record {
        begins = image;
        words = map g.A.AsStr.text c.args.words.now;
        moments = moments;
        texts = texts;
        ending = does.ending;
        streams = with_turns (streams g.R.Read.remaining c.args.input.now c.run.new.input
            g.W.Write.contents c.args.output.now told) turns;
        last = last_of g.W.Write.contents c.run.new.output g.E.Write.contents c.args.errors.now
            c.run.new.errors;
      },
      refl,
      refl,
      refl,
      record {
        left = c.run.result.1;
        told = told;
        turns = turns;
        came = came;
        does = does;
        is = refl;
        tells = so;
        found = found;
        leaves = λ next leaves. leaves;
      },
      λ next leaves. c.promise_is_kept.ensures.each c.args.time.now c.args.desk.now c.args.paths image next _
          c.run.result moments texts turns
          c.args.input.now c.run.new.input c.args.output.now told c.run.new.output
          c.args.errors.now c.run.new.errors so does found leaves,
    )
