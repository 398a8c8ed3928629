use Rattle.std.proofs.Common.{inr, refl}
use Rattle.vault_engine.specs.Passing.{Passage, giving, passage, sending}
use Rattle.vault_jobs.proofs.Flushing.{flushed}
use Rattle.vault_jobs.specs.Piped.{IsPiped}
use Rattle.vault_jobs.proofs.pipe.pipe.Given.{Over}
use Rattle.vault_jobs.proofs.pipe.pipe.Goals.{After-flush}
use Rattle.vault_jobs.proofs.pipe.pipe.Goals as goal

module _ (g : Over) (c : After-flush g) where
  -- the passage up to the flush
  abbrev served : Passage
  served = sending g.W.Write.contents c.args.output.now c.serve.new.writer
      (giving g.S.Source.given c.args.source.now c.serve.new.source
      (passage g.T.Tables c.args.vault.now c.serve.new.vault))

  -- the messages are served, whether what went out was handed on or not
  piped : IsPiped (g.R.Read.remaining c.args.input.now.inner) (g.R.Read.remaining c.serve.new.reader.inner)
      (record served { sent_new = g.W.Write.contents c.flush.new.self.inner })
  piped = (
    c.in-Ok.field-0,
    flushed (g.R.Read.remaining c.args.input.now.inner) (g.R.Read.remaining c.serve.new.reader.inner)
        (g.W.Write.contents c.flush.new.self.inner) served c.in-Ok.field-0 c.in-Ok.ensures.serves.served
        c.flush.ensures.bytes,
  )

pub returns-in-Ok-flush-clause-served : goal.returns-in-Ok-flush-clause-served
returns-in-Ok-flush-clause-served g c = piped g (goal.at.returns-in-Ok-flush-clause-served g c).After-flush

pub returns-in-Err-flush-clause-stopped : goal.returns-in-Err-flush-clause-stopped
returns-in-Err-flush-clause-stopped g c =
    inr (refl, piped g (goal.at.returns-in-Err-flush-clause-stopped g c).After-flush)
