use Rattle.std.proofs.Common.{List, None, Result, Ok, Err, length, ap, arith, subst}
use Rattle.std.specs.Prelude.{IfErr, IfOk, MatchResult}
use Rattle.vault_engine.specs.Asking.{Pair}
use Rattle.vault_engine.specs.Passing.{giving, passage, sending}
use Rattle.vault_http.specs.Served.{IsServed, IsStopped}
use Rattle.vault_listen.specs.Live.{pairs_of}
use Rattle.vault_listen.proofs.Turns.{begun_with, given_since}
use Rattle.vault_listen.proofs.service.serve_connection.Goals as goal

either_way : {X E : Type 0} (r : Result X E) (P : X → Type 0) (Q : E → Type 0) → IfOk r P → IfErr r Q
    → MatchResult r P Q
either_way (Ok x) P Q p q = p
either_way (Err e) P Q p q = q

pub returns-clause-answered : goal.returns-clause-answered
returns-clause-answered g c =
    let left = g.R.Read.remaining c.args.reader.now.inner in
    let rest = g.R.Read.remaining c.serve_by.new.reader.inner in
    let pairs = pairs_of c.serve_by.new.source in
    let gave = c.ending-source.ensures.fresh.gave in
    let w = λ (given : List Pair). sending g.W.Write.contents c.args.writer.now c.serve_by.new.writer
    (giving (λ (ps : List Pair). ps) given pairs (passage g.T.Tables c.args.vault.now
    c.serve_by.new.vault)) in (
      pairs,
      omega (
        arith,
        c.serve_by.ensures.later.counted,
        c.ending-source.ensures.fresh.left_is,
        ap (λ (ps : List Pair). length ps) gave,
      ),
      given_since g.K.Questions.Questions.tells g.K.Questions.Questions.told
          (g.K.Timekeeper.tells c.args.time.now) None None c.ending-source.result c.serve_by.new.source gave
          (begun_with g.K.Questions.Questions.tells g.K.Questions.Questions.told
          (g.K.Timekeeper.tells c.args.time.now) c.questions.result None None c.ending-source.result
          c.ending-source.ensures.free c.questions.ensures.fresh c.questions.ensures.same)
          c.serve_by.ensures.later,
      subst
          (λ given. MatchResult c.serve_by.result (IsServed left rest (w given))
          (IsStopped left rest (w given)))
          gave
          (either_way c.serve_by.result _ _ c.serve_by.ensures.serves.served
          c.serve_by.ensures.serves.stopped),
    )
