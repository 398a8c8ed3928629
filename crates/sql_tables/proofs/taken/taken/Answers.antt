use Rattle.std.proofs.Common.{◌∙◌, ◌++◌, ◌∷◌, [], map, refl, inl, inr, sym, ap, subst, rules, arith}
use Rattle.std.proofs.lemmas.List.{map-append}
use Rattle.sqlite.proofs.Callers.{given_begin, unchanged_then}
use Rattle.sqlite.specs.Given.{HasGiven}
use Rattle.sqlite.specs.Held.{state}
use Rattle.sql_tables.proofs.Streamed.{ended, further, other_cause, settled, stopped, strange_end}
use Rattle.sql_tables.proofs.taken.taken.Goals as goal

pub returns-in_err-rows : goal.returns-in_err-rows
returns-in_err-rows g c s plain =
    let refused = rw c.in_err-rows.was at c.query.follows.holds-at-none in
    stopped g.S.Store s c.args.sql.now g.R.Raw.values (g.K.Taker.took c.args.start) c.args.conn.now
    c.query.follows.lender-at-none plain
    refused.mode refused.survives c.schema-live.ensures.live c.from_residual.result c.from_residual.ensures.1
    (λ fault same clean fine store. record {
      at = c.args.conn.now;
      same = refl;
      why = inl (_, other_cause _ fault same store, refused.err clean);
    })

pub returns-in_err-row : goal.returns-in_err-row
returns-in_err-row g c s plain =
    let moved = c.next.follows.holds-at-none in
    let now = c.next.follows.lender-at-none.conn.now in
    settled (stopped g.S.Store s c.args.sql.now g.R.Raw.values (g.K.Taker.took c.args.start) c.args.conn.now
    now plain
    (λ idle. moved.mode (c.rows.invariant.1 idle))
    (further c.rows.invariant.2 moved.survives) c.schema-live.ensures.live c.from_residual-in_err-row.result
    c.from_residual-in_err-row.ensures.1
    (λ fault cause clean fine store.
    let before = c.rows.invariant.5 (omega (arith, moved.survives.clean, clean)) fine in record {
      at = c.rows.rows.conn.now;
      same = before.1.0.now_is;
      why = inl (
        _,
        other_cause _ fault cause store,
        (rw c.in_err-row.was at (moved.err clean)) c.args.sql.now [] _ before.0,
      );
    })) (search rules)

pub returns-in_err-read : goal.returns-in_err-read
returns-in_err-read g c s plain =
    let moved = c.next.follows.holds-at-none in
    let now = c.next.follows.lender-at-none.conn.now in
    settled (stopped g.S.Store s c.args.sql.now g.R.Raw.values (g.K.Taker.took c.args.start) c.args.conn.now
    now plain
    (λ idle. moved.mode (c.rows.invariant.1 idle))
    (further c.rows.invariant.2 moved.survives) c.schema-live.ensures.live c.from_residual-in_err-read.result
    c.from_residual-in_err-read.ensures.1
    (λ fault cause clean fine store.
    let before = c.rows.invariant.5 (omega (arith, moved.survives.clean, clean)) fine in
    let given = (rw (c.in_ok-row.was, c.in-Some.is) at (moved.ok clean)) c.args.sql.now [] _ before.0 in
    record {
      at = now;
      same = (unchanged_then _ _ _ before.1 (rw c.in_ok-row.was at (moved.same clean))).0.now_is;
      why = inr (
        _,
        given_begin g.S.Store _ _ now _ given,
        strange_end g.R.Raw.values _ (c.in_err-read.ensures.refused (sym cause ∙ store)) _,
      );
    })) (search rules)

pub rows-preserved : goal.rows-preserved
rows-preserved g c =
    let moved = c.next.follows.holds-at-none in
    let inv = c.rows.invariant in
    let raw = c.in_ok-read.field-0 in
    let raws = inv.3 in (
      moved.same_reference ∙ inv.0,
      λ idle. moved.mode (inv.1 idle),
      further inv.2 moved.survives,
      raws ++ raw ∷ [],
      c.in_ok-take.ensures.taken _ raws inv.4,
      λ clean fine.
          let before = inv.5 (omega (arith, moved.survives.clean, clean)) fine in
          let given = (rw (c.in_ok-row.was, c.in-Some.is) at (moved.ok clean)) c.args.sql.now [] _ before.0
          in (
            subst (HasGiven g.S.Store c.args.sql.now [] c.next.follows.lender-at-none.conn.now)
                (ap (λ r. map g.R.Raw.values raws ++ r ∷ []) {x = c.in-Some.row.now}
                c.in_ok-read.ensures.values
                ∙ sym (map-append g.R.Raw.values raws (raw ∷ []))) given,
            unchanged_then _ _ _ before.1 (rw c.in_ok-row.was at (moved.same clean)),
          ),
    )

pub returns : goal.returns
returns g c s plain =
    let moved = c.next.follows.holds-at-none in
    let now = c.next.follows.lender-at-none.conn.now in
    let inv = c.rows.invariant in
    settled (ended g.S.Store s c.args.sql.now g.R.Raw.values (g.K.Taker.took c.args.start) c.args.conn.now now
    plain (λ idle. moved.mode (inv.1 idle)) (further inv.2 moved.survives) c.schema-live.ensures.live
    c.rows.taker inv.3 inv.4 (state g.S.Store c.rows.rows.conn.now)
    (λ clean fine. (inv.5 (omega (arith, moved.survives.clean, clean)) fine).1)
    (λ clean fine. (rw (c.in_ok-row.was, c.in_default.is) at (moved.ok clean)) c.args.sql.now [] _
    (inv.5 (omega (arith, moved.survives.clean, clean)) fine).0)) (search rules)

pub rows-init : goal.rows-init
rows-init g c = (
  refl,
  c.in_ok-rows.ensures.mode,
  c.in_ok-rows.ensures.survives,
  [],
  g.K.Taker.fresh c.args.start,
  λ clean fine. search (rules, c.in_ok-rows.ensures.begun),
)

pub returns-in_err-take : goal.returns-in_err-take
returns-in_err-take g c s plain =
    let moved = c.next.follows.holds-at-none in
    let now = c.next.follows.lender-at-none.conn.now in
    settled (stopped g.S.Store s c.args.sql.now g.R.Raw.values (g.K.Taker.took c.args.start) c.args.conn.now
    now plain (λ idle. moved.mode (c.rows.invariant.1 idle)) (further c.rows.invariant.2 moved.survives)
    c.schema-live.ensures.live c.from_residual-in_err-take.result c.from_residual-in_err-take.ensures.1
    (λ fault memory clean fine store. absurd (let clash = sym memory ∙ store in cc))) (search rules)
