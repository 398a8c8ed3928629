use Rattle.std.proofs.Common.{[], ◌++◌, ◌≡◌, take, length, refl, arith, length-append}
use Rattle.std.proofs.lemmas.List.{length-take-le}
use Rattle.vault_http.proofs.Bytes.{consumes_both, consumes_none, consumes_nothing}
use Rattle.vault_listen.proofs.linger.discard.Goals as goal

pub loop-init : goal.loop-init
loop-init g c = record { room = refl; bytes = []; short = omega arith; read = consumes_nothing _ }

pub loop-preserved : goal.loop-preserved
loop-preserved g c =
    let inv = c.loop.invariant in
    let piece = take c.in-Ok.count c.read.new.buf in
    let room : length c.read.new.buf ≡ 4096 = omega (arith, c.read.auto.buf, inv.room) in
    let size : length piece ≡ c.in-Ok.count =
    length-take-le c.in-Ok.count c.read.new.buf c.in-Ok.ensures.bound.0 in
    record {
      room = room;
      bytes = inv.bytes ++ piece;
      short =
          omega (arith, inv.short, length-append inv.bytes piece, size, c.in-Ok.ensures.bound.0, room);
      read = consumes_both _ _ _ inv.bytes piece inv.read c.in-Ok.ensures.bytes.0;
    }

pub returns : goal.returns
returns g c =
    let inv = c.loop.invariant in
    record { bounded = (inv.bytes, omega (arith, inv.short, c.loop.auto.counter-end), inv.read) }

pub returns-then-count-eq0 : goal.returns-then-count-eq0
returns-then-count-eq0 g c =
    let inv = c.loop.invariant in
    let read = consumes_none _ _ _ inv.bytes c.read.new.buf c.in-Ok.count inv.read c.if-count-eq0.true
    c.in-Ok.ensures.bytes.0 in
    record { bounded = (inv.bytes, omega (arith, inv.short, c.loop.auto.counter-end), read) }
