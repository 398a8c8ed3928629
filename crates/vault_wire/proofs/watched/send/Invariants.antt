use Rattle.std.proofs.Common.{length, ◌-◌, ◌≡◌, ◌≤◌, ◌<◌, take, false}
use Rattle.std.specs.Io.KnownBytes.{Appends}
use Rattle.vault_wire.proofs.watched.send.Given as goal

abbrev pub invariant-loop-sent : goal.invariant-loop-sent
invariant-loop-sent g l =
    (l.sent ≤ length l.bytes)
    × Appends (g.W.Write.contents l.initial.writer.inner) (g.W.Write.contents l.writer.inner)
    (take l.sent l.bytes)
    × (l.writer.stopped ≡ l.initial.writer.stopped)
    × (0 < l.sent → l.initial.writer.stopped ≡ false)
    × (l.sent ≡ 0 → l.writer ≡ l.initial.writer)

abbrev pub decreases-loop-sent : goal.decreases-loop-sent
decreases-loop-sent g l = length l.bytes - l.sent
