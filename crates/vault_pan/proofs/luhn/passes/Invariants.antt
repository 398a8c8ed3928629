use Rattle.std.proofs.Common.{◌≡◌, ◌+◌, ◌-◌, ◌%◌, ◌<◌, ◌==◌, length}
use Rattle.vault_pan.specs.Luhn.{worths}
use Rattle.vault_pan.proofs.luhn.passes.Given as goal

-- the sum so far and the worths of the places that are left make the whole sum
abbrev pub invariant-loop-byte : goal.invariant-loop-byte
invariant-loop-byte l = record {
  small : l.sum < 10;
  parity : l.even ≡ ((length l.digits - l.byte-index) % 2 == 0);
  rest : (l.sum + worths l.digits (length l.digits - l.byte-index)) % 10
      ≡ worths l.digits (length l.digits) % 10;
}
