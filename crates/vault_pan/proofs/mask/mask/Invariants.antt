use Rattle.std.proofs.Common.{◌≡◌, ◌-◌, ◌++◌, take, replicate}
use Rattle.vault_pan.proofs.mask.mask.Given as goal

abbrev pub invariant-loop : goal.invariant-loop
invariant-loop l = l.text ≡ take l.front l.digits ++ replicate (l.counter - l.front) 42
