use Rattle.std.proofs.Common.{◌≡◌, ◌≤◌, ◌++◌, length}
use Rattle.vault_store.proofs.DeadLemmas.{dead_in}
use Rattle.vault_store.proofs.memory.dead.dead_among.Given as goal

-- the tokens so far and those among the entries that are left are all that are dead
abbrev pub invariant-loop-owner : goal.invariant-loop-owner
invariant-loop-owner l = record {
  listed : l.tokens.items ++ dead_in l.merchant l.at l.owner-iterator
      ≡ dead_in l.merchant l.at l.entries.entries;
  within : length l.tokens.items ≤ l.limit;
}
