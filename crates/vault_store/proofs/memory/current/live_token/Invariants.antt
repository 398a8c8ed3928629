use Rattle.std.specs.List.{All}
use Rattle.vault_store.proofs.LiveLemmas.{IsNotLive}
use Rattle.vault_store.proofs.memory.current.live_token.Given as goal

-- if no entry that is left is a live one of the number at the merchant, none is
abbrev pub invariant-loop-owner : goal.invariant-loop-owner
invariant-loop-owner l =
    All (IsNotLive l.merchant l.pan l.at) l.owner-iterator
    → All (IsNotLive l.merchant l.pan l.at) l.entries.entries
