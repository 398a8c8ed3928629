-- What numbers that were given leave in a vault's counts.
use Rattle.std.specs.Prelude.{◌+◌, ◌≤◌, List, ◌++◌}
use Rattle.vault_core.specs.Keys.{Bytes}
use Rattle.vault_core.specs.Vault.{Vault as Content}
use Rattle.vault_core.specs.Yields.{answered_so, given_by, gives_number}
use Rattle.vault_engine.specs.Asking.{Asked, commands_of, vault_after}
use Rattle.vault_wire.specs.Parts.{Parts}

-- Of a merchant's numbers that were given in exchanges none is missing in its count, whatever was asked
-- after them.
abbrev pub NumbersAreCounted : Type 0
NumbersAreCounted =
    (V : Content) (xs later : List (Asked Parts)) (m : Bytes)
    → given_by V m + answered_so (λ c. gives_number) m (commands_of xs) V
    ≤ given_by (vault_after V (xs ++ later)) m
