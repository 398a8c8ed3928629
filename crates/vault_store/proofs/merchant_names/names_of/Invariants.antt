use Rattle.std.proofs.Common.{◌≡◌, ◌++◌, map}
use Rattle.vault_store.proofs.merchant_names.names_of.Given as goal

-- the names so far and those of the rows that are left are all
abbrev pub invariant-loop-name : goal.invariant-loop-name
invariant-loop-name g l = l.names.items ++ map (λ e. e.0) l.name-iterator ≡ map (λ e. e.0) l.merchants.entries
