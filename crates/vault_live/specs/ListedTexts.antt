-- What a text comes to as a list.
use Rattle.std.specs.Prelude.{ℕ, List}
use Rattle.vault_live.specs.declared.listed.Listed.{Listed}
use Rattle.vault_live.specs.declared.listed.Listed.TheVariants.{Unknown, Faulty, Good}

-- P holds of the rows, where it is a good list
abbrev pub IfGood : {X : Type 0} → Listed X → (List X → Type 0) → Type 0
IfGood Unknown P = Unit {0}
IfGood (Faulty number) P = Unit {0}
IfGood (Good rows) P = P rows.items

-- P holds of the number of its refusal, where it is no good list
abbrev pub IfFaulty : {X : Type 0} → Listed X → (ℕ → Type 0) → Type 0
IfFaulty Unknown P = Unit {0}
IfFaulty (Faulty number) P = P number
IfFaulty (Good rows) P = Unit {0}
