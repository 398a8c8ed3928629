-- What takes one row after the other.
use Rattle.std.specs.Prelude.{List, [], ◌∷◌, ◌++◌}

-- whatever rows it held before, it holds them now, and this one behind them
abbrev pub TakesOneMore : {It Row : Type 0} → (It → List Row → Type 0) → It → It → Row → Type 0
TakesOneMore {It} {Row} Holds old new next = (rows : List Row) → Holds old rows
    → Holds new (rows ++ next ∷ [])
