-- Of some units: all are answered, or asking stopped among them.
use Rattle.std.specs.Prelude.{◌≡◌, ◌⊎◌, ℕ, List, ◌∷◌, ◌++◌}
use Rattle.vault_engine.specs.Answered.{Answered, AnsweredBefore, CutAt, SilentAt, UndecidedAt, units_of}
use Rattle.vault_engine.specs.Asking.{Asked, Kind}
use Rattle.vault_engine.specs.Passing.{Passage}
use Rattle.vault_engine.specs.declared.stop.Stop.{Stop}
use Rattle.vault_engine.specs.declared.stop.Stop.TheVariants as stop

-- all the units are asked and answered
pub record AllAnswered {X : Type 0} (k : Kind X) (first : List ℕ) (w : Passage) (us : List X) : Type 0 where
  pub exchanges : List (Asked X)
  pub whole : units_of exchanges ≡ us
  pub done : Answered k first w exchanges

-- the units are some that were asked, of which this is known, and then the rest
pub record FirstOf {X : Type 0} (us rest : List X) (Known : List (Asked X) → Type 0) : Type 0 where
  pub exchanges : List (Asked X)
  pub whole : us ≡ units_of exchanges ++ rest
  pub known : Known exchanges

-- where asking stopped among the units, by its cause
abbrev pub StopsWithin : {X : Type 0} → Kind X → List ℕ → Passage → List X → Stop → Type 0
StopsWithin k first w us stop.Source =
    (next : _) × (rest : List _) × FirstOf us (next ∷ rest) (Answered k first w)
StopsWithin k first w us stop.Read = AllAnswered k first w us
StopsWithin k first w us stop.Write =
    (x : Asked _) × (rest : List _) × FirstOf us (x.unit ∷ rest) (λ xs. CutAt k first w xs x)
StopsWithin k first w us stop.Store =
    (x : Asked _) × (rest : List _) × FirstOf us (x.unit ∷ rest) (λ xs. UndecidedAt k first w xs x)
StopsWithin k first w us stop.Memory =
    ((rest : List _) × FirstOf us rest (AnsweredBefore k first w))
    ⊎ ((x : Asked _) × (rest : List _) × FirstOf us (x.unit ∷ rest) (λ xs. SilentAt k first w xs x))
