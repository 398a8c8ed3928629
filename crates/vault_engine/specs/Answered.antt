-- What was answered, and what was seen of the one at which asking stopped.
use Rattle.std.specs.Prelude.{ℕ, ◌<◌, ◌≤◌, List, [], ◌∷◌, ◌++◌, All, length, map, take}
use Rattle.vault_core.specs.Vault.{Vault as Content}
use Rattle.vault_engine.specs.Asking.{Asked, Asks, Kind, Pair, text_at, texts, vault_after}
use Rattle.vault_engine.specs.Passing.{Passage, IsBefore, Keeps, Sends, Takes}

-- the units themselves
abbrev pub units_of : {X : Type 0} → List (Asked X) → List X
units_of xs = map (λ x. x.unit) xs

-- the pairs that were taken for them, one for each
abbrev pub pairs_of : {X : Type 0} → List (Asked X) → List Pair
pairs_of xs = map (λ x. x.pair) xs

-- all are asked and answered: after what comes first their texts went out, and the vault after them is kept
pub record Answered {X : Type 0} (k : Kind X) (first : List ℕ) (w : Passage)
    (xs : List (Asked X)) : Type 0 where
  pub taken : Takes w (pairs_of xs)
  pub asked : All (Asks k) xs
  pub answered : (V : Content) → IsBefore w V
      → Sends w (first ++ texts k.text V xs) × Keeps w (vault_after V xs)

-- the same, and for the next one a pair was taken at most
pub record AnsweredBefore {X : Type 0} (k : Kind X) (first : List ℕ) (w : Passage)
    (xs : List (Asked X)) : Type 0 where
  pub unused : List Pair
  pub one : length unused ≤ 1
  pub taken : Takes w (pairs_of xs ++ unused)
  pub asked : All (Asks k) xs
  pub answered : (V : Content) → IsBefore w V
      → Sends w (first ++ texts k.text V xs) × Keeps w (vault_after V xs)

-- some are answered, the vault after the next one is kept, and of its text only a beginning went out
pub record CutAt {X : Type 0} (k : Kind X) (first : List ℕ) (w : Passage) (xs : List (Asked X))
    (x : Asked X) : Type 0 where
  pub sent : ℕ
  pub taken : Takes w (pairs_of (xs ++ x ∷ []))
  pub asked : All (Asks k) (xs ++ x ∷ [])
  pub answered : (V : Content) → IsBefore w V
      → (sent < length (text_at k.text (vault_after V xs) x))
      × Sends w (first ++ texts k.text V xs ++ take sent (text_at k.text (vault_after V xs) x))
      × Keeps w (vault_after V (xs ++ x ∷ []))

-- some are answered, and the store failed at the next one: nothing of its text went out, and a crash leaves
-- the vault before it or the one after it
pub record UndecidedAt {X : Type 0} (k : Kind X) (first : List ℕ) (w : Passage) (xs : List (Asked X))
    (x : Asked X) : Type 0 where
  pub taken : Takes w (pairs_of (xs ++ x ∷ []))
  pub asked : All (Asks k) (xs ++ x ∷ [])
  pub answered : (V : Content) → IsBefore w V → Sends w (first ++ texts k.text V xs)
      × w.left_new (vault_after V xs) (vault_after V (xs ++ x ∷ []))

-- some are answered, the vault after the next one is kept, and nothing of its text went out
pub record SilentAt {X : Type 0} (k : Kind X) (first : List ℕ) (w : Passage) (xs : List (Asked X))
    (x : Asked X) : Type 0 where
  pub taken : Takes w (pairs_of (xs ++ x ∷ []))
  pub asked : All (Asks k) (xs ++ x ∷ [])
  pub answered : (V : Content) → IsBefore w V → Sends w (first ++ texts k.text V xs)
      × Keeps w (vault_after V (xs ++ x ∷ []))
