-- A drawing, and the candidates for a token that it gives: a token has the form of a card number,
-- keeps its number's last four digits, and is drawn, not computed, in the rest.
use Rattle.std.specs.Prelude.{◌≡◌, ℕ, ◌-◌, ◌+◌, ◌*◌, ◌<◌, List, ◌++◌, length, take, drop, map, All}
use Rattle.vault_pan.specs.CardText.{last_four}

-- 300 digits, by their values
abbrev pub IsDrawing : List ℕ → Type 0
IsDrawing values = (length values ≡ 300) × All (λ v. v < 10) values

-- Candidate k for a number of n digits: the first n - 4 digits of group k, then the number's last
-- four. Group k is the 15 values from index 15 k on; 48 is the code of the digit 0.
abbrev pub candidate_digits : List ℕ → ℕ → List ℕ → List ℕ
candidate_digits values k number =
    map (λ v. v + 48) (take (length number - 4) (drop (15 * k) values)) ++ last_four number
