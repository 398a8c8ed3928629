-- A clock beside a steady one.
use Rattle.std.specs.Prelude.{ℕ, ◌+◌, ◌≤◌}

-- the most seconds by which a clock may be ahead of a steady one, or behind it
abbrev pub most_drift : ℕ
most_drift = 300

-- A clock that told this second at the start, and tells that one after so many seconds, hasn't jumped: it is
-- ahead of what passed by no more than that, and behind it by no more.
abbrev pub GoesAlong : ℕ → ℕ → ℕ → Type 0
GoesAlong start passed now = (now ≤ start + passed + most_drift) × (start + passed ≤ now + most_drift)
