-- The mask of a card number: what may be shown of it. That this is its last four digits, and from the front
-- at most six of those before the last ten, or at most eight of those before the last eight, is this
-- project's rule.
use Rattle.std.specs.Prelude.{ℕ, ◌-◌, ◌≤◌, ◌==◌, ◌||◌, Bool, IsTrue, List, length, map, filter, min, nat_lt}
use Rattle.std.specs.Prelude.{nat_le, slice_index, All, if◌then◌else◌}
use Rattle.std.specs.List.{range_with_len}
use Rattle.std.specs.Char.{is_ascii_digit}
use Rattle.vault_pan.specs.declared.lead.Lead.{Lead}
use Rattle.vault_pan.specs.declared.lead.Lead.TheVariants.{Six, Eight}

-- how many digits a lead is
abbrev pub lead_digits : Lead → ℕ
lead_digits Six = 6
lead_digits Eight = 8

-- how many digits of a number of n digits are shown at the left
abbrev pub front_of : Lead → ℕ → ℕ
front_of Six n = min 6 (n - 10)
front_of Eight n = min 8 (n - 8)

-- how many are hidden at least
abbrev pub least_hidden : Lead → ℕ
least_hidden Six = 6
least_hidden Eight = 4

-- Whether a number of n digits shows the one at place j from the left, counted from 0: one of those at the
-- left, or one of the last four.
abbrev pub is_shown : Lead → ℕ → ℕ → Bool
is_shown lead n j = nat_lt j (front_of lead n) || nat_le (n - 4) j

-- what stands at a place of the mask: the digit where it is shown, and else `*` (42)
abbrev pub shown_at : Lead → List ℕ → ℕ → ℕ
shown_at lead digits j = if is_shown lead (length digits) j then slice_index digits j else 42

-- the mask of a number: what stands at its places, in order
abbrev pub mask_of : Lead → List ℕ → List ℕ
mask_of lead digits = map (shown_at lead digits) (range_with_len 0 (length digits))

-- how many digits a mask hides
abbrev pub hidden : List ℕ → ℕ
hidden text = length (filter (λ b. b == 42) text)

-- a byte of a mask: a digit or `*`
abbrev pub IsMaskByte : ℕ → Type 0
IsMaskByte b = IsTrue (is_ascii_digit b || b == 42)

-- each mask: 10 to 19 such bytes, which hide four digits or more
abbrev pub IsMasked : List ℕ → Type 0
IsMasked text =
    (10 ≤ length text) × (length text ≤ 19)
    × All IsMaskByte text
    × (4 ≤ hidden text)
