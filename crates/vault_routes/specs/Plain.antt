-- The body of a message in its plainest form.
use Rattle.std.specs.Prelude.{ℕ, List, codes, ◌++◌, Bool, ◌||◌}
use Rattle.std.specs.Char.{is_ascii_digit, is_ascii_lowercase}

-- a digit or a small letter, which stands for itself in a text of JSON
abbrev pub is_plain_byte : ℕ → Bool
is_plain_byte b = is_ascii_digit b || is_ascii_lowercase b

-- the object with these two texts, in this order, without a space
abbrev pub plain_body : List ℕ → List ℕ → List ℕ
plain_body number usage =
    codes "{\"number\":\"" ++ (number ++ (codes "\",\"use\":\"" ++ (usage ++ codes "\"}")))
