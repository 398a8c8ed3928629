-- Texts of rows.
use Rattle.std.specs.Prelude.{◌&&◌, not, Bool, length, nat_lt}
use Rattle.std.specs.Char.{is_ascii_digit}
use Rattle.std.specs.List.{list_all}
use Rattle.vault_core.specs.Keys.{Bytes}
use Rattle.vault_core.specs.Name.{is_name_byte}
use Rattle.vault_pan.specs.Luhn.{passes_check}

-- 1 to 16 small letters, digits and hyphens
abbrev pub is_name : Bytes → Bool
is_name text = nat_lt 0 (length text) && nat_lt (length text) 17 && list_all is_name_byte text

-- 10 to 19 digits
abbrev pub is_number : Bytes → Bool
is_number text = nat_lt 9 (length text) && nat_lt (length text) 20 && list_all is_ascii_digit text

-- digits that pass the check
abbrev pub is_pan : Bytes → Bool
is_pan text = is_number text && passes_check text

-- digits that fail the check
abbrev pub is_token : Bytes → Bool
is_token text = is_number text && not (passes_check text)
