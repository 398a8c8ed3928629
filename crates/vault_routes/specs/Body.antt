-- What the body of a message asks for: a JSON object (RFC 8259) with two texts.
use Rattle.std.specs.Prelude.{ℕ, ◌+◌, ◌==◌, List, codes, Option, None, option_map, option_and_then}
use Rattle.std.specs.Prelude.{if◌then◌else◌}
use Rattle.std.specs.Str.{is_utf8}
use Rattle.serde_json.specs.Data.{Data, Members, null, boolean, number, string, array, object, member}
use Rattle.serde_json.specs.Data.{no_members}
use Rattle.serde_json.specs.Find.{get_member, as_str}
use Rattle.serde_json.specs.Read.{read}

-- the JSON value that the bytes are, by what `serde_json` reads; bytes that are no UTF-8 are none
abbrev pub json_in : List ℕ → Option Data
json_in bytes = if is_utf8 bytes then read bytes else None

-- how many members an object has
abbrev pub member_count : Members → ℕ
member_count no_members = 0
member_count (member k d ms) = member_count ms + 1

-- the text of the member with this name, where there is one and it is a text
abbrev pub text_at : List ℕ → Members → Option (List ℕ)
text_at name ms = option_and_then as_str (get_member name ms)

-- the texts of the members `number` and `use`
abbrev pub both_texts : Members → Option (List ℕ × List ℕ)
both_texts ms =
    option_and_then (λ n. option_map (λ u. (n, u)) (text_at (codes "use") ms)) (text_at (codes "number") ms)

-- the two texts of an object that has these two members and no other
abbrev pub texts_of : Data → Option (List ℕ × List ℕ)
texts_of null = None
texts_of (boolean b) = None
texts_of (number n) = None
texts_of (string s) = None
texts_of (array ds) = None
texts_of (object ms) = if member_count ms == 2 then both_texts ms else None

-- the texts of card number and use that the bytes ask with
abbrev pub asked_in : List ℕ → Option (List ℕ × List ℕ)
asked_in bytes = option_and_then texts_of (json_in bytes)
