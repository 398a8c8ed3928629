-- The text of an answer (RFC 9112, section 4): a status line, fields, an empty line and the body.
use Rattle.std.specs.Prelude.{ℕ, List, [], ◌∷◌, ◌++◌, Bool, Option, Some, None, length, codes, decimal}
use Rattle.std.specs.Prelude.{if◌then◌else◌}
use Rattle.vault_wire.specs.Status.{reason_of}

-- the end of a line
abbrev pub crlf : List ℕ
crlf = 13 ∷ 10 ∷ []

-- the first line
abbrev pub status_line : ℕ → List ℕ
status_line code = codes "HTTP/1.1 " ++ decimal code ++ codes " " ++ reason_of code ++ crlf

-- a field's line
abbrev pub field_line : List ℕ → List ℕ → List ℕ
field_line name value = name ++ codes ": " ++ value ++ crlf

-- the methods that the target takes, where they are said
abbrev pub allow_line : Option (List ℕ) → List ℕ
allow_line None = []
allow_line (Some methods) = field_line (codes "Allow") methods

-- that the connection closes, where it does
abbrev pub close_line : Bool → List ℕ
close_line close = if close then field_line (codes "Connection") (codes "close") else []

-- the kind of the body
abbrev pub kind_line : List ℕ
kind_line = field_line (codes "Content-Type") (codes "application/json")

-- its length in bytes
abbrev pub length_line : ℕ → List ℕ
length_line size = field_line (codes "Content-Length") (decimal size)

-- the whole answer
abbrev pub answer_bytes : ℕ → Option (List ℕ) → List ℕ → Bool → List ℕ
answer_bytes code allow body close =
    status_line code ++ kind_line ++ length_line (length body)
    ++ allow_line allow ++ close_line close ++ crlf ++ body
