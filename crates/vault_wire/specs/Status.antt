-- The status codes of answers (RFC 9110, section 15).
use Rattle.std.specs.Prelude.{◌≡◌, ℕ, List, [], ◌∷◌, codes, true, ◌==◌, if◌then◌else◌}
use Rattle.std.specs.List.{list_any}

-- a status code and its reason
abbrev pub Status : Type 0
Status = ℕ × List ℕ

-- the statuses that the service answers with
abbrev pub statuses : List Status
statuses =
    (200, codes "OK")
    ∷ (400, codes "Bad Request")
    ∷ (403, codes "Forbidden")
    ∷ (404, codes "Not Found")
    ∷ (405, codes "Method Not Allowed")
    ∷ (409, codes "Conflict")
    ∷ (410, codes "Gone")
    ∷ (411, codes "Length Required")
    ∷ (413, codes "Payload Too Large")
    ∷ (422, codes "Unprocessable Entity")
    ∷ (431, codes "Request Header Fields Too Large")
    ∷ (503, codes "Service Unavailable")
    ∷ (507, codes "Insufficient Storage")
    ∷ []

-- the service answers with this status code
abbrev pub IsStatus : ℕ → Type 0
IsStatus code = list_any (λ s. code == s.0) statuses ≡ true

-- the reason of the first that has the code
abbrev pub reason_among : List Status → ℕ → List ℕ
reason_among [] code = []
reason_among (s ∷ more) code = if code == s.0 then s.1 else reason_among more code

-- the reason behind a status code, and nothing behind a code that the service doesn't answer with
unfoldable pub reason_of : ℕ → List ℕ
reason_of code = reason_among statuses code
