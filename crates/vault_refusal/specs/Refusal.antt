-- The refusals: each has a number with one meaning in the whole product.
use Rattle.std.specs.Prelude.{ℕ, ◌==◌, Bool, List, [], ◌∷◌, Option, Some, None, codes}
use Rattle.std.specs.List.{find}
use Rattle.vault_refusal.specs.declared.refusal.Refusal.{Refusal}
use Rattle.vault_refusal.specs.declared.refusal.Refusal.TheVariants as refusal

-- its number
abbrev pub number_of : Refusal → ℕ
number_of refusal.BadNumber = 1
number_of refusal.BadCheck = 2
number_of refusal.BadToken = 3
number_of refusal.BadName = 4
number_of refusal.BadRequestNumber = 5
number_of refusal.BadMoment = 6
number_of refusal.NoMerchant = 7
number_of refusal.NoRight = 8
number_of refusal.WrongUse = 9
number_of refusal.NumberReused = 10
number_of refusal.Full = 11
number_of refusal.NoCandidate = 12
number_of refusal.NoToken = 13
number_of refusal.Purged = 14
number_of refusal.Revoked = 15
number_of refusal.Expired = 16
number_of refusal.StillLive = 17
number_of refusal.TooManyMerchants = 18
number_of refusal.BadUse = 19
number_of refusal.CommandMemory = 20
number_of refusal.CommandStore = 21
number_of refusal.Reopen = 22
number_of refusal.WrongSchema = 30
number_of refusal.Damaged = 31
number_of refusal.OpenMemory = 32
number_of refusal.OpenStore = 33
number_of refusal.FileRefused = 34
number_of refusal.BadHeader = 40
number_of refusal.BatchRead = 41
number_of refusal.BatchWrite = 42
number_of refusal.BatchStore = 43
number_of refusal.BadRecord = 44
number_of refusal.BatchMemory = 45
number_of refusal.BatchSource = 46
number_of refusal.BadHead = 50
number_of refusal.HeadTooLarge = 51
number_of refusal.BadLength = 52
number_of refusal.NoCoding = 53
number_of refusal.BodyTooLarge = 54
number_of refusal.WireMemory = 55
number_of refusal.NoRoute = 56
number_of refusal.BadMethod = 57
number_of refusal.BadFields = 58
number_of refusal.BadBody = 59
number_of refusal.ServiceSource = 60
number_of refusal.ServiceRead = 61
number_of refusal.ServiceWrite = 62
number_of refusal.ServiceStore = 63
number_of refusal.ServiceMemory = 64
number_of refusal.NotToml = 70
number_of refusal.UnknownRight = 71
number_of refusal.BadKey = 72
number_of refusal.WrongType = 73
number_of refusal.RightsMemory = 74
number_of refusal.BadEnd = 75
number_of refusal.BadLives = 76
number_of refusal.Accept = 80
number_of refusal.MomentAhead = 81

-- the status code of a refusal that no message is answered with, and of a number that none has
abbrev pub other_status : ℕ
other_status = 507

-- the HTTP status of the answer to a message that it refuses: Bad Request, Forbidden, Not Found, Method Not
-- Allowed, Conflict, Gone, Length Required, Payload Too Large, Unprocessable Entity, Request Header Fields
-- Too Large, Service Unavailable, or Insufficient Storage
abbrev pub status_of : Refusal → ℕ
status_of refusal.BadNumber = 400
status_of refusal.BadCheck = 400
status_of refusal.BadToken = 400
status_of refusal.BadName = 400
status_of refusal.BadRequestNumber = 400
status_of refusal.NoMerchant = 404
status_of refusal.NoRight = 403
status_of refusal.WrongUse = 422
status_of refusal.NumberReused = 409
status_of refusal.Full = 507
status_of refusal.NoCandidate = 503
status_of refusal.NoToken = 404
status_of refusal.Purged = 410
status_of refusal.Revoked = 410
status_of refusal.Expired = 410
status_of refusal.StillLive = 409
status_of refusal.TooManyMerchants = 507
status_of refusal.BadUse = 400
status_of refusal.BadHead = 400
status_of refusal.HeadTooLarge = 431
status_of refusal.BadLength = 400
status_of refusal.NoCoding = 411
status_of refusal.BodyTooLarge = 413
status_of refusal.NoRoute = 404
status_of refusal.BadMethod = 405
status_of refusal.BadFields = 400
status_of refusal.BadBody = 400
status_of other = other_status

-- all of them, in the order of their numbers
abbrev pub refusals : List Refusal
refusals = refusal.BadNumber ∷ refusal.BadCheck ∷ refusal.BadToken ∷ refusal.BadName ∷
    refusal.BadRequestNumber ∷ refusal.BadMoment ∷ refusal.NoMerchant ∷ refusal.NoRight ∷
    refusal.WrongUse ∷ refusal.NumberReused ∷ refusal.Full ∷ refusal.NoCandidate ∷ refusal.NoToken ∷
    refusal.Purged ∷ refusal.Revoked ∷ refusal.Expired ∷ refusal.StillLive ∷ refusal.TooManyMerchants ∷
    refusal.BadUse ∷ refusal.CommandMemory ∷ refusal.CommandStore ∷ refusal.Reopen ∷
    refusal.WrongSchema ∷ refusal.Damaged ∷ refusal.OpenMemory ∷ refusal.OpenStore ∷
    refusal.FileRefused ∷ refusal.BadHeader ∷ refusal.BatchRead ∷ refusal.BatchWrite ∷
    refusal.BatchStore ∷ refusal.BadRecord ∷ refusal.BatchMemory ∷ refusal.BatchSource ∷
    refusal.BadHead ∷ refusal.HeadTooLarge ∷ refusal.BadLength ∷ refusal.NoCoding ∷
    refusal.BodyTooLarge ∷ refusal.WireMemory ∷ refusal.NoRoute ∷ refusal.BadMethod ∷ refusal.BadFields ∷
    refusal.BadBody ∷ refusal.ServiceSource ∷ refusal.ServiceRead ∷ refusal.ServiceWrite ∷
    refusal.ServiceStore ∷ refusal.ServiceMemory ∷ refusal.NotToml ∷ refusal.UnknownRight ∷
    refusal.BadKey ∷ refusal.WrongType ∷ refusal.RightsMemory ∷ refusal.BadEnd ∷ refusal.BadLives ∷
    refusal.Accept ∷ refusal.MomentAhead ∷ []

-- it has the number
abbrev pub has_number : ℕ → Refusal → Bool
has_number n refused = number_of refused == n

-- the one that has the number
abbrev pub numbered : ℕ → Option Refusal
numbered n = find (has_number n) refusals

-- what people are told of it
abbrev pub words_of : Refusal → List ℕ
words_of refusal.BadNumber = codes "not a card number"
words_of refusal.BadCheck = codes "wrong check digit"
words_of refusal.BadToken = codes "not a token"
words_of refusal.BadName = codes "not a name"
words_of refusal.BadRequestNumber = codes "not a request number"
words_of refusal.BadMoment = codes "not a time"
words_of refusal.NoMerchant = codes "no such merchant"
words_of refusal.NoRight = codes "no right"
words_of refusal.WrongUse = codes "the merchant offers no tokens of this use"
words_of refusal.NumberReused = codes "the request number was used for something else"
words_of refusal.Full = codes "the merchant is full"
words_of refusal.NoCandidate = codes "no token was found among the candidates"
words_of refusal.NoToken = codes "no such token"
words_of refusal.Purged = codes "the card number is purged"
words_of refusal.Revoked = codes "the token is revoked"
words_of refusal.Expired = codes "the token has expired"
words_of refusal.StillLive = codes "the token is still live"
words_of refusal.TooManyMerchants = codes "there are too many merchants"
words_of refusal.BadUse = codes "not a use"
words_of refusal.CommandMemory = codes "memory was refused"
words_of refusal.CommandStore = codes "the store failed"
words_of refusal.Reopen = codes "the store failed before"
words_of refusal.WrongSchema = codes "the file has another schema"
words_of refusal.Damaged = codes "the rows break a rule"
words_of refusal.OpenMemory = codes "memory was refused"
words_of refusal.OpenStore = codes "the database failed"
words_of refusal.FileRefused = codes "the file is refused"
words_of refusal.BadHeader = codes "the batch has no header"
words_of refusal.BatchRead = codes "the reader failed"
words_of refusal.BatchWrite = codes "the writer failed"
words_of refusal.BatchStore = codes "the store failed"
words_of refusal.BadRecord = codes "a record hasn't three fields"
words_of refusal.BatchMemory = codes "memory was refused"
words_of refusal.BatchSource = codes "no time or digits for a row"
words_of refusal.BadHead = codes "no request can begin with these bytes"
words_of refusal.HeadTooLarge = codes "a head has 8192 bytes and 32 fields at most"
words_of refusal.BadLength = codes "the length of the body isn't said by one number"
words_of refusal.NoCoding = codes "a body with a transfer coding isn't taken"
words_of refusal.BodyTooLarge = codes "a body has 4096 bytes at most"
words_of refusal.WireMemory = codes "memory was refused"
words_of refusal.NoRoute = codes "no such path"
words_of refusal.BadMethod = codes "the path doesn't take this method"
words_of refusal.BadFields = codes "a header field is missing or there twice"
words_of refusal.BadBody = codes "the body isn't the JSON object that is asked for"
words_of refusal.ServiceSource = codes "no time or digits for a message"
words_of refusal.ServiceRead = codes "the reader failed"
words_of refusal.ServiceWrite = codes "the writer failed"
words_of refusal.ServiceStore = codes "the store failed"
words_of refusal.ServiceMemory = codes "memory was refused"
words_of refusal.NotToml = codes "not a TOML document"
words_of refusal.UnknownRight = codes "not a right"
words_of refusal.BadKey = codes "a key isn't a name"
words_of refusal.WrongType = codes "a value of the wrong type"
words_of refusal.RightsMemory = codes "memory was refused"
words_of refusal.BadEnd = codes "not an end"
words_of refusal.BadLives = codes "not lives, or not a lead"
words_of refusal.Accept = codes "listening or accepting was refused"
words_of refusal.MomentAhead = codes "the merchant's time is far ahead of the clock"
