-- The numbers of the refusals of texts and of commands, by their names.
use Rattle.std.specs.Prelude.{ℕ}
use Rattle.vault_refusal.specs.Refusal.{number_of}
use Rattle.vault_refusal.specs.declared.refusal.Refusal.TheVariants as refusal

-- the text is no request number
abbrev pub bad_request_number : ℕ
bad_request_number = number_of refusal.BadRequestNumber

-- the merchant isn't known
abbrev pub no_merchant : ℕ
no_merchant = number_of refusal.NoMerchant

-- the caller hasn't the right at the merchant
abbrev pub no_right : ℕ
no_right = number_of refusal.NoRight

-- the merchant doesn't offer tokens of this use
abbrev pub wrong_use : ℕ
wrong_use = number_of refusal.WrongUse

-- the request number came before with another merchant, use or card number
abbrev pub number_reused : ℕ
number_reused = number_of refusal.NumberReused

-- the merchant has as many tokens as it may have
abbrev pub full : ℕ
full = number_of refusal.Full

-- no candidate of the draw is good
abbrev pub no_candidate : ℕ
no_candidate = number_of refusal.NoCandidate

-- the merchant has no such token
abbrev pub no_token : ℕ
no_token = number_of refusal.NoToken

-- the number of the token is purged
abbrev pub token_purged : ℕ
token_purged = number_of refusal.Purged

-- the token is revoked
abbrev pub token_revoked : ℕ
token_revoked = number_of refusal.Revoked

-- the token has expired
abbrev pub token_expired : ℕ
token_expired = number_of refusal.Expired

-- the token is live
abbrev pub still_live : ℕ
still_live = number_of refusal.StillLive

-- there are as many merchants as there may be
abbrev pub too_many_merchants : ℕ
too_many_merchants = number_of refusal.TooManyMerchants
