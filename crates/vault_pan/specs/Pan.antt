-- What reading a card number and a token answers.
use Rattle.std.specs.Prelude.{false, ◌≡◌, ℕ, List, Result, Ok, Err}
use Rattle.vault_refusal.specs.declared.refusal.Refusal.{Refusal}
use Rattle.vault_refusal.specs.declared.refusal.Refusal.TheVariants as refusal
use Rattle.vault_pan.specs.CardText.{IsCardText, IsNumber, IsPan, IsToken, digits_of}
use Rattle.vault_pan.specs.Luhn.{passes_check}
use Rattle.vault_pan.specs.declared.pan.PanFault.{PanFault}
use Rattle.vault_pan.specs.declared.pan.PanFault.TheVariants.{BadNumber, BadCheck}
use Rattle.vault_pan.specs.declared.token.BadToken.{BadToken}

-- A card number is the digits of its text. A text that shows no number of 10 to 19 digits is told
-- before a wrong check digit. No two of the three cases fit one text, and one of them always does.
abbrev pub ReadsPan : List ℕ → Result (List ℕ) PanFault → Type 0
ReadsPan text (Ok pan) = IsCardText text × IsPan pan × (pan ≡ digits_of text)
ReadsPan text (Err BadNumber) = ¬ (IsCardText text × IsNumber (digits_of text))
ReadsPan text (Err BadCheck) =
    IsCardText text × IsNumber (digits_of text) × (passes_check (digits_of text) ≡ false)

-- A token is its own text, and what is no token is refused.
abbrev pub ReadsToken : List ℕ → Result (List ℕ) BadToken → Type 0
ReadsToken text (Ok token) = IsToken text × (token ≡ text)
ReadsToken text (Err fault) = ¬ IsToken text

-- the refusal of a text that is no card number
abbrev pub refusal_of : PanFault → Refusal
refusal_of BadNumber = refusal.BadNumber
refusal_of BadCheck = refusal.BadCheck
