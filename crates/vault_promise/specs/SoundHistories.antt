-- What holds of every history from a sound vault.
use Rattle.std.specs.Prelude.{◌≡◌, ◌<◌, ◌≤◌, ◌+◌, ℕ, List, ◌∷◌, ◌++◌, true, false, is_some, Some}
use Rattle.vault_pan.specs.Luhn.{passes_check}
use Rattle.vault_core.specs.Keys.{Bytes}
use Rattle.vault_core.specs.Laws.{HasOrPurged, IsSameRequest}
use Rattle.vault_core.specs.Sound.{Sound}
use Rattle.vault_core.specs.Parts.{command_of}
use Rattle.vault_core.specs.Table.{reply}
use Rattle.vault_core.specs.Vault.{Vault as Content, empty_vault, entitled, entry_at, is_live}
use Rattle.vault_core.specs.Window.{moment_at}
use Rattle.vault_core.specs.Yields.{given_by}
use Rattle.vault_core.specs.declared.command.Command.TheVariants.{Detokenize as Redeem}
use Rattle.vault_core.specs.declared.command.TokenRequest.{TokenRequest}
use Rattle.vault_core.specs.declared.limit.TheConstants.{MOST_COUNT}
use Rattle.vault_core.specs.declared.reply.Reply.TheVariants.{Number, Token}
use Rattle.vault_core.specs.declared.right.Right.TheVariants.{Detokenize}
use Rattle.vault_core.specs.declared.row.Entry.{Entry}
use Rattle.vault_recover.specs.Histories.{Answered, IsHistory, Step, answers_number, how_many, last}

-- a number that a merchant's token had at any place it has at the end, or it is purged
abbrev pub NumbersStand : Content → List (Step × Content) → Type 0
NumbersStand V h = (before after : List (Step × Content)) → h ≡ before ++ after
    → (m token number : Bytes) (entry : Entry) → entry_at (last V before) m token ≡ Some entry
    → entry.number ≡ Some number → HasOrPurged number (entry_at (last V h) m token)

-- no token passes the card check
abbrev pub TokensFailIn : Content → Type 0
TokensFailIn W = (m token : Bytes) → is_some (entry_at W m token) ≡ true → passes_check token ≡ false

-- a live token yields its number to a caller that is entitled, while the merchant's count is below its limit
abbrev pub LiveTokensYieldIn : Content → Type 0
LiveTokensYieldIn W = (caller m token : Bytes) (now : ℕ) (entry : Entry)
    → entitled W caller m Detokenize (moment_at W m now) ≡ true → entry_at W m token ≡ Some entry
    → is_live entry (moment_at W m now) ≡ true → given_by W m < MOST_COUNT
    → (number : Bytes) × (entry.number ≡ Some number)
    × (reply W (Redeem caller m token now) ≡ Number number)

-- a request that was answered with a token anywhere is answered with it at the end, if it comes again
abbrev pub AnswersAgain : Content → List (Step × Content) → Type 0
AnswersAgain V h = (before after : List (Step × Content)) (first again : TokenRequest) (token : Bytes)
    (expires : ℕ) (U : Content) → h ≡ before ++ (Answered (command_of first) (Token token expires), U) ∷ after
    → IsSameRequest first again → reply (last V h) (command_of again) ≡ Token token expires

-- a merchant's count of numbers given grew by those answered at least
abbrev pub GivenStands : Content → List (Step × Content) → Type 0
GivenStands V h = (m : Bytes) → given_by V m + how_many (answers_number m) h ≤ given_by (last V h) m

-- The last vault is sound, numbers and tokens stand, live tokens yield, requests are answered again, and
-- counts bound the numbers that were given. As the history is any, so is every vault on the way. After
-- another history, from the empty vault, it is one from there, so that the laws of histories hold of both.
pub record Lasts (V : Content) (h : List (Step × Content)) : Type 0 where
  pub sound : Sound (last V h)
  pub apart : NumbersStand V h
  pub checked : TokensFailIn (last V h)
  pub yields : LiveTokensYieldIn (last V h)
  pub again : AnswersAgain V h
  pub given : GivenStands V h
  pub joins : (first : List (Step × Content)) → IsHistory empty_vault first → last empty_vault first ≡ V
      → IsHistory empty_vault (first ++ h) × (last empty_vault (first ++ h) ≡ last V h)

-- so from every sound vault
abbrev pub HistoriesLast : Type 0
HistoriesLast = (V : Content) (h : List (Step × Content)) → Sound V → IsHistory V h → Lasts V h
