-- Commands whose parts are values of their types.
use Rattle.std.specs.Prelude.{List, [], ◌∷◌, IfSome}
use Rattle.vault_pan.specs.CardText.{IsPan, IsToken}
use Rattle.vault_pan.specs.Draw.{IsDrawing}
use Rattle.vault_core.specs.Lives.{AreLives, setting_in}
use Rattle.vault_core.specs.Name.{IsName}
use Rattle.vault_core.specs.Parts.{parts_of}
use Rattle.vault_core.specs.Scalar.{IsLife, IsMoment, IsRequest}
use Rattle.vault_core.specs.declared.command.Command.{Command}
use Rattle.vault_core.specs.declared.command.TokenCommand.{TokenCommand}
use Rattle.vault_core.specs.declared.parts.Parts.{Parts}
use Rattle.vault_core.specs.declared.parts.Parts.TheVariants.{SetMerchant, Grant, Withdraw, Tokenize}
use Rattle.vault_core.specs.declared.parts.Parts.TheVariants.{Detokenize, View, Revoke, Purge, Audit}

-- the lives that a SetMerchant sets are lives
abbrev pub HasLivesInRange : Command → Type 0
HasLivesInRange c = IfSome (setting_in c) (λ set. IsLife set.1.single_life × IsLife set.1.multi_life)

-- the parts of a command on a token are values of their types
abbrev pub IsProperOnToken : TokenCommand → Type 0
IsProperOnToken t = IsName t.caller × IsName t.merchant × IsToken t.token × IsMoment t.moment

-- these parts are values of their types, as the code's own types say of all but the lives
abbrev pub ArePartsProper : Parts → Type 0
ArePartsProper (SetMerchant m x) = IsName m × AreLives x × IsMoment x.moment
ArePartsProper (Grant caller m right until now) =
    IsName caller × IsName m × IfSome until IsMoment × IsMoment now
ArePartsProper (Withdraw caller m right now) = IsName caller × IsName m × IsMoment now
ArePartsProper (Tokenize a) =
    IsName a.caller × IsName a.merchant × IsRequest a.request × IsPan a.pan × IsDrawing a.digits
    × IsMoment a.moment
ArePartsProper (Detokenize t) = IsProperOnToken t
ArePartsProper (View t) = IsProperOnToken t
ArePartsProper (Revoke t) = IsProperOnToken t
ArePartsProper (Purge t) = IsProperOnToken t
ArePartsProper (Audit caller m now) = IsName caller × IsName m × IsMoment now

-- so are the parts of a command
abbrev pub IsProper : Command → Type 0
IsProper c = ArePartsProper (parts_of c)

-- each command is proper
abbrev pub AllProper : List Command → Type 0
AllProper [] = Unit {0}
AllProper (c ∷ cs) = IsProper c × AllProper cs
