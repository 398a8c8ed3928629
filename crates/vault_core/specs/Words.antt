-- The words of uses, states and rights.
use Rattle.std.specs.Prelude.{ℕ, List, codes}
use Rattle.vault_core.specs.declared.reply.State.{State}
use Rattle.vault_core.specs.declared.reply.State.TheVariants as state
use Rattle.vault_core.specs.declared.right.Right.{Right}
use Rattle.vault_core.specs.declared.right.Right.TheVariants.{Tokenize, Detokenize, View, Revoke, Purge}
use Rattle.vault_core.specs.declared.right.Right.TheVariants.{Audit}
use Rattle.vault_core.specs.declared.usage.Use.{Use}
use Rattle.vault_core.specs.declared.usage.Use.TheVariants.{Single, Multi}

-- the word of a use
abbrev pub use_word : Use → List ℕ
use_word Single = codes "single"
use_word Multi = codes "multi"

-- the word of a state
abbrev pub state_word : State → List ℕ
state_word state.Live = codes "live"
state_word state.Expired = codes "expired"
state_word state.Revoked = codes "revoked"

-- the word of a right, its name in small letters
abbrev pub right_word : Right → List ℕ
right_word Tokenize = codes "tokenize"
right_word Detokenize = codes "detokenize"
right_word View = codes "view"
right_word Revoke = codes "revoke"
right_word Purge = codes "purge"
right_word Audit = codes "audit"
