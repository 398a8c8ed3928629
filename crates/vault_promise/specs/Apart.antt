-- What one caller is sent about one merchant doesn't depend on the others.
use Rattle.std.specs.Prelude.{◌≡◌, List, All, Some, Ok, Err}
use Rattle.vault_core.specs.Isolation.{AgreeAt, AgreeFor}
use Rattle.vault_core.specs.Keys.{Bytes}
use Rattle.vault_core.specs.Named.{caller_of, merchant_of}
use Rattle.vault_core.specs.Vault.{Vault as Content}
use Rattle.vault_core.specs.declared.command.Command.{Command}
use Rattle.vault_routes.specs.Wanted.{Wanted}
use Rattle.vault_wire.specs.Parts.{Parts}
use Rattle.vault_engine.specs.Asking.{Asked, texts}
use Rattle.vault_http.specs.Exchanges.{answer_for}

-- what is wanted is a command of this caller at this merchant, or the message is refused
abbrev pub IsBy : Bytes → Bytes → Wanted Command → Type 0
IsBy caller merchant (Ok c) = (caller_of c ≡ Some caller) × (merchant_of c ≡ merchant)
IsBy caller merchant (Err n) = Unit {0}

-- Where two vaults, sound or not, agree on a merchant's rows and on a caller's records, the exchanges of that
-- caller at that merchant are answered by the same texts.
abbrev pub TextsAreIsolated : Type 0
TextsAreIsolated =
    (V W : Content) (caller merchant : Bytes) (xs : List (Asked Parts))
    → All (λ (x : Asked Parts). IsBy caller merchant x.wanted) xs
    → AgreeAt merchant V W → AgreeFor caller V W → texts answer_for V xs ≡ texts answer_for W xs
