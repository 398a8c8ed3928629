-- Texts of one caller at one merchant, of vaults that agree on both.
use Rattle.std.proofs.Common.{◌≡◌, [], ◌∷◌, ◌++◌, Ok, Err, refl, sym, ap, ap₂, subst}
use Rattle.std.proofs.lemmas.List.Elements.{All-head, All-tail}
use Rattle.vault_core.specs.Isolation.{AgreeAt, AgreeFor}
use Rattle.vault_core.specs.Keys.{Bytes}
use Rattle.vault_core.specs.Table.{after}
use Rattle.vault_core.specs.Vault.{Vault as Content}
use Rattle.vault_core.specs.declared.command.Command.{Command}
use Rattle.vault_core.specs.declared.reply.Reply.{Reply}
use Rattle.vault_core.proofs.Isolated.{steps_isolated}
use Rattle.vault_wire.specs.Parts.{Parts}
use Rattle.vault_routes.specs.Wanted.{Wanted}
use Rattle.vault_http.specs.Exchanges.{answer_for}
use Rattle.vault_engine.specs.Asking.{Asked, Pair, text_at, vault_after}
use Rattle.vault_promise.specs.Apart.{IsBy, TextsAreIsolated}

-- one exchange is answered by the same text, and the vaults agree afterwards
step : (V W : Content) (caller m : Bytes) (p : Parts) (pair : Pair) (w : Wanted Command)
    → IsBy caller m w → AgreeAt m V W → AgreeFor caller V W
    → (let x : Asked Parts = record { unit = p; pair = pair; wanted = w } in
    (text_at answer_for V x ≡ text_at answer_for W x)
    × AgreeAt m (vault_after V (x ∷ [])) (vault_after W (x ∷ []))
    × AgreeFor caller (vault_after V (x ∷ [])) (vault_after W (x ∷ [])))
unfolding text_at vault_after
step V W caller m p pair (Ok c) by rows records =
    let one = steps_isolated V W c caller by.0 (subst (λ k. AgreeAt k V W) (sym by.1) rows) records in (
      ap (λ (r : Reply). answer_for p (Ok c) r) one.0,
      subst (λ k. AgreeAt k (after V c) (after W c)) by.1 one.1,
      one.2,
    )
step V W caller m p pair (Err n) by rows records = (refl, rows, records)

pub texts_isolated : TextsAreIsolated
texts_isolated V W caller m [] by rows records = refl
texts_isolated V W caller m (x ∷ xs) by rows records =
    let one = step V W caller m x.unit x.pair x.wanted
    (All-head (λ (y : Asked Parts). IsBy caller m y.wanted) x xs by) rows records in
    ap₂ (λ a b. a ++ b) one.0 (texts_isolated (vault_after V (x ∷ [])) (vault_after W (x ∷ [])) caller m xs
    (All-tail (λ (y : Asked Parts). IsBy caller m y.wanted) x xs by) one.1 one.2)
