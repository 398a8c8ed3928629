-- A merchant that is known is set, and its moment moves.
use Rattle.std.proofs.Common.{◌≡◌, ℕ, ◌+◌, ◌≤◌, Some, is_some, cond, sym, ap, ◌∙◌, arith}
use Rattle.std.specs.FinMap as map
use Rattle.vault_core.specs.Keys.{Bytes}
use Rattle.vault_core.specs.Outcome.{moved_vault}
use Rattle.vault_core.specs.Scalar.{IsMoment}
use Rattle.vault_core.specs.Sound.{Sound, IsCount, IsSoundMerchant}
use Rattle.vault_core.specs.Vault.{Vault, Merchant, merchant_at, time_at}
use Rattle.vault_core.proofs.Finds.{some_same}
use Rattle.vault_core.proofs.Maps.{bytes_total}
use Rattle.vault_core.proofs.Steps.{sound-merchant}

-- a merchant that is known is set
pub known-set : (V : Vault) → Sound V → (m : Bytes) (known new : Merchant) → merchant_at V m ≡ Some known
    → IsSoundMerchant m new → known.moment ≤ new.moment
    → Sound (record V { merchants = map.insert V.merchants m new })
known-set V s m known new is fine later =
    let count = map.len-insert bytes_total V.merchants m new
    ∙ ap (λ o. cond (is_some o) (map.len V.merchants) (map.len V.merchants + 1)) is in
    let few = s.few in
    sound-merchant V s m new fine
    (λ old e. let h : known
    ≡ old = some_same (sym is ∙ e) in let at = ap (λ (x : Merchant). x.moment) h in omega arith)
    (omega (arith, count))

-- a merchant's moment moves, and its counts are these
pub sound-counts : (V : Vault) → Sound V → (m : Bytes) (known : Merchant) (now given denied : ℕ)
    → merchant_at V m ≡ Some known → IsMoment now → IsCount given → IsCount denied
    → Sound (record V {
      merchants = map.insert V.merchants m
          (record known { moment = time_at known now; given = given; denied = denied });
    })
sound-counts V s m known now given denied is moment few_given few_denied =
    let old = s.merchants m known is in
    let before = old.moment in
    known-set V s m known (record known { moment = time_at known now; given = given; denied = denied }) is
    (record {
      name = old.name;
      lives = old.lives;
      moment = omega arith;
      given = few_given;
      denied = few_denied;
    })
    (omega arith)

pub sound-moved : (V : Vault) → Sound V → (m : Bytes) (known : Merchant) (now : ℕ)
    → merchant_at V m ≡ Some known
    → IsMoment now → Sound (moved_vault V m known now)
sound-moved V s m known now is moment =
    let old = s.merchants m known is in
    sound-counts V s m known now known.given known.denied is moment old.given old.denied
