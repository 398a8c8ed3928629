-- The first good candidate, from one on.
use Rattle.std.proofs.Common.{◌≡◌, ℕ, suc, ◌+◌, ◌-◌, ◌<◌, Bool, true, false, cond, Option, Some, None}
use Rattle.std.proofs.Common.{is_none, not, ◌&&◌, map, arith, refl, ap, ◌∙◌}
use Rattle.std.specs.Prelude.{find}
use Rattle.std.specs.List.{range_with_len}
use Rattle.vault_pan.specs.Draw.{candidate_digits}
use Rattle.vault_pan.specs.Luhn.{passes_check}
use Rattle.vault_core.specs.Draw.{is_good, chosen_token}
use Rattle.vault_core.specs.Keys.{Bytes}
use Rattle.vault_core.specs.Vault.{Vault, entry_at}
use Rattle.vault_core.specs.declared.row.Entry.{Entry}

-- the first good candidate that isn't before k
unfoldable pub chosen_from : Vault → Bytes → Bytes → Bytes → ℕ → Option Bytes
chosen_from V m pan digits k =
    find (is_good V m) (map (λ j. candidate_digits digits j pan) (range_with_len k (20 - k)))

pub chosen-all : (V : Vault) (m pan digits : Bytes)
    → chosen_token V m pan digits ≡ chosen_from V m pan digits 0
unfolding chosen_token chosen_from
chosen-all V m pan digits = refl

pub chosen_from-none : (V : Vault) (m pan digits : Bytes) → chosen_from V m pan digits 20 ≡ None
unfolding chosen_from
chosen_from-none V m pan digits = refl

one_more : (V : Vault) (m pan digits : Bytes) (k : ℕ) → k < 20
    → chosen_from V m pan digits k
    ≡ cond (is_good V m (candidate_digits digits k pan)) (Some (candidate_digits digits k pan))
    (chosen_from V m pan digits (k + 1))
unfolding chosen_from
one_more V m pan digits k inside =
    let left : 20 - k ≡ suc (20 - (k + 1)) = omega arith in
    ap (λ n. find (is_good V m) (map (λ j. candidate_digits digits j pan) (range_with_len k n))) left

pub chosen_from-good : (V : Vault) (m pan digits : Bytes) (k : ℕ) → k < 20
    → passes_check (candidate_digits digits k pan) ≡ false
    → entry_at V m (candidate_digits digits k pan) ≡ None
    → chosen_from V m pan digits k ≡ Some (candidate_digits digits k pan)
chosen_from-good V m pan digits k inside fails new =
    one_more V m pan digits k inside
    ∙ ap (λ b. cond (not b && is_none (entry_at V m (candidate_digits digits k pan)))
    (Some (candidate_digits digits k pan)) (chosen_from V m pan digits (k + 1)))
    fails
    ∙ ap (λ (o : Option Entry). cond (is_none o) (Some (candidate_digits digits k pan))
    (chosen_from V m pan digits (k + 1)))
    new

pub chosen_from-passes : (V : Vault) (m pan digits : Bytes) (k : ℕ) → k < 20
    → passes_check (candidate_digits digits k pan) ≡ true
    → chosen_from V m pan digits k ≡ chosen_from V m pan digits (k + 1)
chosen_from-passes V m pan digits k inside passes =
    one_more V m pan digits k inside
    ∙ ap (λ b. cond (not b && is_none (entry_at V m (candidate_digits digits k pan)))
    (Some (candidate_digits digits k pan)) (chosen_from V m pan digits (k + 1)))
    passes

both : (b : Bool) → (b && false) ≡ false
both true = refl
both false = refl

pub chosen_from-taken : (V : Vault) (m pan digits : Bytes) (k : ℕ) (entry : Entry) → k < 20
    → entry_at V m (candidate_digits digits k pan) ≡ Some entry
    → chosen_from V m pan digits k ≡ chosen_from V m pan digits (k + 1)
chosen_from-taken V m pan digits k entry inside there =
    one_more V m pan digits k inside
    ∙ ap (λ (o : Option Entry). cond (not (passes_check (candidate_digits digits k pan)) && is_none o)
    (Some (candidate_digits digits k pan)) (chosen_from V m pan digits (k + 1)))
    there
    ∙ ap (λ b. cond b (Some (candidate_digits digits k pan)) (chosen_from V m pan digits (k + 1))) (both _)
