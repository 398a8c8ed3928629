-- The purges of a sound vault's dead tokens are proper.
use Rattle.std.proofs.Common.{ℕ, zero, suc, List, [], ◌∷◌, Bool, true, false, cond, map, take}
use Rattle.std.proofs.Common.{inl, inr, refl, ◌∙◌}
use Rattle.std.specs.FinMap as finmap
use Rattle.std.specs.List.{filter}
use Rattle.vault_core.proofs.Maps.{entry_total}
use Rattle.vault_core.specs.Dead.{dead_tokens, is_dead}
use Rattle.vault_core.specs.Keys.{Bytes}
use Rattle.vault_core.specs.Name.{IsName}
use Rattle.vault_core.specs.Proper.{AllProper}
use Rattle.vault_core.specs.Scalar.{IsMoment}
use Rattle.vault_core.specs.Sound.{Sound}
use Rattle.vault_core.specs.Vault.{Vault as Content, entries_of}
use Rattle.vault_core.specs.Window.{moment_at}
use Rattle.vault_core.specs.declared.row.Entry.{Entry}
use Rattle.vault_pan.specs.CardText.{IsToken}
use Rattle.vault_changes.proofs.Purging.{own_entry}
use Rattle.vault_changes.specs.Purges.{purges_of}
use Rattle.vault_live.proofs.ProperChanges.{Among, found_among}
use Rattle.vault_live.specs.Sweeping.{first_purges}
use Rattle.vault_live.specs.declared.sweeping.Sweeper.{Sweeper}

-- an entry of a merchant's, by its key
abbrev Keyed : Type 0
Keyed = (Bytes × Bytes) × Entry

module _ (caller m : Bytes) (now : ℕ) (named : IsName caller) (at : IsName m) (moment : IsMoment now) where
  -- the purges of the first of some tokens, each of which is one
  first_proper : (passes : Keyed → Bool) (n : ℕ) (es : List Keyed)
      → ((e : Keyed) → Among es e → IsToken e.0.1)
      → AllProper (purges_of caller m now (take n (map (λ (e : Keyed). e.0.1) (filter passes es))))
  first_proper passes zero es tokens = tt
  first_proper passes (suc n) [] tokens = tt
  first_proper passes (suc n) (e ∷ es) tokens =
      elim (passes e) as (λ b. AllProper (purges_of caller m now
      (take (suc n) (map (λ (e : Keyed). e.0.1) (cond b (e ∷ filter passes es) (filter passes es)))))) [
        | true ↦ (
          (named, at, tokens e (inl refl), moment),
          first_proper passes n es (λ f there. tokens f (inr there)),
        )
        | false ↦ first_proper passes (suc n) es (λ f there. tokens f (inr there))
      ]

  -- the token of an entry of the merchant's is one
  token_in : (V : Content) → Sound V → (e : Keyed) → Among (finmap.entries (entries_of V m)) e
      → IsToken e.0.1
  token_in V sound e there =
      let stands = finmap.get-entries (entries_of V m) e.0
      ∙ found_among entry_total (finmap.entries (entries_of V m)) (finmap.entries_sorted (entries_of V m)) e
      there in
      let own = own_entry V m e.0 e.1 stands in
      (sound.entries e.0.0 e.0.1 e.1 own.1).2.token_fails

-- what a sweep asks for at a moment
pub purges_proper : (it : Sweeper) (now : ℕ) (V : Content) → IsName it.caller → IsName it.merchant
    → IsMoment now → Sound V → AllProper (first_purges it now V)
unfolding dead_tokens
purges_proper it now V named at moment sound =
    first_proper it.caller it.merchant now named at moment
    (λ e. is_dead e.1 (moment_at V it.merchant now)) 100
    (finmap.entries (entries_of V it.merchant)) (token_in it.caller it.merchant now named at moment V sound)
