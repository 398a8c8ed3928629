-- The live multi-use token of a number is the one that a search finds.
use Rattle.std.proofs.Common.{◌≡◌, ℕ, true, false, Option, Some, None, refl, sym, ap, ◌∙◌}
use Rattle.std.specs.Prelude.{IfSome, IfNone, option_map}
use Rattle.std.specs.BTreeMap as rows
use Rattle.std.specs.Cmp.{tied_itself}
use Rattle.std.specs.Cmp.Lexicographic.{texts_ties}
use Rattle.std.specs.List.{All}
use Rattle.std.specs.Ordering.{is_eq}
use Rattle.std.proofs.lemmas.List.Elements.{All-contains}
use Rattle.std.proofs.lemmas.Map.Views.{Contains-from_lookup, tells_apart}
use Rattle.vault_pan.specs.CardText.{same}
use Rattle.vault_core.specs.Keys.{Bytes, bytes_cmp, entry_cmp}
use Rattle.vault_core.specs.Repeats.{current, is_reusable}
use Rattle.vault_core.specs.Sound.{Sound}
use Rattle.vault_core.specs.Vault.{Vault}
use Rattle.vault_core.specs.Window.{moment_at}
use Rattle.vault_core.specs.declared.row.Entry.{Entry}
use Rattle.vault_core.proofs.CurrentLemmas.{current-some, current-none, one_live}
use Rattle.vault_core.proofs.Maps.{bytes_total, entry_exact}
use Rattle.vault_store.specs.Live.{IsLiveToken}
use Rattle.vault_store.specs.Shown.{Shows}

-- an entry at its key isn't a live multi-use one of the number at the merchant
abbrev pub IsNotLive : Bytes → Bytes → ℕ → (Bytes × Bytes) × Entry → Type 0
IsNotLive m pan at e = e.0.0 ≡ m → ¬ (is_reusable pan at e.1 ≡ true)

pub same_itself : (a b : Bytes) → a ≡ b → same a b ≡ true
same_itself a b is =
    texts_ties a b ∙ ap (λ x. is_eq (bytes_cmp x b)) is ∙ ap is_eq (tied_itself bytes_total b)

-- an entry of another merchant isn't
pub other_merchant : (m pan : Bytes) (at : ℕ) (e : (Bytes × Bytes) × Entry) → same e.0.0 m ≡ false
    → IsNotLive m pan at e
other_merchant m pan at e apart is live = let clash = sym (same_itself e.0.0 m is) ∙ apart in cc

-- no token is live where no entry is
pub none_live : (entries : rows.BTreeMap (Bytes × Bytes) Entry) (m pan : Bytes) (at : ℕ) (token : Bytes)
    → All (IsNotLive m pan at) entries.entries → ¬ (IsLiveToken entries m pan at token)
none_live entries m pan at token all live =
    All-contains (IsNotLive m pan at) entries.entries ((m, token), live.0) all
    (Contains-from_lookup (tells_apart entry_exact) (m, token) live.0 entries.entries live.1) refl live.2

module _ (V : Vault) (sound : Sound V) (m pan : Bytes) (at : ℕ) (now : moment_at V m at ≡ at)
    (entries : rows.BTreeMap (Bytes × Bytes) Entry) (shown : Shows entry_cmp entries V.entries) where
  held : (token : Bytes) (o : Option (Bytes × Entry))
      → current V m pan at ≡ o → IsLiveToken entries m pan at token
      → Some token ≡ option_map (λ x. x.0) o
  held token None is live =
      let fails = current-none V m pan token at live.0 is (sym (shown.at (m, token)) ∙ live.1) in
      let clash = sym live.2 ∙ fails in cc
  held token (Some x) is live =
      let there = current-some V m pan at x is in
      ap Some
      (one_live V sound m pan at now token x.0 live.0 x.1
      (sym (shown.at (m, token)) ∙ live.1) live.2 there.0 there.1)

  none : (o : Option (Bytes × Entry))
      → current V m pan at ≡ o → ((token : Bytes) → ¬ (IsLiveToken entries m pan at token))
      → None ≡ option_map (λ x. x.0) o
  none None is never = refl
  none (Some x) is never =
      let there = current-some V m pan at x is in
      absurd (never x.0 (x.1, shown.at (m, x.0) ∙ there.0, there.1))

  pub current-is : (found : Option Bytes) → IfSome found (IsLiveToken entries m pan at)
      → IfNone found ((token : Bytes) → ¬ (IsLiveToken entries m pan at token))
      → found ≡ option_map (λ x. x.0) (current V m pan at)
  current-is None live never = none (current V m pan at) refl never
  current-is (Some token) live never = held token (current V m pan at) refl live
