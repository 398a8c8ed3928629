-- How many entries point at each card row, after one more.
use Rattle.std.proofs.Common.{◌≡◌, ◌∙◌, ◌+◌, ◌∷◌, ◌++◌, [], ℕ, ℤ, Bool, true, false, List, Option, Some, None}
use Rattle.std.proofs.Common.{cond, refl, sym, ap, arith, true≢false, nat_eq}
use Rattle.std.proofs.lemmas.Bool.Decides.{nat_tests}
use Rattle.std.specs.Ordering.{int_eq}
use Rattle.std.specs.Prelude.{option_and_then, slice_get}
use Rattle.vault_core.proofs.Finds.{some_same}
use Rattle.vault_rules.specs.Kept.{place_of}
use Rattle.vault_rules.specs.Lookups.{used_by}
use Rattle.vault_rules.specs.declared.rows.RawCard.{RawCard}
use Rattle.vault_rules.specs.declared.rows.RawEntry.{RawEntry}
use Rattle.vault_rules.proofs.Numbers.{int_is, int_same}
use Rattle.vault_rules.proofs.Places.{found_there}
use Rattle.vault_rules.proofs.TokenLemmas.{used_more}
use Rattle.vault_rules.proofs.UsedLemmas.{points}

module _ (cards : List RawCard) (id : ℤ) (place : ℕ) (there : place_of cards id ≡ Some place) where
  -- card rows of two ids have two places
  two_places : (card : ℤ) (q : ℕ) → place_of cards card ≡ Some q → nat_eq q place ≡ int_eq card id
  two_places card q other = go (int_eq card id) refl
    where
      same_id : q ≡ place → card ≡ id
      same_id same =
          let one = found_there (λ (c : RawCard). int_eq c.id card) cards q other in
          let two = found_there (λ (c : RawCard). int_eq c.id id) cards place there in
          let alike = some_same (sym one.1 ∙ ap (slice_get cards) same ∙ two.1) in
          sym (int_is one.0.id card one.2) ∙ ap (λ (c : RawCard). c.id) alike ∙ int_is two.0.id id two.2

      go : (b : Bool) → int_eq card id ≡ b → nat_eq q place ≡ b
      go true is =
          let same = some_same (sym other ∙ ap (place_of cards) (int_is card id is) ∙ there) in
          grind (arith, nat_tests)
      go false is = apart (nat_eq q place) refl
        where
          apart : (b : Bool) → nat_eq q place ≡ b → b ≡ false
          apart true at =
              let same : q ≡ place = grind (arith, nat_tests) in
              absurd (true≢false (sym (int_same card id (same_id same)) ∙ is))
          apart false at = refl

  -- an entry points at the row of the id where it points at its place
  pointed : (card : Option ℤ) (q : ℕ) → option_and_then (place_of cards) card ≡ Some q
      → nat_eq q place ≡ points id card
  pointed None q is = absurd cc
  pointed (Some card) q is = two_places card q is

  unpointed : (card : Option ℤ) → option_and_then (place_of cards) card ≡ None → points id card ≡ false
  unpointed None is = refl
  unpointed (Some card) is = go (int_eq card id) refl
    where
      go : (b : Bool) → int_eq card id ≡ b → b ≡ false
      go true same = absurd (none_there (sym is ∙ ap (place_of cards) (int_is card id same) ∙ there))
        where
          none_there : None ≡ Some place → ⊥
          none_there e = absurd cc
      go false other = refl

  module _ (entries : List RawEntry) (e : RawEntry) where
    -- after an entry that points at a card row
    pub card_used : (q old new : ℕ) → option_and_then (place_of cards) e.card ≡ Some q
        → new ≡ old + cond (nat_eq q place) 1 0 → old ≡ used_by entries id
        → new ≡ used_by (entries ++ e ∷ []) id
    card_used q old new at put before =
        put ∙ (λ i. before i + cond (pointed e.card q at i) 1 0) ∙ sym (used_more entries e id)

    -- after one that points at none
    pub card_unused : (old : ℕ) → option_and_then (place_of cards) e.card ≡ None → old ≡ used_by entries id
        → old ≡ used_by (entries ++ e ∷ []) id
    card_unused old at before =
        let more = used_more entries e id in
        let off : cond {A = ℕ} (points id e.card) 1 0 ≡ 0 = ap (λ b. cond b 1 0) (unpointed e.card at) in
        omega (arith, more, off, before)
