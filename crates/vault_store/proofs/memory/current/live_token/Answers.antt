use Rattle.std.proofs.Common.{◌≡◌, Some, sym, ap, ◌∙◌, subst}
use Rattle.std.specs.BTreeMap.{get}
use Rattle.std.specs.List.{All}
use Rattle.std.specs.Map.Iter.{deref_pair}
use Rattle.std.proofs.lemmas.List.Elements.{All-cons, All-nil}
use Rattle.std.proofs.lemmas.Map.Views.{All-turn}
use Rattle.vault_core.proofs.CurrentLemmas.{same-is}
use Rattle.vault_core.specs.Keys.{Bytes, entry_cmp}
use Rattle.vault_core.specs.declared.row.Entry.{Entry}
use Rattle.vault_store.proofs.LiveLemmas.{IsNotLive, none_live, other_merchant}
use Rattle.vault_store.proofs.memory.current.live_token.Goals.{else-eq-via-then-eq+else-is_reusable}
use Rattle.vault_store.proofs.memory.current.live_token.Goals.{else-eq-via-else-eq}
use Rattle.vault_store.proofs.memory.current.live_token.Goals as goal

pub returns-then-is_reusable-clause-some : goal.returns-then-is_reusable-clause-some
returns-then-is_reusable-clause-some c =
    let entries = c.args.entries.now in
    let key = c.in-Some.field-0-0.now in
    let entry = c.in-Some.entry.now in
    let IsFound : (Bytes × Bytes) × Entry → Type 0 = λ e. get entry_cmp entries e.0 ≡ Some e.1 in
    let found = All-turn deref_pair IsFound entries.entries c.loop-owner.yielded _ _ _ _
    (c.in-Some.field-0-0, c.in-Some.entry)
    c.iter-owner-items.ensures.found
    (c.into_iter-owner-iterator.ensures.into_iter_gives ∙ c.iter-owner-items.ensures.rest)
    c.loop-owner.yielded_by c.in-Some.is c.next.ensures.steps in
    let own = same-is key.0 c.args.merchant (sym c.eq.ensures ∙ c.if-eq.true) in (
      entry,
      ap (λ (m : Bytes). get entry_cmp entries (m, key.1)) (sym own) ∙ found,
      sym c.is_reusable.ensures ∙ c.if-is_reusable.true,
    )

pub loop-owner-preserved : goal.loop-owner-preserved
loop-owner-preserved c rest =
    let a = c.args in
    let IsOther = IsNotLive a.merchant a.pan.now a.at in
    let item : (Bytes × Bytes) × Entry = (c.in-Some.field-0-0.now, c.in-Some.entry.now) in
    let passed : IsNotLive a.merchant a.pan.now a.at item =
    elim c.else-eq.branch [
      | else-eq-via-then-eq+else-is_reusable w ↦
          λ is live. let clash = sym live ∙ sym w.is_reusable.ensures ∙ w.if-is_reusable.false in cc
      | else-eq-via-else-eq w ↦
          other_merchant a.merchant a.pan.now a.at item (sym c.eq.ensures ∙ w.if-eq.false)
    ] in
    c.loop-owner.invariant
    (subst (All IsOther) (sym c.in-Some.ensures.steps) (All-cons IsOther item c.next.new.self passed rest))

pub returns-clause-none : goal.returns-clause-none
returns-clause-none c token =
    let a = c.args in
    let IsOther = IsNotLive a.merchant a.pan.now a.at in
    none_live a.entries.now a.merchant a.pan.now a.at token
    (c.loop-owner.invariant (subst (All IsOther) (sym c.in-None.ensures.steps.0) (All-nil IsOther)))
