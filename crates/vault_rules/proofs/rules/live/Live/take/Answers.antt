use Rattle.std.proofs.Common.{◌≡◌, ◌∙◌, ◌&&◌, true, false, not, ap, sym}
use Rattle.std.specs.List.{filter_map, list_any}
use Rattle.vault_core.specs.Keys.{Bytes}
use Rattle.vault_rules.specs.Index.{has_pair}
use Rattle.vault_rules.specs.Packed.{packed}
use Rattle.vault_rules.specs.Rules.{alike, are_distinct, has_number, live_key}
use Rattle.vault_rules.proofs.LiveKeys.{no_key}
use Rattle.vault_rules.proofs.NextKey.{next_key}
use Rattle.vault_rules.proofs.LiveLemmas.{distinct_more, distinct_still, keys_same, set_more}
use Rattle.vault_rules.proofs.Walks.{all_first, all_last}
use Rattle.vault_rules.proofs.TokenLemmas.{pan_number}
use Rattle.vault_rules.proofs.rules.live.Live.take.Goals as goal

pub returns-then-not-self : goal.returns-then-not-self
returns-then-not-self c merchants cards is raws were =
    let e = c.args.found.now.entry.now in
    let off : c.args.self.now.alone ≡ false = search (c.if-not-self.true) in
    record {
      alone = λ all.
          let before = were.alone (all_first (has_number cards) raws e all) in
          off ∙ sym (distinct_still (live_key merchants cards) raws e (sym before ∙ off));
      keys = λ all on. absurd (let clash = sym off ∙ on in cc);
    }

pub returns-in_ok-self : goal.returns-in_ok-self
returns-in_ok-self c merchants cards is raws were =
    let on : c.args.self.now.alone ≡ true = search (c.if-not-self.false) in
    let so_far = filter_map (live_key merchants cards) raws in
    let next = next_key merchants cards raws c.args.found.now.entry.now _
    (λ fits. sym (c.in-Some.ensures merchants cards is fits)) in
    record {
      alone = λ all.
          let it = next all in
          c.in_ok-self.ensures.added
          ∙ ap not (ap (λ (q : _ × Bytes). has_pair c.args.self.now.keys q.0 q.1) (sym it.is_shown)
          ∙ were.keys it.before on it.key.0 it.key.1 it.is_card)
          ∙ ap (λ b. b && not (list_any (alike it.key) so_far)) (sym on ∙ were.alone it.before)
          ∙ sym (distinct_more so_far it.key) ∙ sym (ap are_distinct it.more);
      keys = λ all still merchant number valid.
          let it = next all in
          set_more so_far it.key (merchant, number) _ _ _ _ (pan_number it.key.1 it.is_card)
          (pan_number number valid)
          (ap (λ (q : _ × Bytes). q.0) it.is_shown) (ap (λ (q : _ × Bytes). q.1) it.is_shown)
          (c.in_ok-self.ensures.updates.0 (packed number, record { ref_ptr = (0, 0); now = merchant }))
          (were.keys it.before on merchant number valid)
          ∙ sym (ap (list_any (alike (merchant, number))) it.more);
    }

pub returns-in_default : goal.returns-in_default
returns-in_default c merchants cards is raws were =
    let e = c.args.found.now.entry.now in
    let h = live_key merchants cards in
    record {
      alone = λ all.
          let fits = all_last (has_number cards) raws e all in
          let same = keys_same h raws e (no_key (h e) (sym (c.in_default.ensures merchants cards is fits))) in
          were.alone (all_first (has_number cards) raws e all) ∙ sym (ap are_distinct same);
      keys = λ all on merchant number valid.
          let fits = all_last (has_number cards) raws e all in
          let same = keys_same h raws e (no_key (h e) (sym (c.in_default.ensures merchants cards is fits))) in
          were.keys (all_first (has_number cards) raws e all) on merchant number valid
          ∙ sym (ap (list_any (alike (merchant, number))) same);
    }
