use Rattle.std.proofs.Common.{◌≡◌, ◌∙◌, false, sym, true}
use Rattle.vault_schema.proofs.TablesBehind.{behind_two, indexes_behind_two, schema_first, schema_second}
use Rattle.vault_schema.specs.Versions.{has_cards}
use Rattle.vault_verdict.proofs.whole_tables.cards.Goals as goal

pub returns-then-is_from : goal.returns-then-is_from
returns-then-is_from g c =
    let v = c.args.version in
    let has : has_cards v ≡ true = sym c.is_from.ensures ∙ c.if-is_from.true in
    let later = c.later_cards.ensures in
    record {
      reads = rw (schema_second v has) (later.reads (behind_two v) (indexes_behind_two v));
      told = λ clean ours.
          rw has (later.told (behind_two v) (indexes_behind_two v) clean (ours ∙ schema_second v has));
      refused = λ clean ours.
          rw has (later.refused (behind_two v) (indexes_behind_two v) clean (ours ∙ schema_second v has));
    }

pub returns-else-is_from : goal.returns-else-is_from
returns-else-is_from g c =
    let v = c.args.version in
    let none : has_cards v ≡ false = sym c.is_from.ensures ∙ c.if-is_from.false in
    let first = c.first_cards.ensures in
    record {
      reads = rw (schema_first v none) first.reads;
      told = λ clean ours. rw none (first.told clean (ours ∙ schema_first v none));
      refused = λ clean ours. rw none (first.refused clean (ours ∙ schema_first v none));
    }
