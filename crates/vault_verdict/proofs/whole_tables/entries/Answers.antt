use Rattle.std.proofs.Common.{◌≡◌, ◌∙◌, false, inl, inr, refl, sym, true}
use Rattle.vault_schema.proofs.TablesBehind.{behind_two, indexes_behind_two, schema_second}
use Rattle.vault_schema.specs.Versions.{has_cards}
use Rattle.vault_verdict.proofs.Joined.{never_store, unread_entries}
use Rattle.vault_verdict.proofs.whole_tables.entries.Goals as goal

pub returns-then-is_from-clause-reads : goal.returns-then-is_from-clause-reads
returns-then-is_from-clause-reads g c =
    let v = c.args.version in
    let has : has_cards v ≡ true = sym c.is_from.ensures ∙ c.if-is_from.true in
    inl (rw (schema_second v has) (c.take_all.ensures (behind_two v) (indexes_behind_two v)).reads)

pub returns-then-is_from-clause-told : goal.returns-then-is_from-clause-told
returns-then-is_from-clause-told g c clean ours =
    let v = c.args.version in
    let has : has_cards v ≡ true = sym c.is_from.ensures ∙ c.if-is_from.true in
    rw has ((c.take_all.ensures (behind_two v) (indexes_behind_two v)).told clean
    (ours ∙ schema_second v has))

pub returns-then-is_from-clause-refused : goal.returns-then-is_from-clause-refused
returns-then-is_from-clause-refused g c clean ours =
    let v = c.args.version in
    let has : has_cards v ≡ true = sym c.is_from.ensures ∙ c.if-is_from.true in
    rw has (unread_entries _ _ _ _ ((c.take_all.ensures (behind_two v) (indexes_behind_two v)).refused clean
    (ours ∙ schema_second v has)))

pub returns-else-is_from-clause-reads : goal.returns-else-is_from-clause-reads
returns-else-is_from-clause-reads g c = inr refl

pub returns-else-is_from-clause-told : goal.returns-else-is_from-clause-told
returns-else-is_from-clause-told g c clean ours =
    let none : has_cards c.args.version ≡ false = sym c.is_from.ensures ∙ c.if-is_from.false in
    rw none c.entries.ensures.made

pub returns-else-is_from-clause-refused : goal.returns-else-is_from-clause-refused
returns-else-is_from-clause-refused g c clean ours =
    never_store _ c.entries.result c.entries.ensures.memory
