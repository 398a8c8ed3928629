use Rattle.std.proofs.Common.{◌≡◌, ◌∙◌, ap, sym, None, Some, option_map, of_z, to_z, w64}
use Rattle.std.proofs.lemmas.Int.{to_z-of_z}
use Rattle.vault_schema.specs.Joined.{joined}
use Rattle.vault_tables.proofs.Told.{tables_so, tables_then}
use Rattle.vault_sql.proofs.Calls.{tells_of}
use Rattle.vault_sql.proofs.JoinedEntries.{joined_is}
use Rattle.vault_sql.proofs.entries.entry.Goals as goal

pub returns-in-Some-card_in_entry : goal.returns-in-Some-card_in_entry
returns-in-Some-card_in_entry g c =
    let n = c.in-Some-card_in_entry.id in
    let fits = (rw (c.in-Some-card_in_entry.is) at c.card_in_entry.type_inv).1.1.1.1.0.1 in
    let back : to_z w64 (of_z w64 n) ≡ n = to_z-of_z w64 n (record { sfits = fits }) in
    let seen = rw (c.merchant_text.ensures, c.as_str.ensures) at c.in_ok-found.ensures in
    tells_of {Is = λ t e. e ≡ option_map (joined t.cards) (t.pointing (c.args.m.now, c.args.token.now))}
    (tables_then seen (rw (back) at c.entry_of.ensures) (λ t e found so.
    joined_is t.cards _ c.in-Some.found (Some n) e (sym c.in-Some.is ∙ found)
    (sym c.card_in_entry.ensures ∙ c.in-Some-card_in_entry.is) so))
    (λ V cards pointing e are so. so ∙ sym (are.same (c.args.m.now, c.args.token.now)))

pub returns-in-None : goal.returns-in-None
returns-in-None g c =
    let seen = rw (c.merchant_text.ensures, c.as_str.ensures) at c.in_ok-found.ensures in
    tells_of {Is = λ t e. e ≡ option_map (joined t.cards) (t.pointing (c.args.m.now, c.args.token.now))}
    (tables_so seen (λ t found.
    joined_is t.cards _ c.in-Some.found None _ (sym c.in-Some.is ∙ found)
    (sym c.card_in_entry.ensures ∙ c.in-None.is)
    (ap (λ x. Some x) c.entry_with.ensures)))
    (λ V cards pointing e are so. so ∙ sym (are.same (c.args.m.now, c.args.token.now)))

pub returns-in_default : goal.returns-in_default
returns-in_default g c =
    let seen = rw (c.merchant_text.ensures, c.as_str.ensures) at c.in_ok-found.ensures in
    tells_of {Is = λ t e. e ≡ option_map (joined t.cards) (t.pointing (c.args.m.now, c.args.token.now))}
    (tables_so seen (λ t found. ap (option_map (joined t.cards)) (sym c.in_default.is ∙ found)))
    (λ V cards pointing e are so. so ∙ sym (are.same (c.args.m.now, c.args.token.now)))
