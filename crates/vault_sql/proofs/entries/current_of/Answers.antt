use Rattle.std.proofs.Common.{◌≡◌, ◌∙◌, sym, subst, ℤ, to_z, of_z, w64}
use Rattle.std.proofs.lemmas.Int.{to_z-of_z}
use Rattle.sqlite.specs.Order.{column}
use Rattle.sqlite.specs.declared.types.Value.TheVariants.{Int}
use Rattle.vault_sql.specs.Cards.{HasCard}
use Rattle.vault_tables.proofs.Told.{tables_so}
use Rattle.vault_tables.proofs.TextRow.{no_text, text_shown}
use Rattle.vault_sql.proofs.entries.current_of.Given.{Over}
use Rattle.vault_sql.proofs.entries.current_of.Goals.{After-current_rows}
use Rattle.vault_sql.proofs.entries.current_of.Goals as goal

-- the id that is asked for is the one in the row
same_id : (g : Over) (c : After-current_rows g) (id : ℤ) → column c.args.row.now 0 ≡ Int id
    → to_z w64 (of_z w64 c.in_ok-id.id) ≡ id
same_id g c id at =
    let n = c.in_ok-id.id in
    let back : to_z w64 (of_z w64 n) ≡ n =
    to_z-of_z w64 n (record { sfits = (rw (c.in_ok-id.was) at c.get.type_inv).1.1.1.1.0.1 }) in
    let one : Int n ≡ Int id = sym c.in_ok-id.ensures.ok.1 ∙ at in
    back ∙ (let e : n ≡ id = cc in e)

pub returns-in-Some : goal.returns-in-Some
returns-in-Some g c =
    tables_so c.in_ok-rows.ensures (λ t shown id at V pan has sound now.
    let same = same_id g (goal.at.returns-in-Some g c).After-current_rows id at in
    text_shown _ c.in_ok-rows.rows.items c.in-Some.row.now _
    (shown V pan (subst (λ (k : ℤ). HasCard t V k c.args.m.now pan) (sym same) has) sound now)
    (rw (c.deref.ensures.value) at c.in-Some.ensures.value) c.in_ok-token_in-in-Some.ensures)

pub returns : goal.returns
returns g c =
    tables_so c.in_ok-rows.ensures (λ t shown id at V pan has sound now.
    let same = same_id g (goal.at.returns g c).After-current_rows id at in
    no_text _ c.in_ok-rows.rows.items
    (shown V pan (subst (λ (k : ℤ). HasCard t V k c.args.m.now pan) (sym same) has) sound now)
    (rw (c.deref.ensures.value) at c.in-None.ensures.value))
