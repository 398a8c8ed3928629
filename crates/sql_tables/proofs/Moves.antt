-- What a statement makes of a whole table: emptied, or of one row that changes.
use Rattle.std.proofs.Common.{◌≡◌, inl, inr, ℕ, ℤ, List, [], ◌∷◌, map, drop, true, not, cond, Some, refl, sym}
use Rattle.std.proofs.Common.{ap, subst, ◌∙◌, slice_get, true≢false}
use Rattle.std.specs.Cmp.{tied_itself}
use Rattle.std.specs.List.{list_all}
use Rattle.std.specs.Ordering.{is_eq}
use Rattle.sqlite.specs.Cast.{cast_row}
use Rattle.sqlite.specs.Edit.{id_in, put_all, without_all}
use Rattle.sqlite.specs.Effect.{Database}
use Rattle.sqlite.specs.Order.{Row, value_cmp}
use Rattle.sqlite.specs.Schema.{Schema}
use Rattle.sqlite.specs.State.{State}
use Rattle.sqlite.specs.Term.{Term, col, holds}
use Rattle.sqlite.specs.Tree.{Trees, has_rowid, rowid, without_rowid}
use Rattle.sqlite.specs.View.{is_int}
use Rattle.sqlite.specs.declared.types.Value.TheVariants.{Int}
use Rattle.sqlite_rules.proofs.ListLemmas.{has_filtered, has_kept}
use Rattle.sqlite_rules.proofs.ProbeLemmas.{mapped_has}
use Rattle.sqlite_rules.proofs.TableLemmas.{int_is}
use Rattle.sqlite_rules.specs.Calls.{ids_of}
use Rattle.sqlite_rules.specs.Lists.{Has}
use Rattle.sqlite_value.proofs.OrderLemmas.{value_cmp_total}
use Rattle.sql_tables.specs.Codes.{fit}
use Rattle.sql_tables.specs.Schema.{Descriptor, table_of, is_plain}
use Rattle.sql_tables.specs.States.{Claim, IsEmpty, Within, at_place}
use Rattle.sql_tables.specs.Texts.{IsWrite, delete, update}
use Rattle.sql_tables.proofs.Answers.{answers, has_permuted, passing, shown_as, shows_row}
use Rattle.sql_tables.proofs.Keys.{cast_row_fits}
use Rattle.sql_tables.specs.Maps.{claim_at}
use Rattle.sql_tables.proofs.Plain.{claimed}
use Rattle.sql_tables.proofs.Statements.{Ran, written}
use Rattle.sql_tables.proofs.Steps.{Wrote, delete_wrote, update_wrote}

-- without all their rowids no rows are left
none_left : (ids : List ℤ) (rows : List Row)
    → ((r : Row) → Has rows r → (n : ℤ) × Has ids n × (rowid r ≡ Int n)) → without_all rows ids ≡ []
none_left [] [] each = refl
none_left [] (r ∷ rows) each = absurd (each r (inl refl)).1
none_left (id ∷ ids) rows each = none_left ids (without_rowid id rows) (λ r h.
    let kept = has_filtered (λ r. not (has_rowid id r)) rows r h in
    let it = each r kept.0 in
    elim it.1 [
      | inl same ↦ absurd (true≢false (sym kept.1
          ∙ ap (λ v. not (is_eq (value_cmp v (Int id)))) (it.2 ∙ ap Int same)
          ∙ ap (λ o. not (is_eq o)) (tied_itself value_cmp_total (Int id))))
      | inr later ↦ (it.0, later, it.2)
    ])

module _ {s : Schema} (fine : is_plain s ≡ true) {claims : List Claim} {base : Database} {old new : State}
    {text : List ℕ} {params : Row} (run : Ran s claims base old new text params) (d : Descriptor) (place : ℕ)
    (here : slice_get s.tables place ≡ Some (table_of d)) where
  abbrev db : Trees
  db = old.now.trees

  was_said : claim_at claims place (db d.tree)
  was_said = claimed s.tables claims place (table_of d) db here run.within.stands.rows

  -- DELETE of all rows
  pub empty_in : IsWrite s text (delete place d.tree [])
      → (claim_at claims place (db d.tree) → (r : Row) → Has (db d.tree) r → is_int (rowid r) ≡ true)
      → Within s (at_place claims place IsEmpty) base new
  empty_in it said =
      let did = delete_wrote s fine d text params old new run.count place here run.within.stands.schema
      run.ran.0 _ it in
      written fine run did.3 d place here (ids_of did.0) [] IsEmpty did.2
      (none_left (ids_of did.0) (db d.tree) (λ r h. (
        id_in (rowid r),
        mapped_has (λ x. id_in (rowid x)) did.0 (rowid r ∷ []) (has_permuted _ did.0 _ (answers db did.1)
            (mapped_has (shown_as params (col 1 0 ∷ [])) (passing params [] (db d.tree)) r
            (has_kept (λ x. true) (db d.tree) r h refl))),
        int_is (rowid r) (said was_said r h),
      )))

  -- UPDATE of the one row, which passes the tests
  pub change_one : (tests set : List Term) → IsWrite s text (update place d.tree tests set)
      → (id : ℤ) (was now : Row) → (claim_at claims place (db d.tree) → db d.tree ≡ (Int id ∷ was) ∷ [])
      → list_all (holds (params ∷ (Int id ∷ was) ∷ [])) tests ≡ true
      → shown_as params (col 1 0 ∷ col 1 0 ∷ set) (Int id ∷ was) ≡ Int id ∷ Int id ∷ now
      → fit d.columns now ≡ true → Within s (at_place claims place (λ rows. rows ≡ (Int id ∷ now) ∷ [])) base
      new
  change_one tests set it id was now said passes shows fits =
      let did = update_wrote s fine d text params old new run.count place here run.within.stands.schema
      run.ran.0 _ it in
      let stood = said was_said in
      let all : did.0 ≡ (Int id ∷ Int id ∷ now) ∷ [] =
      shows_row db did.1 (Int id ∷ was)
      (ap (passing params tests) stood ∙ ap (λ b. cond b ((Int id ∷ was) ∷ []) []) passes)
      ∙ ap (λ r. r ∷ []) shows in
      let wrote = subst (λ r. Wrote s d.tree (id ∷ []) (r ∷ []) db new.now) (cast_row_fits d id now fits)
      (subst (λ l. Wrote s d.tree (ids_of l) (map (λ r. cast_row (table_of d) (drop 1 r)) l) db new.now) all
      did.2) in
      let gone : without_all (db d.tree) (id ∷ []) ≡ [] = none_left (id ∷ []) (db d.tree) (λ r h.
      let at : Has ((Int id ∷ was) ∷ []) r = subst (λ l. Has l r) stood h in
      elim at [ inl same ↦ (id, inl refl, ap rowid same) | inr more ↦ absurd more ]) in
      written fine run did.3 d place here (id ∷ []) _ (λ rows. rows ≡ (Int id ∷ now) ∷ []) wrote
      (ap (λ l. put_all l ((Int id ∷ now) ∷ [])) gone)
