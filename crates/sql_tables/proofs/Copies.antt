-- INSERT .. SELECT of the whole of one table into another, which is empty.
use Rattle.std.proofs.Common.{◌≡◌, inl, inr, ℕ, ℤ, suc, List, [], ◌∷◌, map, drop, Bool, true, false, cond}
use Rattle.std.proofs.Common.{Option, Some, None, refl, sym, ap, subst, ◌∙◌, option_map, Ordering}
use Rattle.std.proofs.lemmas.Bool.{and_parts, and_from}
use Rattle.std.proofs.lemmas.List.Sorted.{IsPermutation-sym}
use Rattle.std.specs.Cmp.{tied_itself}
use Rattle.sqlite.specs.Cast.{cast_row}
use Rattle.sqlite.specs.Collation.TheVariants.{Binary}
use Rattle.sqlite.specs.Edit.{id_in, numbered, put_all, with_rowid, are_fresh, have_rowids}
use Rattle.sqlite.specs.Effect.{Database, IsDatabase}
use Rattle.sqlite.specs.Order.{Row, value_cmp}
use Rattle.sqlite.specs.Program.{overlay}
use Rattle.sqlite.specs.Query.{IsAnswer}
use Rattle.sqlite.specs.Rowids.TheVariants.{Chosen}
use Rattle.sqlite.specs.Schema.{Schema}
use Rattle.sqlite.specs.State.{State}
use Rattle.sqlite.specs.Term.{Term}
use Rattle.sqlite.specs.Tree.{Trees, rowid, put_row}
use Rattle.sqlite.specs.View.{is_int}
use Rattle.sqlite.specs.declared.types.Value.TheVariants.{Null, Int}
use Rattle.sqlite_rules.proofs.ListLemmas.{has_filtered, has_kept}
use Rattle.sqlite_rules.proofs.ProbeLemmas.{has_mapped, mapped_has}
use Rattle.sqlite_rules.proofs.TableLemmas.{int_is, put_all_has, put_all_adds}
use Rattle.sqlite_rules.specs.Lists.{Has}
use Rattle.sqlite_value.proofs.OrderLemmas.{value_cmp_total}
use Rattle.sql_tables.specs.Codes.{row_of}
use Rattle.sql_tables.specs.Rows.{AreRowsOf, IsApart}
use Rattle.sql_tables.specs.Schema.{table_of, columns_to, is_plain}
use Rattle.sql_tables.specs.States.{Claim, Within, at_place}
use Rattle.sql_tables.specs.Texts.{IsWrite, insert_from, sorted_of}
use Rattle.sql_tables.proofs.Answers.{answers, has_permuted, passing, shown_as}
use Rattle.sql_tables.proofs.ByKey.{eq_itself, fresh_apart, put_apart, row_at, same_row, whole}
use Rattle.sql_tables.specs.Maps.{Keyed}
use Rattle.sql_tables.proofs.Keys.{cast_row_new, coding, same_keys}
use Rattle.sql_tables.specs.Maps.{claim_at}
use Rattle.sql_tables.proofs.Plain.{claimed}
use Rattle.sql_tables.proofs.Statements.{Ran, written}
use Rattle.sql_tables.proofs.Steps.{Wrote, insert_wrote}
use Rattle.sql_tables.proofs.Unique.{one_at_key}

same_drop : (b : Bool) (z : ℤ) (row : Row) → drop 1 (cond b (Int z ∷ drop 1 row) row) ≡ drop 1 row
same_drop true z row = refl
same_drop false z row = refl

-- rows that get their rowids are, behind them, as they were
numbered_from : (before sources : List Row) (r : Row) → Has (numbered Chosen before sources) r
    → (o : Row) × Has sources o × (drop 1 r ≡ drop 1 o)
numbered_from before [] r h = absurd h
numbered_from before (o ∷ sources) r (inl same) = (o, inl refl, ap (drop 1) same ∙ same_drop _ _ o)
numbered_from before (o ∷ sources) r (inr later) =
    let it = numbered_from (put_row (with_rowid Chosen before o) before) sources r later in
    (it.0, inr it.1, it.2)

numbered_to : (before sources : List Row) (o : Row) → Has sources o
    → (r : Row) × Has (numbered Chosen before sources) r × (drop 1 r ≡ drop 1 o)
numbered_to before [] o h = absurd h
numbered_to before (p ∷ sources) o (inl same) =
    (with_rowid Chosen before p, inl refl, same_drop _ _ p ∙ ap (drop 1) (sym same))
numbered_to before (p ∷ sources) o (inr later) =
    let it = numbered_to (put_row (with_rowid Chosen before p) before) sources o later in
    (it.0, inr it.1, it.2)

put_all_apart : (news rows : List Row) → have_rowids news ≡ true → are_fresh rows news ≡ true → IsApart rows
    → IsApart (put_all rows news)
put_all_apart [] rows keyed fresh up = up
put_all_apart (r ∷ news) rows keyed fresh up =
    put_all_apart news (put_row r rows) (and_parts _ _ keyed).1 (and_parts _ _ fresh).1
    (put_apart r rows (fresh_apart r rows (and_from _ _ (and_parts _ _ fresh).0 refl)) up)

all_keyed : (news : List Row) → have_rowids news ≡ true → (r : Row) → Has news r → is_int (rowid r) ≡ true
all_keyed [] keyed r h = absurd h
all_keyed (n ∷ news) keyed r (inl same) =
    subst (λ x. is_int (rowid x) ≡ true) (sym same) (and_parts _ _ keyed).0
all_keyed (n ∷ news) keyed r (inr later) = all_keyed news (and_parts _ _ keyed).1 r later

mapped_to : {X Y : Type 0} (f : X → Y) (o : Option X) (y : Y) → option_map f o ≡ Some y
    → (x : X) × (o ≡ Some x) × (y ≡ f x)
mapped_to f None y h = absurd (cc)
mapped_to f (Some x) y h = (x, refl, let same : y ≡ f x = cc in same)

module _ {s : Schema} (fine : is_plain s ≡ true) {claims : List Claim} {base : Database} {old new : State}
    {text : List ℕ} {params : Row} (run : Ran s claims base old new text params)
    {K X Y : Type 0} {cmp : K → K → Ordering} {key : K → Row} {was : X → Row} {value : Y → Row}
    (e : Keyed s cmp key was) (d : Keyed s cmp key value) (f : X → Y) (held : K → Option X)
    (said : claim_at claims e.place (old.now.trees e.table.tree)
    → AreRowsOf (row_of key was) (old.now.trees e.table.tree) held)
    (none : claim_at claims d.place (old.now.trees d.table.tree) → old.now.trees d.table.tree ≡ [])
    (project : List Term)
    (shows : (id : ℤ) (k : K) (x : X)
    → shown_as params project (Int id ∷ row_of key was k x) ≡ Null ∷ row_of key value k (f x)) where
  abbrev db : Trees
  db = old.now.trees

  abbrev Copied : Claim
  Copied rows = AreRowsOf (row_of key value) rows (λ k. option_map f (held k))

  are_rows : AreRowsOf (row_of key was) (db e.table.tree) held
  are_rows = said (claimed s.tables claims e.place (table_of e.table) db e.here run.within.stands.rows)

  no_rows : db d.table.tree ≡ []
  no_rows = none (claimed s.tables claims d.place (table_of d.table) db d.here run.within.stands.rows)

  -- each row of the query is that of a pair, and each pair has one
  module _ (rows : List Row)
      (answer : IsAnswer (sorted_of e.table.tree [] project (map (λ _. Binary) project) []) (overlay db [])
      params rows) where
    abbrev these : List Row
    these = map (shown_as params project) (passing params [] (db e.table.tree))

    shown_from : (r : Row) → Has rows r
        → (k : K) × (x : X) × (held k ≡ Some x) × (r ≡ Null ∷ row_of key value k (f x))
    shown_from r h =
        let from = has_mapped (shown_as params project) (passing params [] (db e.table.tree)) r
        (has_permuted rows these r (IsPermutation-sym these rows (answers db answer)) h) in
        let kept = has_filtered (λ x. true) (db e.table.tree) from.0 from.1 in
        let it = are_rows.sound from.0 kept.0 in
        let is = whole from.0 (row_of key was it.0 it.1) (are_rows.keyed from.0 kept.0) it.2 in
        (it.0, it.1, it.3, from.2 ∙ ap (shown_as params project) is ∙ shows _ it.0 it.1)

    shown_to : (k : K) (x : X) → held k ≡ Some x → Has rows (Null ∷ row_of key value k (f x))
    shown_to k x is =
        let row = row_at (coding e.codes) are_rows k x is in
        subst (Has rows) (shows row.0 k x) (has_permuted these rows _ (answers db answer)
        (mapped_has (shown_as params project) (passing params [] (db e.table.tree)) _
        (has_kept (λ x. true) (db e.table.tree) _ row.1 refl)))

    cast_new : (k : K) (x : X)
        → cast_row (table_of d.table) (Null ∷ row_of key value k (f x)) ≡ Null ∷ row_of key value k (f x)
    cast_new k x = cast_row_new d.table (row_of key value k (f x)) (d.codes.fit k (f x))

    abbrev cast : Row → Row
    cast = cast_row (table_of d.table)

    copied : Wrote s d.table.tree [] (numbered Chosen (db d.table.tree) (map cast rows)) db new.now
        → IsDatabase new.now → Copied (new.now.trees d.table.tree)
    copied wrote sound =
        let news = numbered Chosen (db d.table.tree) (map cast rows) in
        let is : new.now.trees d.table.tree ≡ put_all [] news = wrote.is ∙ ap (λ l. put_all l news) no_rows in
        let fresh : are_fresh [] news ≡ true = subst (λ l. are_fresh l news ≡ true) no_rows wrote.fresh in
        let apart : IsApart (new.now.trees d.table.tree) =
        subst IsApart (sym is) (put_all_apart news [] (keyed_all wrote) fresh tt) in
        let among : (r : Row) → Has (new.now.trees d.table.tree) r → Has news r =
        λ r h. elim (put_all_has news [] r (subst (λ l. Has l r) is h))
        [ inl new ↦ new | inr old ↦ absurd old ] in
        let keyed : (r : Row) → Has (new.now.trees d.table.tree) r → is_int (rowid r) ≡ true =
        λ r h. all_keyed news (keyed_all wrote) r (among r h) in
        record {
          apart = apart;
          keyed = keyed;
          once = λ r o k x y a b same other.
              let ri = whole r (row_of key value k x) (keyed r a) same in
              let oi = whole o (row_of key value k y) (keyed o b) other in
              let one = one_at_key s new.now wrote.schema sound d.table d.place d.here
              (columns_to (suc d.more)) d.guarded (id_in (rowid r)) (id_in (rowid o)) _ _
              (subst (Has (new.now.trees d.table.tree)) ri a) (subst (Has (new.now.trees d.table.tree)) oi b)
              (same_keys d k y (id_in (rowid o)) (id_in (rowid r)) k x ∙ eq_itself (coding d.codes) k) in
              same_row (new.now.trees d.table.tree) r o apart a b
              (ap (λ v. value_cmp v (rowid o)) (int_is (rowid r) (keyed r a) ∙ ap (λ z. Int z) one
              ∙ sym (int_is (rowid o) (keyed o b))) ∙ tied_itself value_cmp_total (rowid o));
          sound = λ r h.
              let from = numbered_from (db d.table.tree) (map cast rows) r (among r h) in
              let cast_from = has_mapped cast rows from.0 from.1 in
              let it = shown_from cast_from.0 cast_from.1 in (
                it.0,
                f it.1,
                from.2 ∙ ap (drop 1) (cast_from.2 ∙ ap cast it.3 ∙ cast_new it.0 it.1),
                ap (option_map f) it.2,
              );
          complete = λ k y h.
              let it = mapped_to f (held k) y h in
              let there = subst (Has (map cast rows)) (cast_new k it.0)
              (mapped_has cast rows _ (shown_to k it.0 it.1)) in
              let to = numbered_to (db d.table.tree) (map cast rows) _ there in (
                to.0,
                subst (λ l. Has l to.0) (sym is) (put_all_adds news [] to.0 fresh to.1),
                to.2 ∙ ap (row_of key value k) (sym it.2),
              );
        }
      where
        keyed_all : Wrote s d.table.tree [] (numbered Chosen (db d.table.tree) (map cast rows)) db new.now
            → have_rowids (numbered Chosen (db d.table.tree) (map cast rows)) ≡ true
        keyed_all wrote = wrote.keyed

  -- each value of the new table is what f makes of the other's
  pub copy_in : IsWrite s text (insert_from d.place e.table.tree project)
      → Within s (at_place claims d.place Copied) base new
  copy_in it =
      let did = insert_wrote s fine d.table text params old new run.count d.place d.here
      run.within.stands.schema run.ran.0 _ it in
      written fine run did.3 d.table d.place d.here [] _ Copied did.2
      (subst Copied did.2.is (copied did.0 (did.1.answer Null) did.2 did.3))
