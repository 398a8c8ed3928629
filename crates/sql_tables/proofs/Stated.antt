-- What the commands of a table make of maps and show of them, once for every table.
use Rattle.std.proofs.Common.{◌≡◌, ℕ, zero, suc, List, [], ◌∷◌, ◌++◌, length, map}
use Rattle.std.proofs.Common.{drop, take, true, arith, Option, Some, None, Ordering, refl, sym, ap, ap₂}
use Rattle.std.proofs.Common.{slice_get, subst, ◌∙◌, ◌/◌}
use Rattle.std.proofs.Math.Nat.{div_self}
use Rattle.std.proofs.Math.Seq.{drop-append_seam, take-length}
use Rattle.std.proofs.lemmas.Bool.{and_parts}
use Rattle.std.proofs.lemmas.List.{append-nil, length-map}
use Rattle.sqlite.specs.Effect.{Database, value_rows}
use Rattle.sqlite.specs.Order.{Row, column}
use Rattle.sqlite.specs.Edit.{next_rowid}
use Rattle.sqlite.specs.Rows.{shown}
use Rattle.sqlite.specs.Schema.{Schema}
use Rattle.sqlite.specs.State.{State, IsUnchanged, Shown}
use Rattle.sqlite.specs.Term.{Term, col, eval_all}
use Rattle.sqlite.specs.Tree.{Trees}
use Rattle.sqlite.specs.declared.types.Value.{Value}
use Rattle.sqlite.specs.declared.types.Value.TheVariants.{Null, Int}
use Rattle.sqlite_schema.specs.declared.schema.Column.{Column}
use Rattle.sql_tables.specs.Codes.{fit, row_of}
use Rattle.sql_tables.specs.Rows.{AreRowsOf, one_of, put}
use Rattle.sql_tables.specs.Schema.{Descriptor, below, columns_to, is_plain, table_of}
use Rattle.sql_tables.specs.States.{Claim, Stands, StandsIn, Within, at_place}
use Rattle.sql_tables.specs.Texts.{IsQuery, IsWrite}
use Rattle.sql_tables.proofs.Answers.{shown_as}
use Rattle.sql_tables.proofs.Full.{columns_are, columns_behind}
use Rattle.sql_tables.specs.Maps.{Keyed}
use Rattle.sql_tables.specs.Maps.{claim_at}
use Rattle.sql_tables.proofs.Reading.{look_up}
use Rattle.sql_tables.proofs.Statements.{Ran, retold, take_in, upsert_in}
use Rattle.sql_tables.specs.Keyed.{at_least, changed_terms, finding, new_terms, putting, shown_columns}
use Rattle.sql_tables.specs.Keyed.{taking}

-- ---- lists of columns

fit_long : (cs : List Column) (row : Row) → fit cs row ≡ true → length row ≡ length cs
fit_long [] [] e = refl
fit_long [] (v ∷ vs) e = absurd (let z = e in cc)
fit_long (c ∷ cs) [] e = absurd (let z = e in cc)
fit_long (c ∷ cs) (v ∷ vs) e = ap suc (fit_long cs vs (and_parts _ _ e).1)

below_long : (n : ℕ) → length (below n) ≡ n
below_long zero = refl
below_long (suc n) = ap suc (length-map (below n) _ ∙ below_long n)

eval_both : (a b : List Term) (env : List Row) → eval_all (a ++ b) env ≡ eval_all a env ++ eval_all b env
eval_both [] b env = refl
eval_both (t ∷ a) b env = ap₂ (λ v r. v ∷ r) refl (eval_both a b env)

eval_dropped : (n : ℕ) (cs : List ℕ) (f : ℕ → Term) (env : List Row)
    → eval_all (map f (drop n cs)) env ≡ drop n (eval_all (map f cs) env)
eval_dropped zero cs f env = refl
eval_dropped (suc n) [] f env = refl
eval_dropped (suc n) (c ∷ cs) f env = eval_dropped n cs f env

params_behind : (places : List ℕ) (v : Value) (r : Row) (env : List Row)
    → eval_all (map (λ i. col 0 i) (map (λ i. suc i) places)) ((v ∷ r) ∷ env) ≡ eval_all
    (map (λ i. col 0 i) places) (r ∷ env)
params_behind [] v r env = refl
params_behind (i ∷ places) v r env = λ j. column r i ∷ params_behind places v r env j

-- the first parameters
params_are : (n : ℕ) (r more : Row) (env : List Row) → length r ≡ n
    → eval_all (map (λ i. col 0 i) (below n)) ((r ++ more) ∷ env) ≡ r
params_are zero [] more env many = refl
params_are zero (v ∷ r) more env many = absurd (let e = many in cc)
params_are (suc n) [] more env many = absurd (let e = many in cc)
params_are (suc n) (v ∷ r) more env many =
    λ j. v ∷ (params_behind (below n) v (r ++ more) env ∙ params_are n r more env (omega (arith, many))) j

-- the first columns of a row
first_are : (n : ℕ) (params r more : Row) → length r ≡ n
    → eval_all (map (λ i. col 1 i) (below n)) (params ∷ (r ++ more) ∷ []) ≡ r
first_are zero params [] more many = refl
first_are zero params (v ∷ r) more many = absurd (let e = many in cc)
first_are (suc n) params [] more many = absurd (let e = many in cc)
first_are (suc n) params (v ∷ r) more many =
    λ j. v ∷ (columns_behind (below n) params v (r ++ more)
    ∙ first_are n params r more (omega (arith, many))) j

-- a new row is its parameters
new_row : (d : Descriptor) (params : Row) → length params ≡ length d.columns
    → value_rows params (suc (length d.columns)) (length (new_terms d) / suc (length d.columns)) (new_terms d)
    ≡ (Null ∷ params) ∷ []
new_row d params many =
    let n = length d.columns in
    let long : length (new_terms d) ≡ suc n = ap suc (length-map (below n) _ ∙ below_long n) in
    let one : length (new_terms d) / suc n ≡ 1 = ap (λ m. m / suc n) long ∙ div_self (omega arith) in
    ap (λ m. value_rows params (suc n) m (new_terms d)) one
    ∙ ap (λ m. eval_all (take m (new_terms d)) (params ∷ []) ∷ []) (sym long)
    ∙ ap (λ ts. eval_all ts (params ∷ []) ∷ []) (take-length (new_terms d))
    ∙ ap (λ r. (Null ∷ eval_all (map (λ i. col 0 i) (below n)) (r ∷ [])) ∷ []) (sym (append-nil params))
    ∙ ap (λ r. (Null ∷ r) ∷ []) (params_are n params [] [] many)

shown_least : (cs : List ℕ) (env : List Row) (r : Row) → eval_all (map (λ i. col 1 i) cs) env ≡ r
    → eval_all (shown_columns cs) env ≡ at_least r
shown_least [] env r is = ap at_least is
shown_least (c ∷ cs) env r is = ap at_least is

behind_key : (n all : ℕ) (params key value : Row) (v : Value) → length key ≡ n → length (key ++ value) ≡ all
    → shown_as params (shown_columns (drop n (columns_to all))) (v ∷ key ++ value) ≡ at_least value
behind_key n all params key value v many long =
    shown_least (drop n (columns_to all)) (params ∷ (v ∷ key ++ value) ∷ []) value
    (eval_dropped n (columns_to all) (λ i. col 1 i) _
    ∙ ap (drop n) (columns_behind (below all) params v (key ++ value)
    ∙ columns_are all params (key ++ value) long)
    ∙ ap (λ m. drop m (key ++ value)) (sym many) ∙ drop-append_seam key value)

-- a row that is written again: its key stays, and the rest is from the parameters
changed_row : (d : Descriptor) (n : ℕ) (key old new more : Row) (v : Value) → length key ≡ n
    → length (key ++ new) ≡ length d.columns
    → eval_all (changed_terms d n) (((key ++ new) ++ more) ∷ (v ∷ key ++ old) ∷ []) ≡ key ++ new
changed_row d n key old new more v many long =
    let all = length d.columns in
    let env = ((key ++ new) ++ more) ∷ (v ∷ key ++ old) ∷ [] in
    eval_both (map (λ i. col 1 i) (columns_to n)) (map (λ i. col 0 i) (drop n (below all))) env
    ∙ ap₂ (λ a b. a ++ b)
    (columns_behind (below n) ((key ++ new) ++ more) v (key ++ old)
    ∙ first_are n ((key ++ new) ++ more) key old many)
    (eval_dropped n (below all) (λ i. col 0 i) env
    ∙ ap (drop n) (params_are all (key ++ new) more ((v ∷ key ++ old) ∷ []) long)
    ∙ ap (λ m. drop m (key ++ new)) (sym many) ∙ drop-append_seam key new)

column_next : (a more : Row) (v : Value) (n : ℕ) → length a ≡ n → column (a ++ v ∷ more) n ≡ v
column_next [] more v zero many = refl
column_next [] more v (suc n) many = absurd (let e = many in cc)
column_next (x ∷ a) more v zero many = absurd (let e = many in cc)
column_next (x ∷ a) more v (suc n) many = column_next a more v n (omega (arith, many))

-- ---- a table

-- what only read leaves all as it was
pub still_within : {s : Schema} {claims : List Claim} {base : Database} {old new : State}
    → IsUnchanged old new → new.step_limit ≡ old.step_limit → Within s claims base old
    → Within s claims base new
still_within {s} {claims} still limit w = record {
  free = record { is_open = still.0.is_open; unlimited = limit ∙ w.free.unlimited };
  inside = still.0.mode ∙ w.inside;
  committed = still.0.committed_is ∙ w.committed;
  stands = subst (Stands s claims) (sym still.0.now_is) w.stands;
}

module _ {s : Schema} {K X : Type 0} {cmp : K → K → Ordering} {key : K → Row} {value : X → Row}
    (t : Keyed s cmp key value) where
  row_long : (k : K) (x : X) → length (row_of key value k x) ≡ length t.table.columns
  row_long k x = fit_long t.table.columns (row_of key value k x) (t.codes.fit k x)

  -- what the row of a look-up shows
  pub found_some : (o : Option X) (rows : List Row) (row : Row) (shows : Row → X → Type 0)
      → ((x y : X) → shows (at_least (value x)) y → y ≡ x) → rows ≡ one_of (λ x. at_least (value x)) o
      → Some row ≡ slice_get rows 0 → (y : X) → shows row y → Some y ≡ o
  found_some None rows row shows told is first y so =
      absurd (let none = first ∙ ap (λ l. slice_get l 0) is in cc)
  found_some (Some x) rows row shows told is first y so =
      let whole : row ≡ at_least (value x) = (let e = first ∙ ap (λ l. slice_get l 0) is in cc) in
      ap Some (told x y (subst (λ r. shows r y) whole so))

  pub found_none : (o : Option X) (rows : List Row) → rows ≡ one_of (λ x. at_least (value x)) o
      → None ≡ slice_get rows 0 → None ≡ o
  found_none None rows is first = refl
  found_none (Some x) rows is first = absurd (let some = first ∙ ap (λ l. slice_get l 0) is in cc)

  module _ {Tables : Type 0} (claims : Tables → List Claim) (held : Tables → K → Option X)
      (said : (h : Tables) (rows : List Row) → claim_at (claims h) t.place rows
      → AreRowsOf (row_of key value) rows (held h)) where
    pub finds : (old new : State) (h : Tables) → Stands s (claims h) old.now → (text : List ℕ) (params : Row)
        → IsQuery s text (finding t.table (suc t.more)) → (rows : List Row) → Shown text params old new rows
        → (k : K) → params ≡ key k ++ [] → rows ≡ one_of (λ x. at_least (value x)) (held h k)
    finds old new h it text params means rows shown k given =
        look_up old new it text params rows shown t (held h) (said h _)
        (shown_columns (drop (suc t.more) (columns_to (length t.table.columns)))) means k given
        (λ x. at_least (value x))
        (λ m x. behind_key (suc t.more) (length t.table.columns) params (key k) (value x) (Int m)
        (t.codes.long k) (row_long k x))

    module _ (fine : is_plain s ≡ true) (with : Tables → (K → Option X) → Tables)
        (set : (h : Tables) (now : K → Option X) (db : Trees)
        → StandsIn s.tables (at_place (claims h) t.place (λ rows. AreRowsOf (row_of key value) rows now)) db
        → StandsIn s.tables (claims (with h now)) db)
        (base : Database) (old new : State) (text : List ℕ) (params : Row) (h : Tables)
        (run : Ran s (claims h) base old new text params) where
      abbrev IsPut : K → Option X → Type 0
      IsPut k o = Within s (claims (with h (put cmp (held h) k o))) base new

      one_row : (k : K) (x : X) → params ≡ row_of key value k x
          → value_rows params (suc (length t.table.columns))
          (length (new_terms t.table) / suc (length t.table.columns)) (new_terms t.table)
          ≡ (Null ∷ row_of key value k x) ∷ []
      one_row k x given = ap (λ p. value_rows p (suc (length t.table.columns))
          (length (new_terms t.table) / suc (length t.table.columns)) (new_terms t.table)) given
          ∙ new_row t.table (row_of key value k x) (row_long k x)

      -- what stands behind the parameters where a row was met, and its rowid
      abbrev met : K → X → Row
      met k x =
          shown (table_of t.table) (Int (next_rowid (old.now.trees t.table.tree)) ∷ row_of key value k x)

      pub puts : IsWrite s text (putting t.table t.place (suc t.more)) → (k : K) (x : X)
          → params ≡ row_of key value k x → IsPut k (Some x)
      puts means k x given =
          retold s _ _ base new (set h _)
          (upsert_in fine run t (held h) (said h _) k x (suc (length t.table.columns)) (new_terms t.table)
          (length t.table.columns) (changed_terms t.table (suc t.more)) means (one_row k x given)
          (λ m. column_next params _ (Int m) _ (ap length given ∙ row_long k x))
          (λ m y is.
          ap (λ p. Int m ∷ Int m ∷ eval_all (changed_terms t.table (suc t.more))
          ((p ++ Int m ∷ met k x) ∷ (Int m ∷ row_of key value k y) ∷ [])) given
          ∙ ap (λ r. Int m ∷ Int m ∷ r)
          (changed_row t.table (suc t.more) (key k) (value y) (value x) (Int m ∷ met k x) (Int m)
          (t.codes.long k) (row_long k x))))

      pub takes : IsWrite s text (taking t.table t.place (suc t.more)) → (k : K) → params ≡ key k ++ []
          → IsPut k None
      takes means k given =
          retold s _ _ base new (set h _) (take_in fine run t (held h) (said h _) means k given)
