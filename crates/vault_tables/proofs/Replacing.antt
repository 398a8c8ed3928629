-- A step that replaces a table: the newer one is made, filled from the older one, which is emptied, and the
-- version is said. Once for every such step. And what the rows of such a table tell, in whatever version.
use Rattle.std.proofs.Common.{◌≡◌, ◌++◌, ◌∙◌, ℕ, ℤ, pos, Bool, true, false, List, [], ◌∷◌, Option, Some, None}
use Rattle.std.proofs.Common.{Ordering, ap, option_map, refl, slice_get, subst, sym}
use Rattle.sqlite.specs.Effect.{Database}
use Rattle.sqlite.specs.Order.{Row}
use Rattle.sqlite.specs.Schema.{Schema}
use Rattle.sqlite.specs.State.{State}
use Rattle.sqlite.specs.Term.{Term}
use Rattle.sqlite.specs.declared.types.Value.TheVariants.{Null, Int}
use Rattle.sql_tables.proofs.Answers.{shown_as}
use Rattle.sql_tables.proofs.ByKey.{Coding}
use Rattle.sql_tables.proofs.Copies.{copy_in}
use Rattle.sql_tables.proofs.Determined.{same_lookups}
use Rattle.sql_tables.proofs.KeyTests.{int_eq}
use Rattle.sql_tables.proofs.Moves.{change_one, empty_in}
use Rattle.sql_tables.specs.Codes.{row_of}
use Rattle.sql_tables.specs.Maps.{Keyed, claim_at}
use Rattle.sql_tables.specs.Rows.{AreRowsOf}
use Rattle.sql_tables.specs.Schema.{is_plain, table_of}
use Rattle.sql_tables.specs.States.{Claim, IsEmpty, Within, at_place}
use Rattle.vault_schema.proofs.Meanings.{ReplacesTable}
use Rattle.vault_schema.specs.Layers.{Either, claim_or_empty}
use Rattle.vault_schema.specs.VersionRows.{IsVersion, vault}
use Rattle.vault_tables.proofs.Inside.{RunsFour, ran_in, table_in}

-- what has the defaults is as the older table has it, with them
pub again : {K X Y : Type 0} (widen : X → Y) (older : Y → X) (held : K → Option Y)
    → ((k : K) (y : Y) → held k ≡ Some y → widen (older y) ≡ y)
    → (λ k. option_map widen (option_map older (held k))) ≡ held
again {K} {X} {Y} widen older held same = λ i k. each k (held k) refl i
  where
    each : (k : K) (o : Option Y) → held k ≡ o → option_map widen (option_map older o) ≡ o
    each k None is = refl
    each k (Some y) is = ap (λ z. Some z) (same k y is)

-- ---- what rows tell

-- all that is looked up
pub alike : {K X : Type 0} {cmp : K → K → Ordering} {encode : K → X → Row} {f g : K → Option X}
    {rows : List Row} → Coding cmp encode → AreRowsOf encode rows f → AreRowsOf encode rows g → f ≡ g
alike coding first other = λ i key. same_lookups coding first other key i

-- before a version there is the default
pub default_before : {P : Type 0} (past : Bool) → Either past (Unit {0}) P → past ≡ false → P
default_before true is before = absurd cc
default_before false is before = is

-- and the older table
pub claim_before : (past : Bool) (P : Claim) (rows : List Row) → claim_or_empty past P rows → past ≡ false
    → P rows
claim_before true P rows is before = absurd cc
claim_before false P rows is before = is

-- from a version on the newer table tells all, and before it the older one does, with the defaults
pub told : {K X Y : Type 0} {cmp : K → K → Ordering} {encode : K → Y → Row} {rows : List Row} (past : Bool)
    (widen : X → Y) (older : Y → X) (f g : K → Option Y) → Coding cmp encode
    → (past ≡ true → AreRowsOf encode rows f) → (past ≡ true → AreRowsOf encode rows g)
    → (past ≡ false → (k : K) (y : Y) → f k ≡ Some y → widen (older y) ≡ y)
    → (past ≡ false → (k : K) (y : Y) → g k ≡ Some y → widen (older y) ≡ y)
    → (past ≡ false → ◌≡◌ {A = K → Option X} (λ k. option_map older (f k)) (λ k. option_map older (g k)))
    → f ≡ g
told true widen older f g coding first other stays stays' before = alike coding (first refl) (other refl)
told false widen older f g coding first other stays stays' before =
    sym (again widen older f (stays refl)) ∙ (λ i k. option_map widen (before refl i k))
    ∙ again widen older g (stays' refl)

-- ---- a step

module _ {next : Schema} {K X Y : Type 0} {cmp : K → K → Ordering} {key : K → Row}
    {was : X → Row} {value : Y → Row} (old : Keyed next cmp key was) (new : Keyed next cmp key value)
    (widen : X → Y) (older : Y → X) (held : K → Option Y) where
  abbrev pub Old : Claim
  Old rows = AreRowsOf (row_of key was) rows (λ k. option_map older (held k))

  abbrev pub New : Claim
  New rows = AreRowsOf (row_of key value) rows held

  abbrev pub made_more : List Claim → List Claim
  made_more before = before ++ IsEmpty ∷ []

  abbrev pub copied : List Claim → List Claim
  copied before = at_place (made_more before) new.place New

  abbrev pub emptied : List Claim → List Claim
  emptied before = at_place (copied before) old.place IsEmpty

  module _ {s : Schema} {claims : List Claim} {base : Database} {a b c d e : State}
      {create copy empty version : List ℕ} {project : List Term} (m n : ℕ) (fine : is_plain next ≡ true)
      (w : Within s claims base a) (same : (k : K) (y : Y) → held k ≡ Some y → widen (older y) ≡ y)
      (texts : ReplacesTable s next old.table new.table old.place new.place n project create copy empty
      version) (here : slice_get next.tables 0 ≡ Some (table_of vault)) where
    pub replaced : RunsFour create copy empty version a b c d e
        → ((rows : List Row) → claim_at (made_more claims) old.place rows → Old rows)
        → ((rows : List Row) → claim_at (made_more claims) new.place rows → rows ≡ [])
        → ((rows : List Row) → claim_at (copied claims) old.place rows → Old rows)
        → ((rows : List Row) → claim_at (emptied claims) 0 rows → IsVersion m rows)
        → ((id : ℤ) (k : K) (x : X)
        → shown_as [] project (Int id ∷ row_of key was k x) ≡ Null ∷ row_of key value k (widen x))
        → Within next (at_place (emptied claims) 0 (IsVersion n)) base e
    replaced run said none still before shows =
        let first : Within next (made_more claims) base b = table_in texts.made texts.makes
        (ran_in run.one run.first w) in
        let second : Within next (copied claims) base c =
        subst (λ (now : K → Option Y). Within next
        (at_place (made_more claims) new.place (λ rows. AreRowsOf (row_of key value) rows now)) base c)
        (again widen older held same)
        (copy_in fine (ran_in run.two run.second first) old new widen (λ k. option_map older (held k))
        (said _) (none _) project shows texts.copies) in
        let third : Within next (emptied claims) base d =
        empty_in fine (ran_in run.three run.third second) old.table old.place old.here texts.empties
        (λ is r there. (still _ is).keyed r there) in
        change_one fine (ran_in run.four run.fourth third) vault 0 here _ _ texts.sets (pos 1)
        (Null ∷ Int (pos m) ∷ []) (Null ∷ Int (pos n) ∷ []) (before _)
        (rw (int_eq (pos 1) (pos 1)) refl) refl refl
