-- What a plain schema gives: a write sets off nothing, and leaves the other tables.
use Rattle.std.proofs.Common.{◌≡◌, ◌≢◌, ◌==◌, ℕ, zero, suc, List, [], ◌∷◌, ◌++◌, map, not, true, Some}
use Rattle.std.proofs.Common.{slice_get, refl, sym, subst, arith, filter_map, flat_map}
use Rattle.std.proofs.lemmas.Bool.{and_parts}
use Rattle.std.proofs.lemmas.Bool.Decides.{nat_tests}
use Rattle.std.proofs.lemmas.Grind.{common_steps}
use Rattle.std.specs.List.{AllByRecursion, list_all}
use Rattle.sqlite.specs.Order.{Row}
use Rattle.sqlite.specs.Schema.{Schema}
use Rattle.sqlite.specs.Table.{Table}
use Rattle.sqlite.specs.Tree.{Trees}
use Rattle.sqlite_rules.specs.Action.{works, work_for}
use Rattle.sqlite_schema.specs.declared.schema.Keys.{Keys}
use Rattle.sql_tables.specs.Schema.{are_apart, is_none, is_plain}
use Rattle.sql_tables.specs.States.{Claim, StandsIn, at_place}
use Rattle.sql_tables.specs.Maps.{claim_at}

none_is : {X : Type 0} (xs : List X) → is_none xs ≡ true → xs ≡ []
none_is xs h = grind arith

no_works_of : (schema : Schema) (keys : Keys) (depth tree : ℕ) (olds news : List Row) (tables : List Table)
    → list_all (λ t. is_none t.references) tables ≡ true
    → flat_map (λ child. filter_map (work_for schema keys depth tree olds news child) child.references) tables
    ≡ []
no_works_of schema keys depth tree olds news [] none = refl
no_works_of schema keys depth tree olds news (t ∷ tables) none =
    rw (none_is t.references (and_parts _ _ none).0)
    (no_works_of schema keys depth tree olds news tables (and_parts _ _ none).1)

-- no foreign key acts
pub no_works : (s : Schema) → is_plain s ≡ true → (keys : Keys) (depth tree : ℕ) (olds news : List Row)
    → works s keys depth tree olds news ≡ []
no_works s plain keys depth tree olds news = no_works_of s keys depth tree olds news s.tables
    (and_parts (are_apart (map (λ t. t.tree) s.tables)) _ plain).1

other : (a b : ℕ) → not (a == b) ≡ true → a ≢ b
other a b h same = grind (arith, nat_tests, common_steps)

-- a table at a place behind the first is not the first
behind : (n : ℕ) (tables : List Table) (place : ℕ) (t : Table)
    → list_all (λ m. not (m == n)) (map (λ t. t.tree) tables) ≡ true → slice_get tables place ≡ Some t
    → t.tree ≢ n
behind n [] place t all here = cc
behind n (u ∷ tables) zero t all here = let same : u ≡ t = cc in
    subst (λ (x : Table). x.tree ≢ n) same (other u.tree n (and_parts _ _ all).0)
behind n (u ∷ tables) (suc place) t all here = behind n tables place t (and_parts _ _ all).1 here

-- tables that all stay are as was said
pub stays : (tables : List Table) (claims : List Claim) (old new : Trees)
    → AllByRecursion (λ t. new t.tree ≡ old t.tree) tables → StandsIn tables claims old
    → StandsIn tables claims new
stays [] [] old new same s = tt
stays [] (P ∷ claims) old new same s = absurd s
stays (t ∷ tables) [] old new same s = absurd s
stays (t ∷ tables) (P ∷ claims) old new same s =
    (subst P (sym same.0) s.0, stays tables claims old new same.1 s.1)

others_stay : (n : ℕ) (tables : List Table) (old new : Trees)
    → list_all (λ m. not (m == n)) (map (λ t. t.tree) tables) ≡ true
    → AllByRecursion (λ u. u.tree ≢ n → new u.tree ≡ old u.tree) tables
    → AllByRecursion (λ t. new t.tree ≡ old t.tree) tables
others_stay n [] old new all beside = tt
others_stay n (u ∷ tables) old new all beside = (
  beside.0 (other u.tree n (and_parts _ _ all).0),
  others_stay n tables old new
      (and_parts _ _ all).1 beside.1,
)

-- THE FRAME: one table is written, and what is said of the others stays.
pub frame : (tables : List Table) (claims : List Claim) (place : ℕ) (t : Table) (Q : Claim) (old new : Trees)
    → are_apart (map (λ t. t.tree) tables) ≡ true → slice_get tables place ≡ Some t
    → AllByRecursion (λ u. u.tree ≢ t.tree → new u.tree ≡ old u.tree) tables → StandsIn tables claims old
    → Q (new t.tree) → StandsIn tables (at_place claims place Q) new
frame [] claims place t Q old new apart here beside s now = cc
frame (u ∷ tables) [] place t Q old new apart here beside s now = absurd s
frame (u ∷ tables) (P ∷ claims) zero t Q old new apart here beside s now =
    let same : t ≡ u = cc in (
      subst (λ (x : Table). Q (new x.tree)) same now,
      stays tables claims old new
          (others_stay u.tree tables old new (and_parts _ _ apart).0
          (subst (λ (x : Table). AllByRecursion (λ u. u.tree ≢ x.tree → new u.tree ≡ old u.tree) tables) same
          beside.1)) s.1,
    )
frame (u ∷ tables) (P ∷ claims) (suc place) t Q old new apart here beside s now =
    let far : u.tree ≢ t.tree = λ e. behind u.tree tables place t (and_parts _ _ apart).0 here (sym e) in (
      subst P (sym (beside.0 far)) s.0,
      frame tables claims place t Q old new
          (and_parts _ _ apart).1 here beside.1 s.1 now,
    )

pub claimed : (tables : List Table) (claims : List Claim) (place : ℕ) (t : Table) (db : Trees)
    → slice_get tables place ≡ Some t → StandsIn tables claims db → claim_at claims place (db t.tree)
claimed [] claims place t db here s = cc
claimed (u ∷ tables) [] place t db here s = absurd s
claimed (u ∷ tables) (P ∷ claims) zero t db here s = let same : u ≡ t = cc in
    subst (λ (x : Table). P (db x.tree)) same s.0
claimed (u ∷ tables) (P ∷ claims) (suc place) t db here s = claimed tables claims place t db here s.1

-- one more table behind, of which this is said
pub one_more : (tables : List Table) (claims : List Claim) (t : Table) (Q : Claim) (db : Trees)
    → StandsIn tables claims db → Q (db t.tree) → StandsIn (tables ++ t ∷ []) (claims ++ Q ∷ []) db
one_more [] [] t Q db s now = (now, tt)
one_more [] (P ∷ claims) t Q db s now = absurd s
one_more (u ∷ tables) [] t Q db s now = absurd s
one_more (u ∷ tables) (P ∷ claims) t Q db s now = (s.0, one_more tables claims t Q db s.1 now)
