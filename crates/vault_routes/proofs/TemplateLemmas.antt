-- What the service's router finds for a target: the rows of the table's places, computed.
use Rattle.std.proofs.Common.{◌≡◌, ℕ, ◌∙◌, List, [], ◌∷◌, codes, Option, Some, None, Bool, true, false, cond}
use Rattle.std.proofs.Common.{refl, sym, ap, inl, inr, subst, length, ltb, true≢false}
use Rattle.std.specs.Prelude.{find, map, option_map}
use Rattle.std.specs.Cmp.Lexicographic.{bytes_decides}
use Rattle.matchit.proofs.OnLiterals.{matchit_on_literals}
use Rattle.matchit.specs.Level.{IsText}
use Rattle.matchit.specs.Params.{part_of}
use Rattle.matchit.specs.Router.{RouteOf}
use Rattle.matchit.specs.Rows.{param_token}
use Rattle.matchit.specs.Seek.{first, same_text}
use Rattle.vault_routes.specs.Table.{filled, has_token, row_of}
use Rattle.vault_routes.specs.Templates.{templates}
use Rattle.vault_routes.specs.declared.table.Place.{Place}
use Rattle.vault_routes.specs.declared.table.Place.TheVariants as place
use Rattle.vault_routes.proofs.Patterns.{fill, fits, is_tidy, parameter_count}
use Rattle.vault_routes.proofs.RowLemmas.{EachPattern, IsFoundBy, IsIn, are_all_apart, first-fits, one_row}

-- a place's template as a pattern
abbrev pub pattern_of : Place → List ℕ
pattern_of p = filled (row_of p).template (param_token ∷ []) (param_token ∷ [])

-- the place's template has a parameter for a token
abbrev pub names_token : Place → Bool
names_token p = has_token (row_of p).template

-- the texts of a target's parameters, and their names
abbrev pub texts_by : Bool → List ℕ → List ℕ → List (List ℕ)
texts_by token m t = m ∷ cond token (t ∷ []) []

abbrev pub names_by : Bool → List (List ℕ)
names_by token = codes "m" ∷ cond token (codes "t" ∷ []) []

-- ---- each place, computed

pub tidy : (p : Place) → is_tidy (pattern_of p) ≡ true
tidy place.Tokens = refl
tidy other = refl

pub count : (p : Place) → parameter_count (pattern_of p) ≡ cond (names_token p) 2 1
count place.Tokens = refl
count other = refl

pub short : (p : Place) → ltb (length (pattern_of p)) 1000 ≡ true
short place.Tokens = refl
short other = refl

pub filled-is : (p : Place) (m t : List ℕ)
    → filled (row_of p).template m t ≡ fill (pattern_of p) (texts_by (names_token p) m t)
filled-is place.Tokens m t = refl
filled-is other m t = refl

-- ---- the router's rows, computed

abbrev Row : Type 0
Row = List ℕ × RouteOf Place

-- the names of a route's parameters, by their places in its text
abbrev pub names_in : RouteOf Place → List (List ℕ)
names_in route = map (λ n. part_of route.text n.0 n.1) route.names

-- what a row says of its place, and what the table does
abbrev said_by : Row → List ℕ × List ℕ × List (List ℕ)
said_by row = (row.0, row.1.pattern, names_in row.1)

abbrev meant_by : Row → List ℕ × List ℕ × List (List ℕ)
meant_by row =
    (pattern_of row.1.value, pattern_of row.1.value, names_by (names_token row.1.value))

rows_are : map said_by templates ≡ map meant_by templates
unfolding matchit_on_literals
rows_are = refl

rows_apart : are_all_apart templates ≡ true
unfolding matchit_on_literals
rows_apart = refl

-- each place has a row
has_row : (p : Place)
    → option_map (λ (row : Row). row.1.value) (find (λ row. same_text row.0 (pattern_of p)) templates)
    ≡ Some p
unfolding matchit_on_literals
has_row place.Tokens = refl
has_row other = refl

-- ---- so for each row

same_in : {X Y : Type 0} (f g : X → Y) (xs : List X) (x : X) → map f xs ≡ map g xs → IsIn x xs → f x ≡ g x
same_in f g [] x same is = elim is [ ]
same_in f g (y ∷ ys) x same (inl here) =
    let head : f y ≡ g y = cc in subst (λ z. f z ≡ g z) here head
same_in f g (y ∷ ys) x same (inr later) =
    let tail : map f ys ≡ map g ys = cc in same_in f g ys x tail later

in_find : {X : Type 0} (test : X → Bool) (xs : List X) (x : X) → find test xs ≡ Some x
    → IsIn x xs × (test x ≡ true)
in_find test [] x found = absurd (cc)
in_find test (y ∷ ys) x found = by (test y) refl found (in_find test ys x)
  where
    by : (v : Bool) → test y ≡ v → cond v (Some y) (find test ys) ≡ Some x
        → (find test ys ≡ Some x → IsIn x ys × (test x ≡ true))
        → IsIn x (y ∷ ys) × (test x ≡ true)
    by true e here more =
        let same : y ≡ x = cc in (inl same, subst (λ z. test z ≡ true) same e)
    by false e later more = let both = more later in (inr both.0, both.1)

-- a row of the router that fits a target
pub record IsRowAt (target : List ℕ) (row : RouteOf Place) : Type 0 where
  pub pattern : row.pattern ≡ pattern_of row.value
  pub names : names_in row ≡ names_by (names_token row.value)
  pub fitting : fits (pattern_of row.value) target ≡ true

each_tidy : EachPattern is_tidy templates
each_tidy pattern row is =
    let same = same_in said_by meant_by templates (pattern, row) rows_are is in
    ap (λ said. is_tidy said.0) same ∙ tidy row.value

found_by : (target : List ℕ) → IsText target
    → IsFoundBy (λ pattern. fits pattern target) templates (first templates target)
found_by target small = first-fits templates target each_tidy small

pub row-at : (target : List ℕ) (row : RouteOf Place) → IsText target → first templates target ≡ Some row
    → IsRowAt target row
row-at target row small given =
    let found : IsFoundBy (λ pattern. fits pattern target) templates (Some row) =
    subst (IsFoundBy (λ pattern. fits pattern target) templates) given (found_by target small) in
    let same = same_in said_by meant_by templates (found.0, row) rows_are found.1 in
    record {
      pattern = ap (λ said. said.1) same;
      names = ap (λ said. said.2) same;
      fitting = ap (λ said. fits said.0 target) (sym same) ∙ found.2;
    }

-- a target that a place's pattern fits has a row of this place
pub first-at : (p : Place) (target : List ℕ) → IsText target → fits (pattern_of p) target ≡ true
    → (row : RouteOf Place) × (first templates target ≡ Some row) × (row.value ≡ p)
first-at p target small fit =
    at_row (find (λ row. same_text row.0 (pattern_of p)) templates) refl (has_row p)
  where
    Result : Type 0
    Result = (row : RouteOf Place) × (first templates target ≡ Some row) × (row.value ≡ p)

    by : (x : Row) → IsIn x templates → x.0 ≡ pattern_of p → x.1.value ≡ p → (o : Option (RouteOf Place))
        → first templates target ≡ o
        → IsFoundBy (λ pattern. fits pattern target) templates o → Result
    by x is pattern value None given none =
        absurd (true≢false (sym (ap (λ q. fits q target) pattern ∙ fit) ∙ none x.0 x.1 is))
    by x is pattern value (Some row) given found =
        let same : (found.0, row) ≡ x =
        one_row templates (found.0, row) x target rows_apart found.1 is found.2
        (ap (λ q. fits q target) pattern ∙ fit) in
        (row, given, ap (λ (y : Row). y.1.value) same ∙ value)

    at_row : (o : Option Row) → find (λ row. same_text row.0 (pattern_of p)) templates ≡ o
        → option_map (λ (row : Row). row.1.value) o ≡ Some p → Result
    at_row None found value = absurd (cc)
    at_row (Some x) found value =
        let both = in_find (λ row. same_text row.0 (pattern_of p)) templates x found in
        by x both.0 ((bytes_decides x.0 (pattern_of p)).0 both.1) (cc) (first templates target) refl
        (found_by target small)
