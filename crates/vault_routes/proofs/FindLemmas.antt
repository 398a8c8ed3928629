-- What a target names.
use Rattle.std.proofs.Common.{◌≡◌, ℕ, suc, ◌<◌, ◌∙◌, List, [], ◌∷◌, ◌++◌, length, drop, get_or, codes, Bool}
use Rattle.std.proofs.Common.{true, Option, Some, None, false, refl, sym, ap, arith, subst, lit<, Bor}
use Rattle.std.proofs.Common.{append-nil}
use lib.Utf8.{encode}
use Rattle.std.proofs.Math.Seq.{drop-append_seam, take-append_seam}
use Rattle.std.proofs.lemmas.Bool.{and_parts, eqb-true, ltb-true}
use Rattle.std.proofs.lemmas.List.{length-append}
use Rattle.std.proofs.lemmas.Str.{IsCharBoundary-after_ascii, IsCharBoundary-before_ascii, IsUtf8-drop}
use Rattle.std.proofs.lemmas.Str.{IsUtf8-take}
use Rattle.std.specs.Option.{unwrap_or}
use Rattle.std.specs.Prelude.{MatchOption, zip}
use Rattle.std.specs.Str.{IsUtf8}
use Rattle.matchit.specs.Level.{IsText}
use Rattle.matchit.specs.Params.{AllText}
use Rattle.matchit.specs.Router.{RouteOf}
use Rattle.matchit.specs.Seek.{first, slash}
use Rattle.vault_routes.specs.Route.{has_query, parameter, route_of, target_by, text_or_empty}
use Rattle.vault_routes.specs.Templates.{templates}
use Rattle.vault_routes.specs.declared.table.Place.{Place}
use Rattle.vault_routes.proofs.Patterns.{before_slash, begins-is, both_parts, fits, from_slash}
use Rattle.vault_routes.proofs.Patterns.{from_slash-closed, is_closed, is_tidy, taken, token_cases}
use Rattle.vault_routes.proofs.TemplateLemmas.{names_by, names_token, pattern_of, row-at, tidy}
use Rattle.vault_routes.proofs.WalkLemmas.{get_or-at, taken_by, walk-row}

IsUtf8-nil : IsUtf8 []
unfolding encode
IsUtf8-nil = ([], (refl, refl))

IsUtf8-m : IsUtf8 (codes "m")
unfolding encode
IsUtf8-m = (codes "m", (refl, refl))

IsUtf8-t : IsUtf8 (codes "t")
unfolding encode
IsUtf8-t = (codes "t", (refl, refl))

pub IsText-bytes : (text : List ℕ) → ((k : ℕ) → get_or text k 0 < 256) → IsText text
IsText-bytes [] bytes = tt
IsText-bytes (b ∷ text) bytes = (bytes 0, IsText-bytes text (λ k. bytes (suc k)))

-- ---- what the parameters of a pattern take of a text is text

abbrev AllUtf8 : List (List ℕ) → Type 0
AllUtf8 [] = Unit {0}
AllUtf8 (text ∷ texts) = IsUtf8 text × AllUtf8 texts

IsUtf8-before_slash : (a b : List ℕ) → IsUtf8 (a ++ slash ∷ b) → IsUtf8 a × IsUtf8 (slash ∷ b)
IsUtf8-before_slash a b text =
    let all = a ++ slash ∷ b in
    let left : drop (length a) all ≡ slash ∷ b = drop-append_seam a (slash ∷ b) in
    let long : length a < length all = omega (arith, length-append a (slash ∷ b)) in
    let at : get_or all (length a) 0 ≡ slash = get_or-at all (length a) slash b left in
    let low : get_or all (length a) 0 < 128 = rw at (lit< tt) in
    let boundary = IsCharBoundary-before_ascii all (length a) long low in (
      subst IsUtf8 (take-append_seam a (slash ∷ b)) (IsUtf8-take all (length a) text boundary),
      subst IsUtf8 left (IsUtf8-drop all (length a) text boundary),
    )

IsUtf8-parts : (path : List ℕ) → IsUtf8 path → IsUtf8 (before_slash path) × IsUtf8 (from_slash path)
IsUtf8-parts path text = by (from_slash path) (both_parts path) (from_slash-closed path)
  where
    by : (rest : List ℕ) → before_slash path ++ rest ≡ path → is_closed rest ≡ true
        → IsUtf8 (before_slash path) × IsUtf8 rest
    by [] same closed =
        (subst IsUtf8 (sym same ∙ append-nil (before_slash path)) text, IsUtf8-nil)
    by (b ∷ rest) same closed =
        let is : b ≡ slash = eqb-true _ _ closed in
        let split : path ≡ before_slash path ++ slash ∷ rest =
        sym same ∙ ap (λ x. before_slash path ++ x ∷ rest) is in
        let both = IsUtf8-before_slash (before_slash path) rest (subst IsUtf8 split text) in
        (both.0, subst (λ x. IsUtf8 (x ∷ rest)) (sym is) both.1)

-- behind a byte of ASCII
IsUtf8-behind : (b : ℕ) (path : List ℕ) → b < 128 → IsUtf8 (b ∷ path) → IsUtf8 path
IsUtf8-behind b path low text =
    IsUtf8-drop (b ∷ path) 1 text (IsCharBoundary-after_ascii (b ∷ path) 0 text (omega arith) low)

AllUtf8-taken : (pattern path : List ℕ) → is_tidy pattern ≡ true → fits pattern path ≡ true → IsUtf8 path
    → AllUtf8 (taken pattern path)
AllUtf8-taken [] path tidy fit text = tt
AllUtf8-taken (x ∷ pattern) path tidy fit text =
    token_cases (λ x. is_tidy (x ∷ pattern) ≡ true → fits (x ∷ pattern) path ≡ true
    → AllUtf8 (taken (x ∷ pattern) path))
    (λ tidy fit. (let both = IsUtf8-parts path text in (
      both.0,
      AllUtf8-taken pattern (from_slash path) (and_parts _ _ tidy).1 (and_parts _ _ fit).1 both.1,
    )))
    (λ x byte tidy fit. (let tidy_parts = and_parts _ _ (rw byte at tidy) in
    let fit_parts = and_parts _ _ (rw byte at fit) in
    let low : x < 128 = ltb-true x 128 (and_parts _ _ tidy_parts.0).0 in
    let rest = IsUtf8-behind x (drop 1 path) low
    (subst IsUtf8 (sym (begins-is x path fit_parts.0)) text) in
    rw byte (AllUtf8-taken pattern (drop 1 path) tidy_parts.1 fit_parts.1 rest))) x tidy fit

AllText-zip : (names texts : List (List ℕ)) → AllUtf8 names → AllUtf8 texts → AllText (zip names texts)
AllText-zip [] texts named are = tt
AllText-zip (n ∷ names) [] named are = tt
AllText-zip (n ∷ names) (t ∷ texts) named are = (named.0, are.0, AllText-zip names texts named.1 are.1)

AllUtf8-names : (token : Bool) → AllUtf8 (names_by token)
AllUtf8-names true = (IsUtf8-m, (IsUtf8-t, tt))
AllUtf8-names false = (IsUtf8-m, tt)

-- what the parameters of a found row took is text
pub AllText-found : (target : List ℕ) (row : RouteOf Place) → IsText target → IsUtf8 target
    → first templates target ≡ Some row
    → AllText (taken_by row target)
AllText-found target row small text given =
    let is = row-at target row small given in
    let pattern = pattern_of row.value in
    let token = names_token row.value in
    subst AllText (sym (walk-row target row is))
    (AllText-zip (names_by token) (taken pattern target) (AllUtf8-names token)
    (AllUtf8-taken pattern target (tidy row.value) is.fitting text))

-- what such a row's template says of the target
pub route_of-found : (target : List ℕ) (row : RouteOf Place) → has_query target ≡ false
    → first templates target ≡ Some row
    → route_of target ≡ target_by row target
route_of-found target row plain given = rw (plain, given) refl

-- with the parameters that were taken
pub route_of-unnamed : (target : List ℕ) (row : RouteOf Place) → has_query target ≡ false
    → first templates target ≡ Some row
    → parameter (codes "m") row target ≡ None → route_of target ≡ None
route_of-unnamed target row plain given none = rw (plain, given, none) refl

pub route_of-named : (target : List ℕ) (row : RouteOf Place) (m t : List ℕ) → has_query target ≡ false
    → first templates target ≡ Some row → parameter (codes "m") row target ≡ Some m
    → text_or_empty (parameter (codes "t") row target) ≡ t
    → route_of target ≡ Some (record { place = row.value; merchant = m; token = t })
route_of-named target row m t plain given merchant token = rw (plain, given, merchant, token) refl

-- what is taken where a parameter may be absent
pub taken_or_empty : (o : Option (Bor (List ℕ))) (d : Bor (List ℕ)) (value : Option (List ℕ)) → d.now ≡ []
    → MatchOption o (value ≡ None) (λ v. value ≡ Some v.now) → text_or_empty value ≡ (unwrap_or o d).now
taken_or_empty None d value empty h = rw (h, empty) refl
taken_or_empty (Some v) d value empty h = rw h refl
