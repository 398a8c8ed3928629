-- Patterns whose parameters end with their segments: the texts that they fit, and what the parameters take.
use Rattle.std.proofs.Common.{◌≡◌, ℕ, ◌+◌, ◌<◌, ◌∙◌, List, [], ◌∷◌, ◌++◌, length, drop, get_or, Bool, true}
use Rattle.std.proofs.Common.{false, cond, refl, sym, ap, arith, ◌==◌, ◌&&◌, ltb, subst, not}
use Rattle.std.proofs.Common.{true≢false}
use Rattle.std.proofs.lemmas.Bool.{and_from, and_parts, eqb-true}
use Rattle.matchit.specs.Rows.{param_token}
use Rattle.matchit.specs.Seek.{has_slash, slash}

-- a text that a parameter takes
pub record IsPlain (text : List ℕ) : Type 0 where
  pub some : 0 < length text
  pub one_part : has_slash text ≡ false

abbrev pub AllPlain : List (List ℕ) → Type 0
AllPlain [] = Unit {0}
AllPlain (text ∷ texts) = IsPlain text × AllPlain texts

-- the text before the first slash, and the text from there on
abbrev pub before_slash : List ℕ → List ℕ
before_slash [] = []
before_slash (b ∷ path) = cond (b == slash) [] (b ∷ before_slash path)

abbrev pub from_slash : List ℕ → List ℕ
from_slash [] = []
from_slash (b ∷ path) = cond (b == slash) (b ∷ path) (from_slash path)

-- the list is empty or begins with a slash
abbrev pub is_closed : List ℕ → Bool
is_closed [] = true
is_closed (x ∷ rest) = x == slash

-- the text has a byte
abbrev pub has_some : List ℕ → Bool
has_some [] = false
has_some (b ∷ text) = true

-- the list begins with this
abbrev pub begins_with : ℕ → List ℕ → Bool
begins_with x [] = false
begins_with x (b ∷ path) = x == b

-- a byte of ASCII but the question mark
abbrev pub is_literal : ℕ → Bool
is_literal x = ltb x 128 && not (x == 63)

-- each token is such a byte, or a parameter that ends a segment
abbrev pub is_tidy : List ℕ → Bool
is_tidy [] = true
is_tidy (x ∷ pattern) = cond (x == param_token) (is_closed pattern) (is_literal x) && is_tidy pattern

-- the pattern fits the text
abbrev pub fits : List ℕ → List ℕ → Bool
fits [] [] = true
fits [] (b ∷ path) = false
fits (x ∷ pattern) path =
    cond (x == param_token) (has_some (before_slash path) && fits pattern (from_slash path))
    (begins_with x path && fits pattern (drop 1 path))

-- what the parameters take of a text that the pattern fits
abbrev pub taken : List ℕ → List ℕ → List (List ℕ)
taken [] path = []
taken (x ∷ pattern) path =
    cond (x == param_token) (before_slash path ∷ taken pattern (from_slash path))
    (taken pattern (drop 1 path))

-- the pattern with texts for its parameters
abbrev pub fill : List ℕ → List (List ℕ) → List ℕ
fill [] texts = []
fill (x ∷ pattern) texts =
    cond (x == param_token) (get_or texts 0 [] ++ fill pattern (drop 1 texts)) (x ∷ fill pattern texts)

-- how many parameters it has
abbrev pub parameter_count : List ℕ → ℕ
parameter_count [] = 0
parameter_count (x ∷ pattern) =
    cond (x == param_token) (parameter_count pattern + 1) (parameter_count pattern)

-- no text fits both patterns
abbrev pub are_apart : List ℕ → List ℕ → Bool
are_apart [] [] = false
are_apart [] (y ∷ other) = true
are_apart (x ∷ pattern) [] = true
are_apart (x ∷ pattern) (y ∷ other) =
    cond (x == param_token) (cond (y == param_token) (are_apart pattern other) false)
    (cond (y == param_token) false (cond (x == y) (are_apart pattern other) true))

-- a token is a parameter, or it isn't
pub token_cases : (P : ℕ → Type 0) → P param_token → ((x : ℕ) → (x == param_token) ≡ false → P x)
    → (x : ℕ) → P x
token_cases P parameter byte x = by (x == param_token) refl
  where
    by : (v : Bool) → (x == param_token) ≡ v → P x
    by true e = subst P (sym (eqb-true _ _ e)) parameter
    by false e = byte x e

-- ---- a text and its first slash

pub both_parts : (path : List ℕ) → before_slash path ++ from_slash path ≡ path
both_parts [] = refl
both_parts (b ∷ path) =
    elim (b == slash) as (λ v. cond v [] (b ∷ before_slash path) ++ cond v (b ∷ path) (from_slash path)
    ≡ b ∷ path) [
      | true ↦ refl
      | false ↦ ap (λ rest. b ∷ rest) (both_parts path)
    ]

pub before_slash-plain : (path : List ℕ) → has_slash (before_slash path) ≡ false
before_slash-plain [] = refl
before_slash-plain (b ∷ path) = by (b == slash) refl (before_slash-plain path)
  where
    by : (v : Bool) → (b == slash) ≡ v → has_slash (before_slash path) ≡ false
        → has_slash (cond v [] (b ∷ before_slash path)) ≡ false
    by true e more = refl
    by false e more = rw e more

pub from_slash-closed : (path : List ℕ) → is_closed (from_slash path) ≡ true
from_slash-closed [] = refl
from_slash-closed (b ∷ path) = by (b == slash) refl (from_slash-closed path)
  where
    by : (v : Bool) → (b == slash) ≡ v → is_closed (from_slash path) ≡ true
        → is_closed (cond v (b ∷ path) (from_slash path)) ≡ true
    by true e more = e
    by false e more = more

-- a text without a slash, and what is closed behind it
pub parted : (text rest : List ℕ) → has_slash text ≡ false → is_closed rest ≡ true
    → (before_slash (text ++ rest) ≡ text) × (from_slash (text ++ rest) ≡ rest)
parted [] [] plain closed = (refl, refl)
parted [] (b ∷ rest) plain closed = rw closed (refl, refl)
parted (b ∷ text) rest plain closed =
    by (b == slash) refl plain (λ more. parted text rest more closed)
  where
    by : (v : Bool) → (b == slash) ≡ v → cond v true (has_slash text) ≡ false
        → (has_slash text ≡ false
        → (before_slash (text ++ rest) ≡ text) × (from_slash (text ++ rest) ≡ rest))
        → (before_slash (b ∷ (text ++ rest)) ≡ b ∷ text) × (from_slash (b ∷ (text ++ rest)) ≡ rest)
    by true e clash more = absurd (true≢false clash)
    by false e plain more = let both = more plain in rw e (ap (λ t. b ∷ t) both.0, both.1)

-- ---- what fits is the pattern with what its parameters take

pub begins-is : (x : ℕ) (path : List ℕ) → begins_with x path ≡ true → x ∷ drop 1 path ≡ path
begins-is x [] e = absurd (cc)
begins-is x (b ∷ path) e = ap (λ y. y ∷ path) (eqb-true _ _ e)

pub filled-taken : (pattern path : List ℕ) → fits pattern path ≡ true
    → fill pattern (taken pattern path) ≡ path
filled-taken [] [] e = refl
filled-taken [] (b ∷ path) e = absurd (cc)
filled-taken (x ∷ pattern) path e =
    token_cases (λ x. fits (x ∷ pattern) path ≡ true → fill (x ∷ pattern) (taken (x ∷ pattern) path) ≡ path)
    (λ e. ap (λ rest. before_slash path ++ rest)
    (filled-taken pattern (from_slash path) (and_parts _ _ e).1) ∙ both_parts path)
    (λ x byte e. (let both = and_parts _ _ (rw byte at e) in
    rw byte (ap (λ rest. x ∷ rest) (filled-taken pattern (drop 1 path) both.1)
    ∙ begins-is x path both.0))) x e

some_length : (text : List ℕ) → has_some text ≡ true → 0 < length text
some_length [] e = absurd (cc)
some_length (b ∷ text) e = omega arith

length_some : (text : List ℕ) → 0 < length text → has_some text ≡ true
length_some [] e = absurd (omega (arith, e))
length_some (b ∷ text) e = refl

-- a parameter that takes something takes a plain text
pub plain_before : (path : List ℕ) → has_some (before_slash path) ≡ true → IsPlain (before_slash path)
plain_before path some = record { some = some_length _ some; one_part = before_slash-plain path }

pub taken-plain : (pattern path : List ℕ) → fits pattern path ≡ true → AllPlain (taken pattern path)
taken-plain [] path e = tt
taken-plain (x ∷ pattern) path e =
    token_cases (λ x. fits (x ∷ pattern) path ≡ true → AllPlain (taken (x ∷ pattern) path))
    (λ e. (let both = and_parts _ _ e in (
      plain_before path both.0,
      taken-plain pattern (from_slash path) both.1,
    )))
    (λ x byte e. rw byte (taken-plain pattern (drop 1 path) (and_parts _ _ (rw byte at e)).1)) x e

pub taken-count : (pattern path : List ℕ) → length (taken pattern path) ≡ parameter_count pattern
taken-count [] path = refl
taken-count (x ∷ pattern) path =
    token_cases (λ x. length (taken (x ∷ pattern) path) ≡ parameter_count (x ∷ pattern))
    (omega (arith, taken-count pattern (from_slash path)))
    (λ x byte. rw byte (taken-count pattern (drop 1 path))) x

-- ---- the pattern with plain texts fits, and takes them

not_parameter : (x : ℕ) → (x == slash) ≡ true → (x == param_token) ≡ false
not_parameter x e = rw (eqb-true _ _ e) refl

fill-closed : (pattern : List ℕ) (texts : List (List ℕ)) → is_closed pattern ≡ true
    → is_closed (fill pattern texts) ≡ true
fill-closed [] texts e = refl
fill-closed (x ∷ pattern) texts e = rw (not_parameter x e) e

-- what fits a closed pattern is closed
pub fits-closed : (pattern path : List ℕ) → is_closed pattern ≡ true → fits pattern path ≡ true
    → is_closed path ≡ true
fits-closed [] [] closed e = refl
fits-closed [] (b ∷ path) closed e = absurd (cc)
fits-closed (x ∷ pattern) path closed e =
    subst (λ p. is_closed p ≡ true) (filled-taken (x ∷ pattern) path e)
    (fill-closed (x ∷ pattern) (taken (x ∷ pattern) path) closed)

-- the pattern with these texts fits, and its parameters take them
abbrev pub TakesBack : List ℕ → List (List ℕ) → Type 0
TakesBack pattern texts =
    (fits pattern (fill pattern texts) ≡ true) × (taken pattern (fill pattern texts) ≡ texts)

-- by the first token
module _ (pattern : List ℕ)
    (more : (texts : List (List ℕ)) → is_tidy pattern ≡ true → AllPlain texts
    → length texts ≡ parameter_count pattern → TakesBack pattern texts)
  where
    abbrev ByFirst : ℕ → Type 0
    ByFirst x =
        (texts : List (List ℕ)) → is_tidy (x ∷ pattern) ≡ true → AllPlain texts
        → length texts ≡ parameter_count (x ∷ pattern) → TakesBack (x ∷ pattern) texts

    by_parameter : ByFirst param_token
    by_parameter [] tidy plain count = absurd (omega (arith, count))
    by_parameter (text ∷ texts) tidy plain count =
        let both = and_parts _ _ tidy in
        let rest = more texts both.1 plain.1 (omega (arith, count)) in
        let parts = parted text (fill pattern texts) plain.0.one_part (fill-closed pattern texts both.0) in
        let some = length_some text plain.0.some in
        rw (parts.0, parts.1) (and_from _ _ some rest.0, ap (λ ts. text ∷ ts) rest.1)

    by_byte : (x : ℕ) → (x == param_token) ≡ false → ByFirst x
    by_byte x byte texts tidy plain count =
        let rest = more texts (and_parts _ _ tidy).1 plain (rw byte at count) in
        let same : (x == x) ≡ true = grind arith in
        rw (byte, same) rest

pub takes_back : (pattern : List ℕ) (texts : List (List ℕ)) → is_tidy pattern ≡ true → AllPlain texts
    → length texts ≡ parameter_count pattern → TakesBack pattern texts
takes_back [] [] tidy plain count = (refl, refl)
takes_back [] (text ∷ texts) tidy plain count = absurd (omega (arith, count))
takes_back (x ∷ pattern) texts tidy plain count =
    token_cases (ByFirst pattern (takes_back pattern)) (by_parameter pattern (takes_back pattern))
    (by_byte pattern (takes_back pattern)) x texts tidy plain count

-- ---- patterns that are apart

pub fits-nothing : (x : ℕ) (pattern : List ℕ) → fits (x ∷ pattern) [] ≡ false
fits-nothing x pattern =
    token_cases (λ x. fits (x ∷ pattern) [] ≡ false) refl (λ x byte. rw byte refl) x

begins_alike : (x y : ℕ) (path : List ℕ) → begins_with x path ≡ true → begins_with y path ≡ true → x ≡ y
begins_alike x y [] e f = absurd (cc)
begins_alike x y (b ∷ path) e f = eqb-true _ _ e ∙ sym (eqb-true _ _ f)

abbrev pub AreNever : List ℕ → List ℕ → List ℕ → Type 0
AreNever pattern other path =
    are_apart pattern other ≡ true → fits pattern path ≡ true → fits other path ≡ true → ⊥

-- two patterns by their first tokens
module _ (pattern other path : List ℕ) (more : (rest : List ℕ) → AreNever pattern other rest) where
  at_parameters : AreNever (param_token ∷ pattern) (param_token ∷ other) path
  at_parameters apart e f = more (from_slash path) apart (and_parts _ _ e).1 (and_parts _ _ f).1

  at_second : (y : ℕ) → (y == param_token) ≡ false → AreNever (param_token ∷ pattern) (y ∷ other) path
  at_second y byte apart e f = true≢false (sym (rw byte at apart))

  at_first : (x : ℕ) → (x == param_token) ≡ false → AreNever (x ∷ pattern) (param_token ∷ other) path
  at_first x byte apart e f = true≢false (sym (rw byte at apart))

  at_bytes : (x y : ℕ) → (x == param_token) ≡ false → (y == param_token) ≡ false → (v : Bool) → (x == y) ≡ v
      → AreNever (x ∷ pattern) (y ∷ other) path
  at_bytes x y byte also true same apart e f =
      more (drop 1 path) (rw (byte, also, same) at apart) (and_parts _ _ (rw byte at e)).1
      (and_parts _ _ (rw also at f)).1
  at_bytes x y byte also false unlike apart e f =
      let same : x ≡ y =
      begins_alike x y path (and_parts _ _ (rw byte at e)).0 (and_parts _ _ (rw also at f)).0 in
      let test : (x == y) ≡ true = grind (arith, same) in
      true≢false (sym test ∙ unlike)

  never_first : (x y : ℕ) → AreNever (x ∷ pattern) (y ∷ other) path
  never_first x y =
      token_cases (λ x. AreNever (x ∷ pattern) (y ∷ other) path)
      (token_cases (λ y. AreNever (param_token ∷ pattern) (y ∷ other) path) at_parameters at_second y)
      (λ x byte. token_cases (λ y. AreNever (x ∷ pattern) (y ∷ other) path) (at_first x byte)
      (λ y also. at_bytes x y byte also (x == y) refl) y) x

pub never_both : (pattern other path : List ℕ) → AreNever pattern other path
never_both [] [] path apart e f = true≢false (sym apart)
never_both [] (y ∷ other) [] apart e f = true≢false (sym f ∙ fits-nothing y other)
never_both [] (y ∷ other) (b ∷ path) apart e f = true≢false (sym e)
never_both (x ∷ pattern) [] [] apart e f = true≢false (sym e ∙ fits-nothing x pattern)
never_both (x ∷ pattern) [] (b ∷ path) apart e f = true≢false (sym f)
never_both (x ∷ pattern) (y ∷ other) path apart e f =
    never_first pattern other path (never_both pattern other) x y apart e f
