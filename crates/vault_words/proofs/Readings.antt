-- The values that a subcommand was given, as they are read.
use Rattle.std.proofs.Common.{◌≡◌, ◌≤◌, ◌↔◌, ℕ, codes, List, Option, Some, None, Result, Ok, Err, Bor}
use Rattle.std.proofs.Common.{Bool, true, false, sym, ◌∙◌, refl, subst, inl, inr}
use Rattle.std.specs.Bool.{Decides, IsTrue}
use Rattle.std.specs.Option.{is_some, ok_or, option_map}
use Rattle.std.specs.Prelude.{not}
use Rattle.std.specs.Result.{IsErr}
use Rattle.std.specs.Str.{bytes_eq}
use Rattle.std.proofs.lemmas.Slice.Eq.{bytes_eq-Decides}
use Rattle.std.specs.Str.Parse.{ExplainsUnsignedError, HasUnsignedDigitsIfOk, ParsesUnsigned}
use Rattle.std.specs.declared.num.ParseIntError.{ParseIntError}
use Rattle.clap.specs.Words.{ReadsOne, Row, Text, first_of, first_value, one_of, one_text, rows_of}
use Rattle.clap.specs.declared.parser.matches.Found.{Found}
use Rattle.clap.proofs.WalkLemmas.{first_value-rows, one_text-rows}
use Rattle.vault_words.specs.Digits.{IsDigitText}
use Rattle.vault_pan.specs.Mask.{lead_digits}
use Rattle.vault_pan.specs.declared.lead.Lead.{Lead}
use Rattle.vault_words.specs.WordValues.{Finds, HasConnections, HasDigits, HasFlag, HasLead, HasMaybeText}
use Rattle.vault_words.specs.WordValues.{HasMoment, HasNumber, HasPort, HasText, IsLeftOut, Writes}

-- what holds where there is no value
pub none_found : {T E : Type 0} (r : Result T E) (P : T → Type 0) → IsErr r → ((x : T) → ¬ (P x))
    → Finds r P
none_found (Ok x) P e never = absurd (cc e)
none_found (Err f) P e never = never

-- what a getter of text gives
abbrev text_of : Option (Bor Text) → Option Text
text_of r = option_map (λ s. s.now) r

-- the text of a name, as it is read
text_in : {E : Type 0} (o : Option Text) (r : Option (Bor Text)) (e : E) → text_of r ≡ o
    → Finds {T = Bor Text} {E = E} (ok_or r e) (λ s. o ≡ Some s.now)
text_in o None e is = λ text h. absurd (cc (is, h))
text_in o (Some s) e is = sym is

pub read_text : {E : Type 0} (f : Found) (id : Text) (r : Option (Bor Text)) (e : E)
    → text_of r ≡ first_value f id
    → Finds {T = Bor Text} {E = E} (ok_or r e) (λ s. HasText (rows_of f) id s.now)
read_text {E} f id r e is =
    text_in {E = E} (first_of id (rows_of f)) r e (is ∙ first_value-rows f id)

-- the text of a name, if it is there
maybe_in : (rows : List Row) (id : Text) (o : Option Text) → o ≡ first_of id rows → HasMaybeText rows id o
maybe_in rows id None is = sym is
maybe_in rows id (Some text) is = sym is

pub maybe_read : (f : Found) (id : Text) (r : Option (Bor Text)) → text_of r ≡ first_value f id
    → HasMaybeText (rows_of f) id (text_of r)
maybe_read f id r is = maybe_in (rows_of f) id (text_of r) (is ∙ first_value-rows f id)

-- a flag whose value is this text
pub flag_some : (f : Found) (id text : Text) (b : Bool) → Some text ≡ first_value f id
    → b ≡ bytes_eq text (codes "true") → HasFlag (rows_of f) id b
flag_some f id text b is test =
    by_test b (subst (λ t. Decides t (text ≡ codes "true")) (sym test) (bytes_eq-Decides text (codes "true")))
  where
    has : HasText (rows_of f) id text
    has = sym (is ∙ first_value-rows f id)

    by_test : (b : Bool) → Decides b (text ≡ codes "true") → HasFlag (rows_of f) id b
    by_test true same = subst (HasText (rows_of f) id) (same.0 refl) has
    by_test false other = λ given. absurd (cc (other.1 (cc (has, given))))

-- one that has none
pub flag_none : (f : Found) (id : Text) → None ≡ first_value f id
    → HasText (rows_of f) id (codes "true") → ⊥
flag_none f id is given = absurd (cc (is ∙ first_value-rows f id, given))

-- whether a name has no text
left_out_in : (o : Option Text) (r : Option (Bor Text)) (b : Bool) → text_of r ≡ o
    → is_some r ≡ not b → IsTrue b ↔ (o ≡ None)
left_out_in o None true is some = (λ _. sym is, λ _. refl)
left_out_in o None false is some = absurd (cc some)
left_out_in o (Some s) true is some = absurd (cc some)
left_out_in o (Some s) false is some = (λ never. absurd (cc never), λ none. absurd (cc (is, none)))

pub left_out : (f : Found) (id : Text) (r : Option (Bor Text)) (b : Bool)
    → text_of r ≡ first_value f id → is_some r ≡ not b → IsTrue b ↔ IsLeftOut (rows_of f) id
left_out f id r b is some =
    left_out_in (first_of id (rows_of f)) r b (is ∙ first_value-rows f id) some

-- the number of a name, as it is read
abbrev pub reading : Text → Option ℕ → Type 0
reading t r = ReadsOne {T = ℕ} {E = ParseIntError}
    (λ bs q. ParsesUnsigned 64 10 bs q × ExplainsUnsignedError 10 bs q × HasUnsignedDigitsIfOk bs q) t r

abbrev written_in : Option Text → ℕ → Type 0
written_in o n = (text : Text) × (o ≡ Some text) × Writes text n

number_in : {E : Type 0} (o : Option Text) (r : Option ℕ) (e : E) → (o ≡ None → r ≡ None)
    → ((t : Text) → o ≡ Some t → reading t r) → Finds {T = ℕ} {E = E} (ok_or r e) (written_in o)
number_in None r e none value = rw (none refl) (λ n h. absurd (cc (h.1)))
number_in (Some t) None e none value = λ n h.
    let refused = value t refl in
    let same : t ≡ h.0 = cc (h.1) in
    let written : Writes t n = subst (λ (text : Text). Writes text n) (sym same) h.2 in
    refused.1.0 (written.numeral, written.fits)
number_in (Some t) (Some n) e none value =
    let given = value t refl in
    (t, refl, record { numeral = given.0.0.0; fits = given.0.0.1; value = given.0.1 })

pub read_number : {E : Type 0} (f : Found) (id : Text) (r : Option ℕ) (e : E)
    → (one_text f id ≡ None → r ≡ None) → ((t : Text) → one_text f id ≡ Some t → reading t r)
    → Finds {T = ℕ} {E = E} (ok_or r e) (HasNumber (rows_of f) id)
read_number {E} f id r e none value =
    let same = one_text-rows f id in
    number_in {E = E} (one_of id (rows_of f)) r e (λ e. none (same ∙ e)) (λ t e. value t (same ∙ e))

-- no moment, where a name has a value that is no number
pub no_moment : (rows : List Row) (id : Text) → ¬ (IsLeftOut rows id)
    → ((n : ℕ) → ¬ (HasNumber rows id n)) → (moment : Option ℕ) → ¬ (HasMoment rows id moment)
no_moment rows id given never None h = given h
no_moment rows id given never (Some n) h = never n h.0

-- no lead, where --lead is there and is no lead's number
pub no_lead : (rows : List Row) → ¬ (IsLeftOut rows (codes "lead"))
    → ((lead : Lead) → ¬ (HasNumber rows (codes "lead") (lead_digits lead))) → (lead : Lead)
    → ¬ (HasLead rows lead)
no_lead rows given never lead (inl h) = given h.0
no_lead rows given never lead (inr h) = never lead h

-- no number of connections, where --connections is there and is none from 1 to 1000000
pub no_connections : (rows : List Row) → ¬ (IsLeftOut rows (codes "connections"))
    → ((n : ℕ) → HasNumber rows (codes "connections") n → 1 ≤ n → n ≤ 1000000 → ⊥) → (count : Option ℕ)
    → ¬ (HasConnections rows count)
no_connections rows given never None h = given h
no_connections rows given never (Some n) h = never n h.0 h.1 h.2

-- no port, where --port is there and is no number
pub no_port : (rows : List Row) → ¬ (IsLeftOut rows (codes "port"))
    → ((n : ℕ) → ¬ (HasNumber rows (codes "port") n)) → (port : ℕ) → ¬ (HasPort rows port)
no_port rows given never port (inl h) = given h.0
no_port rows given never port (inr h) = never port h.0

-- the digits, as they are read of a text
pub has_text : (f : Found) (id text : Text) → Some text ≡ first_value f id → HasText (rows_of f) id text
has_text f id text is = sym (is ∙ first_value-rows f id)

pub no_digits : (rows : List Row) (text : Text) → HasText rows (codes "digits") text
    → ¬ (IsDigitText text) → (digits : Option (List ℕ)) → ¬ (HasDigits rows digits)
no_digits rows text has wrong None h = absurd (cc (has, h))
no_digits rows text has wrong (Some d) h =
    let same : h.0 ≡ text = cc (h.1, has) in
    wrong (subst IsDigitText same h.2)
