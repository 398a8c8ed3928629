-- What a body in its plainest form asks with.
use Rattle.std.proofs.Common.{◌≡◌, ℕ, ◌≤◌, List, [], ◌∷◌, Bool, true, false, codes, Some, refl, sym, ap}
use Rattle.std.proofs.Common.{◌∙◌, arith, append_assoc, append-nil}
use Rattle.std.specs.Char.{is_ascii_digit}
use Rattle.std.specs.Int.{is_in_range}
use Rattle.std.specs.List.{list_all}
use Rattle.std.specs.Prelude.{option_and_then}
use Rattle.std.specs.Str.{IsUtf8}
use Rattle.std.proofs.lemmas.Bool.{and_parts}
use Rattle.std.proofs.Common.{leb-true}
use Rattle.json.specs.Print.{ArePrintable, escape, escape_byte, print, print_from}
use Rattle.json.specs.Json as json
use Rattle.json.specs.Tree.{json_tokens}
use Rattle.json.proofs.OnLiterals.{json_on_literals}
use Rattle.json.proofs.Printed.Strings.{escape_byte_plain}
use Rattle.json.proofs.Printed.Tokens.{tokens-print}
use Rattle.json.proofs.Printed.Trees.{value-json_tokens}
use Rattle.serde_json.specs.Data.{Data, string, object, member, no_members}
use Rattle.serde_json.specs.Read.{max_depth, of_json, read}
use Rattle.vault_routes.specs.Body.{asked_in, texts_of}
use Rattle.vault_routes.specs.Plain.{is_plain_byte, plain_body}
use Rattle.vault_routes.proofs.BodyLemmas.{json_in-some}

in_range : (low high x : ℕ) → is_in_range low high x ≡ true → (low ≤ x) × (x ≤ high)
in_range low high x is =
    let k = and_parts _ _ is in (leb-true low x k.0, leb-true x high k.1)

-- a plain byte stands for itself
plain_byte : (x : ℕ) → is_plain_byte x ≡ true → escape_byte x ≡ x ∷ []
plain_byte x is = by (is_ascii_digit x) refl
  where
    by : (b : Bool) → is_ascii_digit x ≡ b → escape_byte x ≡ x ∷ []
    by true digit =
        let r = in_range 48 57 x digit in
        escape_byte_plain x (λ e. omega (arith, e, r.0)) (λ e. omega (arith, e, r.1)) (omega (arith, r.0))
    by false none =
        let r = in_range 97 122 x (rw none at is) in
        escape_byte_plain x (λ e. omega (arith, e, r.0)) (λ e. omega (arith, e, r.0)) (omega (arith, r.0))

plain_text : (s : List ℕ) → list_all is_plain_byte s ≡ true → escape s ≡ s
plain_text [] is = refl
plain_text (x ∷ s) is =
    let k = and_parts _ _ is in rw (plain_byte x k.0) (ap (λ t. x ∷ t) (plain_text s k.1))

-- the object with these two texts, as JSON and as data
abbrev tree : List ℕ → List ℕ → json.Json
tree number usage =
    json.object (json.member (codes "number") (json.string number)
    (json.member (codes "use") (json.string usage) json.no_members))

abbrev data_of : List ℕ → List ℕ → Data
data_of number usage =
    object (member (codes "number") (string number) (member (codes "use") (string usage) no_members))

prints : (number usage : List ℕ) → escape number ≡ number → escape usage ≡ usage
    → print (json_tokens (tree number usage)) ≡ plain_body number usage
unfolding json_on_literals print_from
prints number usage same also =
    rw (same, also, append_assoc number (34 ∷ []) _, append_assoc usage (34 ∷ []) _) refl

reads : (number usage : List ℕ) → escape number ≡ number → escape usage ≡ usage
    → read (plain_body number usage) ≡ Some (data_of number usage)
unfolding ArePrintable
reads number usage same also =
    ap read (sym (prints number usage same also))
    ∙ ap (λ p. option_and_then of_json (option_and_then (λ q. json.if_last q.0 q.1) p))
    (ap (json.value max_depth)
    (tokens-print (json_tokens (tree number usage)) (tt, (tt, (tt, (tt, (tt, (tt, tt))))))
    ∙ sym (append-nil _))
    ∙ value-json_tokens (tree number usage) max_depth [] (omega arith))

-- a body in its plainest form asks with its two texts
pub plain_asks : (bytes number usage : List ℕ) → bytes ≡ plain_body number usage
    → list_all is_plain_byte number ≡ true → list_all is_plain_byte usage ≡ true → IsUtf8 bytes
    → asked_in bytes ≡ Some (number, usage)
plain_asks bytes number usage is plain also text =
    ap (λ found. option_and_then texts_of found)
    (json_in-some bytes (data_of number usage) text
    (ap read is ∙ reads number usage (plain_text number plain) (plain_text usage also)))
