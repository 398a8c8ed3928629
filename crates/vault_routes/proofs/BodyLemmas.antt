-- What a value that asks for a token looks like from its members.
use Rattle.std.proofs.Common.{if◌then◌else◌, ◌≡◌, ℕ, ◌∙◌, List, [], ◌∷◌, length, map, codes, Some, None, refl}
use Rattle.std.proofs.Common.{arith, true, false, Bool, sym}
use Rattle.std.proofs.lemmas.List.{length-map}
use Rattle.std.specs.declared.alloc.Global.{Global}
use Rattle.std.specs.declared.string.String.{String}
use Rattle.std.proofs.lemmas.Bool.{eq-eqb, ne_eqb}
use Rattle.std.specs.Str.{IsUtf8, is_utf8}
use Rattle.std.proofs.lemmas.Str.{is_utf8-from_IsUtf8, IsUtf8-from_is_utf8}
use Rattle.serde_json.specs.Data.{Data, Members, null, boolean, number, string, array, object}
use Rattle.serde_json.specs.Find.{get, as_str, as_object}
use Rattle.serde_json.specs.View.{view, members_of, members_view}
use Rattle.serde_json.specs.declared.value.Value.{Value}
use Rattle.serde_json.specs.Read.{read}
use Rattle.vault_routes.specs.Body.{json_in, member_count, texts_of}

member_count-members_of : (es : List (String Global × Data)) → member_count (members_of es) ≡ length es
member_count-members_of [] = refl
member_count-members_of (e ∷ es) = let k = member_count-members_of es in omega (arith, k)

-- an object has as many members as its map has entries
pub member_count-members_view : (es : List (String Global × Value))
    → member_count (members_view es) ≡ length es
member_count-members_view es =
    member_count-members_of (map (λ m. (m.0, view m.1)) es) ∙ length-map es (λ m. (m.0, view m.1))

-- an object that has not two members asks for nothing
pub texts_of-other_count : (d : Data) (ms : Members) → Some ms ≡ as_object d → (member_count ms ≡ 2 → ⊥)
    → None ≡ texts_of d
texts_of-other_count null ms is other = refl
texts_of-other_count (boolean b) ms is other = refl
texts_of-other_count (number n) ms is other = refl
texts_of-other_count (string s) ms is other = refl
texts_of-other_count (array ds) ms is other = refl
texts_of-other_count (object ns) ms is other =
    let same : ms ≡ ns = cc in rw (sym same) (rw (ne_eqb _ _ other) refl)

-- an object with two members, of which one is the text `number` and one the text `use`
pub texts_of-both : (d x y : Data) (ms : Members) (n u : List ℕ) → Some ms ≡ as_object d → member_count ms ≡ 2
    → Some x ≡ get (codes "number") d → Some n ≡ as_str x → Some y ≡ get (codes "use") d → Some u ≡ as_str y
    → Some (n, u) ≡ texts_of d
texts_of-both null x y ms n u is two first text second usage = absurd (cc)
texts_of-both (boolean b) x y ms n u is two first text second usage = absurd (cc)
texts_of-both (number k) x y ms n u is two first text second usage = absurd (cc)
texts_of-both (string s) x y ms n u is two first text second usage = absurd (cc)
texts_of-both (array ds) x y ms n u is two first text second usage = absurd (cc)
texts_of-both (object ns) x y ms n u is two first text second usage =
    let same : ms ≡ ns = cc in
    rw (eq-eqb _ _ (rw same at two)) (rw (sym first) (rw (sym text) (rw (sym second) (rw (sym usage) refl))))

-- text that reads as a value
pub json_in-some : (bytes : List ℕ) (d : Data) → IsUtf8 bytes → read bytes ≡ Some d → json_in bytes ≡ Some d
json_in-some bytes d text reads = rw (is_utf8-from_IsUtf8 bytes text) reads

-- bytes that do not read as a value where they are text
pub json_in-none : (bytes : List ℕ) → (IsUtf8 bytes → read bytes ≡ None) → json_in bytes ≡ None
json_in-none bytes reads_none =
    by_test (is_utf8 bytes) refl (λ valid. reads_none (IsUtf8-from_is_utf8 bytes valid))
  where
    by_test : (b : Bool) → is_utf8 bytes ≡ b → (b ≡ true → read bytes ≡ None)
        → (if b then read bytes else None) ≡ None
    by_test true is h = h refl
    by_test false is h = refl
