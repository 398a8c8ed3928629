-- The routes of the service: the places, what stands at each, and what the methods ask for there.
use Rattle.std.specs.Prelude.{ℕ, List, [], ◌∷◌, ◌++◌, Bool, true, false, codes, Option, option_map, find}
use Rattle.std.specs.List.{join_by}
use Rattle.std.specs.Str.{bytes_eq}
use Rattle.vault_routes.specs.declared.table.Action.{Action}
use Rattle.vault_routes.specs.declared.table.Action.TheVariants as action
use Rattle.vault_routes.specs.declared.table.TokenAction.TheVariants as on
use Rattle.vault_routes.specs.declared.table.Place.{Place}
use Rattle.vault_routes.specs.declared.table.Place.TheVariants as place

-- a part of a template: a text, or a parameter for a merchant or a token
pub data Part : Type 0 where
  text : List ℕ → Part
  merchant : Part
  token : Part

-- a row of the table: a template, and the methods that its targets take, each with what it asks for
pub record Row : Type 0 where
  pub template : List Part
  pub methods : List (List ℕ × Action)

-- the row of a template and the methods of its targets
abbrev pub row : List Part → List (List ℕ × Action) → Row
row template methods = record { template = template; methods = methods }

-- the beginning of each template
abbrev pub at_merchant : List Part → List Part
at_merchant rest = text (codes "/v1/merchants/") ∷ merchant ∷ rest

-- the beginning of the templates of one token
abbrev pub at_token : List Part → List Part
at_token rest = at_merchant (text (codes "/tokens/") ∷ token ∷ rest)

-- the table
abbrev pub row_of : Place → Row
row_of place.Tokens = row (at_merchant (text (codes "/tokens") ∷ [])) ((codes "POST", action.Tokenize) ∷ [])
row_of place.Token =
    row (at_token [])
    ((codes "GET", action.OnToken on.View) ∷ (codes "DELETE", action.OnToken on.Purge) ∷ [])
row_of place.Number =
    row (at_token (text (codes "/number") ∷ [])) ((codes "POST", action.OnToken on.Detokenize) ∷ [])
row_of place.Revoke =
    row (at_token (text (codes "/revoke") ∷ [])) ((codes "POST", action.OnToken on.Revoke) ∷ [])
row_of place.Audit = row (at_merchant (text (codes "/audit") ∷ [])) ((codes "GET", action.Audit) ∷ [])

-- the places of the service: each has its template in the router
abbrev pub places : List Place
places = place.Tokens ∷ place.Token ∷ place.Number ∷ place.Revoke ∷ place.Audit ∷ []

-- the text of a part, with a merchant's text and a token's for the parameters
abbrev pub part_text : List ℕ → List ℕ → Part → List ℕ
part_text m t (text w) = w
part_text m t merchant = m
part_text m t token = t

-- a template with texts for its parameters
abbrev pub filled : List Part → List ℕ → List ℕ → List ℕ
filled [] m t = []
filled (p ∷ ps) m t = part_text m t p ++ filled ps m t

-- a template as `matchit` reads it
abbrev pub template_text : Place → List ℕ
template_text p = filled (row_of p).template (codes "{m}") (codes "{t}")

-- the template has a parameter for a token
abbrev pub has_token : List Part → Bool
has_token [] = false
has_token (text w ∷ ps) = has_token ps
has_token (merchant ∷ ps) = has_token ps
has_token (token ∷ ps) = true

-- the methods that the targets of a place take, as the text of an Allow field (RFC 9110, section 10.2.1)
abbrev pub methods_of : Place → List ℕ
methods_of p = join_by (λ m. m.0) (codes ", ") (row_of p).methods

-- what a method asks for at a place; methods are told apart by case (RFC 9110, section 9.1)
abbrev pub action_at : Place → List ℕ → Option Action
action_at p method = option_map (λ m. m.1) (find (λ m. bytes_eq method m.0) (row_of p).methods)
