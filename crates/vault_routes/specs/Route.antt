-- What the target of a message names.
use Rattle.std.specs.Prelude.{All, ◌≡◌, ◌↔◌, ℕ, ◌<◌, ◌==◌, Bool, true, false, List, [], length, codes, Option}
use Rattle.std.specs.Prelude.{Some, None, option_map, option_and_then, if◌then◌else◌}
use Rattle.std.specs.List.{list_any}
use Rattle.matchit.specs.Params.{named, walk}
use Rattle.matchit.specs.Router.{RouteOf}
use Rattle.matchit.specs.Seek.{first, has_slash}
use Rattle.vault_routes.specs.Table.{filled, has_token, methods_of, row_of}
use Rattle.vault_routes.specs.Templates.{templates}
use Rattle.vault_routes.specs.declared.route.Route.{Route}
use Rattle.vault_routes.specs.declared.table.Place.{Place}

-- what a target names: a place, with the texts that stand for the merchant and for the token, which is empty
-- where the place has none
pub record Target : Type 0 where
  pub place : Place
  pub merchant : List ℕ
  pub token : List ℕ

-- what a found route names
abbrev pub target_of : Route → Target
target_of route = record { place = route.place; merchant = route.merchant.now; token = route.token.now }

-- what the parameter of this name took of the target, by the template that it matched
abbrev pub parameter : List ℕ → RouteOf Place → List ℕ → Option (List ℕ)
parameter name found target = named name (walk found.pattern found.text target found.names 0 0)

-- the text, or the empty one
abbrev pub text_or_empty : Option (List ℕ) → List ℕ
text_or_empty None = []
text_or_empty (Some text) = text

-- what a place names with a merchant's text and maybe a token's
abbrev pub target_at : Place → Option (List ℕ) → List ℕ → Target
target_at p t m = record { place = p; merchant = m; token = text_or_empty t }

-- what a template names at a target
abbrev pub target_by : RouteOf Place → List ℕ → Option Target
target_by found target =
    option_map (target_at found.value (parameter (codes "t") found target))
    (parameter (codes "m") found target)

-- the text has a question mark
abbrev pub has_query : List ℕ → Bool
has_query text = list_any (λ b. b == 63) text

-- what a target names: what the first template that `matchit` finds for it says; a target with `?` names
-- nothing
abbrev pub route_of : List ℕ → Option Target
route_of target =
    if has_query target then None
    else option_and_then (λ found. target_by found target) (first templates target)

-- the methods that a target takes, where it names something
abbrev pub methods_at : List ℕ → Option (List ℕ)
methods_at target = option_map (λ (w : Target). methods_of w.place) (route_of target)

-- a text that stands for a parameter: not empty, and without `/` and `?`
pub record IsParameter (text : List ℕ) : Type 0 where
  pub some : 0 < length text
  pub one_part : has_slash text ≡ false
  pub no_query : has_query text ≡ false

-- the target is the place's template with these texts for its parameters
pub record IsTargetOf (w : Target) (target : List ℕ) : Type 0 where
  pub text : target ≡ filled (row_of w.place).template w.merchant w.token
  pub merchant : IsParameter w.merchant
  pub token : has_token (row_of w.place).template ≡ true → IsParameter w.token
  pub no_token : has_token (row_of w.place).template ≡ false → w.token ≡ []

-- a list of bytes names exactly what it is the target of
abbrev pub NamesItsTarget : Type 0
NamesItsTarget =
    (target : List ℕ) (w : Target) → All (λ b. b < 256) target
    → (route_of target ≡ Some w) ↔ IsTargetOf w target
