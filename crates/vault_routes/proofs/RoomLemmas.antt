-- The templates of the service don't conflict.
use Rattle.std.proofs.Common.{◌≡◌, ℕ, zero, suc, ◌<◌, List, [], ◌∷◌, length, take, get_or, refl, sym, arith}
use Rattle.std.proofs.Common.{Bool, true, false, ◌&&◌, Option, Some, None, Result, Ok, Err, true≢false}
use Rattle.std.specs.Prelude.{fold, is_none}
use Rattle.std.proofs.lemmas.Bool.{and_parts}
use Rattle.matchit.proofs.OnLiterals.{matchit_on_literals}
use Rattle.matchit.specs.Route.{Scan, parse_route}
use Rattle.matchit.specs.Router.{RouteOf, nearest}
use Rattle.matchit.specs.Rows.{RowsOf}
use Rattle.matchit.specs.declared.error.InsertError.{InsertError}
use Rattle.vault_routes.specs.Table.{places, template_text}
use Rattle.vault_routes.specs.Templates.{HasRoomFor, with_place}
use Rattle.vault_routes.specs.declared.table.Place.{Place}

-- a template that was read conflicts with none of the rows
abbrev fits_in : Result Scan InsertError → RowsOf (RouteOf Place) → Bool
fits_in (Ok s) rows = is_none (nearest s.pattern rows)
fits_in (Err e) rows = false

-- each place has room behind those before it
abbrev all_fit : RowsOf (RouteOf Place) → List Place → Bool
all_fit rows [] = true
all_fit rows (p ∷ ps) = fits_in (parse_route (template_text p)) rows && all_fit (with_place rows p) ps

no_conflict : (found : Option (RouteOf Place)) → is_none found ≡ true → found ≡ None
no_conflict None e = refl
no_conflict (Some route) e = absurd (true≢false (sym e))

has_room : (read : Result Scan InsertError) (p : Place) (rows : RowsOf (RouteOf Place))
    → parse_route (template_text p) ≡ read
    → fits_in read rows ≡ true → HasRoomFor p rows
has_room (Ok s) p rows is fit = (s, is, no_conflict _ fit)
has_room (Err e) p rows is fit = absurd (true≢false (sym fit))

room_behind : (rows : RowsOf (RouteOf Place)) (ps : List Place) (i : ℕ) (d : Place)
    → all_fit rows ps ≡ true → i < length ps
    → HasRoomFor (get_or ps i d) (fold with_place rows (take i ps))
room_behind rows [] i d fit within = absurd (omega (arith, within))
room_behind rows (p ∷ ps) zero d fit within = has_room _ p rows refl (and_parts _ _ fit).0
room_behind rows (p ∷ ps) (suc i) d fit within =
    room_behind (with_place rows p) ps i d (and_parts _ _ fit).1 (omega (arith, within))

places_fit : all_fit [] places ≡ true
unfolding matchit_on_literals
places_fit = refl

-- each of the service's places has room in a router with those before it
pub has_room-at : (i : ℕ) (d : Place) → i < length places
    → HasRoomFor (get_or places i d) (fold with_place [] (take i places))
has_room-at i d within = room_behind [] places i d places_fit within
