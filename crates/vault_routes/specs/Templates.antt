-- The templates of the service's targets, as rows of `matchit`'s router.
use Rattle.std.specs.Prelude.{◌≡◌, [], None, Result, Ok, Err, fold}
use Rattle.matchit.specs.Order.{placed}
use Rattle.matchit.specs.Route.{Scan, parse_route}
use Rattle.matchit.specs.Router.{RouteOf, nearest, route_from}
use Rattle.matchit.specs.Rows.{RowsOf}
use Rattle.matchit.specs.declared.error.InsertError.{InsertError}
use Rattle.vault_routes.specs.Table.{places, template_text}
use Rattle.vault_routes.specs.declared.table.Place.{Place}

-- the rows with one more template, where its text reads well
abbrev pub with_read : RowsOf (RouteOf Place) → Result Scan InsertError → Place → RowsOf (RouteOf Place)
with_read rows (Ok s) p = placed (s.pattern, route_from s p) rows
with_read rows (Err e) p = rows

-- the rows with the template of one more place
abbrev pub with_place : RowsOf (RouteOf Place) → Place → RowsOf (RouteOf Place)
with_place rows p = with_read rows (parse_route (template_text p)) p

-- the templates of the service
abbrev pub templates : RowsOf (RouteOf Place)
templates = fold with_place [] places

-- the place's template reads well, and conflicts with none of the rows
abbrev pub HasRoomFor : Place → RowsOf (RouteOf Place) → Type 0
HasRoomFor p rows = (s : Scan) × (parse_route (template_text p) ≡ Ok s) × (nearest s.pattern rows ≡ None)
