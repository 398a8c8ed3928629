use Rattle.std.proofs.Common.{◌≡◌, [], take}
use Rattle.std.specs.Prelude.{fold}
use Rattle.vault_routes.specs.Table.{places}
use Rattle.vault_routes.specs.Templates.{with_place}
use Rattle.vault_routes.proofs.route.Routes.new.Given as goal

abbrev pub invariant-loop-place : goal.invariant-loop-place
invariant-loop-place l = l.router ≡ fold with_place [] (take l.place-index places)
