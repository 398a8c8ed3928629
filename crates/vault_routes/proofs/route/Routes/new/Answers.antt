use Rattle.std.proofs.Common.{[], sym, ap, ◌∙◌, get_or}
use Rattle.std.proofs.lemmas.List.Sums.{fold_more}
use Rattle.vault_routes.specs.Table.{places}
use Rattle.vault_routes.specs.Templates.{with_place}
use Rattle.vault_routes.proofs.RoomLemmas.{has_room-at}
use Rattle.vault_routes.proofs.route.Routes.new.Goals as goal

pub add-requires : goal.add-requires
add-requires c =
    rw c.loop-place.invariant (has_room-at c.loop-place.place-index _ c.loop-place-test.true)

pub loop-place-preserved : goal.loop-place-preserved
loop-place-preserved c =
    c.in_ok-add.ensures
    ∙ (ap (λ rows. with_place rows (get_or places c.loop-place.place-index _)) c.loop-place.invariant
    ∙ sym (fold_more with_place [] places c.loop-place.place-index _ c.loop-place-test.true))
