use Rattle.std.proofs.Common.{arith}
use Rattle.vault_routes.proofs.BodyLemmas.{member_count-members_view, texts_of-other_count, texts_of-both}
use Rattle.vault_routes.proofs.body.asked_texts.Goals as goal

pub returns-then-len-ne2 : goal.returns-then-len-ne2
returns-then-len-ne2 c =
    let members = rw c.in_ok-members.was at c.as_object.ensures in
    let size = c.len.ensures.len in
    let other = c.if-len-ne2.true in
    let count = member_count-members_view c.in_ok-members.members.now.entries in
    texts_of-other_count _ _ members (λ two. omega (arith, size, other, count, two))

pub returns : goal.returns
returns c =
    let members = rw c.in_ok-members.was at c.as_object.ensures in
    let size = c.len.ensures.len in
    let two = c.if-len-ne2.false in
    let count = member_count-members_view c.in_ok-members.members.now.entries in
    texts_of-both _ _ _ _ _ _ members (omega (arith, size, two, count))
    (rw c.in_ok-get.was at c.get.ensures)
    (rw c.in_ok-number.was at c.as_str.ensures)
    (rw c.in_ok-get-2.was at c.get-2.ensures)
    (rw c.in_ok-usage.was at c.as_str-2.ensures)
