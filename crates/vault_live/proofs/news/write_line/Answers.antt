use Rattle.std.proofs.Common.{subst, sym}
use Rattle.vault_live.specs.News.{line_of}
use Rattle.vault_live.specs.Told.{Tells}
use Rattle.vault_live.proofs.Telling.{told_changed, told_refused, told_set, told_unfinished, told_unread}
use Rattle.vault_live.proofs.news.write_line.Goals as goal

pub returns-in-Changed : goal.returns-in-Changed
returns-in-Changed g c =
    let old = g.W.Write.contents c.args.output.now.inner in
    let new = g.W.Write.contents c.tell.new.writer.inner in
    subst (λ news. Tells old new c.tell.new.writer.stopped (line_of news)) (sym c.in-Changed.is)
    (told_changed old new c.tell.new.writer.stopped c.in-Changed.given c.in-Changed.withdrawn
    c.in-Changed.now _ _ _ c.format.ensures.text c.format-in-Changed.ensures.text
    (rw c.seconds.ensures.value at c.format-in-Changed-2.ensures.text) c.tell.ensures)

pub returns-in-Set : goal.returns-in-Set
returns-in-Set g c =
    let old = g.W.Write.contents c.args.output.now.inner in
    let new = g.W.Write.contents c.tell-in-Set.new.writer.inner in
    subst (λ news. Tells old new c.tell-in-Set.new.writer.stopped (line_of news)) (sym c.in-Set.is)
    (told_set old new c.tell-in-Set.new.writer.stopped c.in-Set.count c.in-Set.now _ _
    c.format-in-Set.ensures.text (rw c.seconds-in-Set.ensures.value at c.format-in-Set-2.ensures.text)
    c.tell-in-Set.ensures)

pub returns-in-Refused : goal.returns-in-Refused
returns-in-Refused g c =
    let old = g.W.Write.contents c.args.output.now.inner in
    let new = g.W.Write.contents c.tell-in-Refused.new.writer.inner in
    subst (λ news. Tells old new c.tell-in-Refused.new.writer.stopped (line_of news)) (sym c.in-Refused.is)
    (told_refused old new c.tell-in-Refused.new.writer.stopped c.in-Refused.about c.in-Refused.number
    c.in-Refused.now _ _ _ c.name.ensures c.format-in-Refused.ensures.text
    (rw c.seconds-in-Refused.ensures.value at c.format-in-Refused-2.ensures.text) c.tell-in-Refused.ensures)

pub returns-in-Unread : goal.returns-in-Unread
returns-in-Unread g c =
    let old = g.W.Write.contents c.args.output.now.inner in
    let new = g.W.Write.contents c.tell-in-Unread.new.writer.inner in
    subst (λ news. Tells old new c.tell-in-Unread.new.writer.stopped (line_of news)) (sym c.in-Unread.is)
    (told_unread old new c.tell-in-Unread.new.writer.stopped c.in-Unread.about c.in-Unread.now _ _
    c.name-in-Unread.ensures
    (rw c.seconds-in-Unread.ensures.value at c.format-in-Unread.ensures.text) c.tell-in-Unread.ensures)

pub returns-in-Unfinished : goal.returns-in-Unfinished
returns-in-Unfinished g c =
    let old = g.W.Write.contents c.args.output.now.inner in
    let new = g.W.Write.contents c.tell-in-Unfinished.new.writer.inner in
    subst (λ news. Tells old new c.tell-in-Unfinished.new.writer.stopped (line_of news)) (sym c.in-Unfinished.is)
    (told_unfinished old new c.tell-in-Unfinished.new.writer.stopped c.in-Unfinished.about c.in-Unfinished.now _ _
    c.name-in-Unfinished.ensures
    (rw c.seconds-in-Unfinished.ensures.value at c.format-in-Unfinished.ensures.text) c.tell-in-Unfinished.ensures)
