use Rattle.std.proofs.Common.{◌≡◌, ap, false, refl, true}
use Rattle.vault_listen.specs.Peers.{IsClosedBy, IsLink, Link}
use Rattle.vault_listen.proofs.ServedConnections.{link_of}
use Rattle.vault_listen.proofs.service.serve_link.Given.{Over}
use Rattle.vault_listen.proofs.service.serve_link.Goals.{After-close}
use Rattle.vault_listen.proofs.service.serve_link.Goals as goal

module _ (g : Over) (c : After-close g) where
  -- the connection that was served
  abbrev x : Link
  x = record {
    came = g.P.Reader.Read.remaining c.new-reader.result.inner;
    left = g.P.Reader.Read.remaining c.serve_connection-ended.new.reader.inner;
    had = g.P.Writer.Write.contents c.new-writer.result.inner;
    sent = g.P.Writer.Write.contents c.serve_connection-ended.new.writer.inner;
    reader = c.serve_connection-ended.new.reader.stopped;
    writer = c.serve_connection-ended.new.writer.stopped;
    ended = c.serve_connection-ended.result;
  }

  served : IsLink (g.K.Timekeeper.tells c.args.time.now) g.T.Tables x c.args.vault.now
      c.serve_connection-ended.new.vault
  served =
      let e = c.serve_connection-ended in
      link_of (g.K.Timekeeper.tells c.args.time.now) g.T.Tables
      x c.args.vault.now e.new.vault c.new-reader.result.stopped c.new-writer.result.stopped
      e.ensures.own_failure.0 e.ensures.answered.0 e.ensures.answered.1 e.ensures.answered.2
      e.ensures.answered.3 c.new-reader.ensures.fresh c.new-writer.ensures.fresh e.ensures.own_failure.1
      e.ensures.trusted.disk_honest

  closed : IsClosedBy g.P.Reader.Read.remaining g.P.Writer.Write.contents (g.P.Peers.tells c.args.peers.now)
      (g.P.Peers.tells c.close.new.self) c.args.link x
  closed = record {
    gave = ap g.P.Reader.Read.remaining c.new-reader.ensures.inner;
    took = ap g.P.Writer.Write.contents c.new-writer.ensures.inner;
    closed = c.close.ensures;
  }

pub returns-then-store_failed-clause-served : goal.returns-then-store_failed-clause-served
returns-then-store_failed-clause-served g c =
    let it = (goal.at.returns-then-store_failed-clause-served g c).After-close in
    (x g it, served g it, closed g it, c.if-store_failed.ensures.0 refl)

pub returns-clause-served : goal.returns-clause-served
returns-clause-served g c =
    let it = (goal.at.returns-clause-served g c).After-close in (
      x g it,
      served g it,
      closed g it,
      λ same. let e : false ≡ true = c.if-store_failed.ensures.1 same in absurd (cc),
    )
