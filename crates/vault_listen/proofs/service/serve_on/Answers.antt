use Rattle.std.proofs.Common.{◌≡◌, ◌+◌, ◌<◌, ◌++◌, ◌∷◌, [], ◌∙◌, List, None, Option, Some, ap, arith, length}
use Rattle.std.proofs.Common.{length-append}
use Rattle.std.proofs.Common.{refl, subst, sym}
use Rattle.std.proofs.lemmas.List.Elements.{All-append, All-cons, All-nil}
use Rattle.vault_engine.specs.Passing.{passage}
use Rattle.vault_store.specs.Applied.{is_broken, tables_of}
use Rattle.vault_listen.specs.Peers.{AreLinks, Link, events_of}
use Rattle.vault_listen.specs.Service.{GoesOn}
use Rattle.vault_listen.proofs.JoinedConnections.{failed_in, kept_after, unaccepted_in, undecided_after}
use Rattle.vault_listen.proofs.TimeJumps.{jumped_after}
use Rattle.vault_listen.proofs.ServedConnections.{closed_then, links_then, lost_then, none_then, told_then}
use Rattle.vault_listen.proofs.service.serve_on.Goals as goal
use Rattle.vault_listen.proofs.service.serve_on.Goals.{in-Some+in_ok-serve_link, in_default}

pub loop-init : goal.loop-init
loop-init g c = record {
  links = [];
  count = refl;
  told = none_then (g.P.Peers.tells c.args.peers.now);
  served = refl;
  on = All-nil GoesOn;
  whole = refl;
  honest = λ h. h;
}

pub loop-preserved : goal.loop-preserved
loop-preserved g c =
    let inv = c.loop.invariant in
    let honest = g.T.Tables.is_honest in
    let holds = g.T.Tables.holds in
    let leaves = g.T.Tables.leaves in
    let tells = g.P.Peers.tells in
    let remaining = g.P.Reader.Read.remaining in
    let contents = g.P.Writer.Write.contents in
    let v0 = c.args.vault.now in
    let v1 = c.loop.vault in
    elim c.match-branch-2.branch [
      | in-Some+in_ok-serve_link w ↦
          let it = w.in_ok-serve_link.ensures.served in
          let x : Link = it.0 in
          let v2 = w.serve_link.new.vault in
          let p2 = w.serve_link.new.peers in
          record {
            links = inv.links ++ Some x ∷ [];
            count = omega (arith, inv.count, length-append inv.links (Some x ∷ []));
            told = subst (λ p. (log : _) → tells c.args.peers.now log
                → tells p (log ++ events_of (inv.links ++ Some x ∷ []))) (sym w.peers-is)
                (told_then (tells c.args.peers.now) (tells c.loop.peers) (tells p2) inv.links (Some x)
                inv.told
                (closed_then remaining contents (tells c.loop.peers) (tells c.accept.new.self) (tells p2)
                c.in_ok-link.field-0 w.in-Some.link x w.in-Some.is c.in_ok-link.ensures.comes it.2));
            served = subst (λ v. AreLinks (g.K.Timekeeper.tells c.args.time.now) g.T.Tables
                (inv.links ++ Some x ∷ []) v0 v)
                (sym w.vault-is)
                (links_then (g.K.Timekeeper.tells c.args.time.now) g.T.Tables inv.links
                (Some x ∷ []) v0 v1 v2 inv.served (v2, it.1, refl));
            on = All-append GoesOn inv.links (Some x ∷ []) inv.on
                (All-cons GoesOn (Some x) [] it.3 (All-nil GoesOn));
            whole = ap is_broken w.vault-is ∙ w.in_ok-serve_link.ensures.store ∙ inv.whole;
            honest = λ h. inv.honest
                (w.serve_link.ensures.disk_honest (subst (λ v. honest (tables_of v)) w.vault-is h));
          }
      | in_default w ↦ let lost : List (Option Link) = None ∷ [] in record {
        links = inv.links ++ None ∷ [];
        count = omega (arith, inv.count, length-append inv.links lost);
        told = subst (λ p. (log : _) → tells c.args.peers.now log
            → tells p (log ++ events_of (inv.links ++ None ∷ []))) (sym w.peers-is)
            (told_then (tells c.args.peers.now) (tells c.loop.peers) (tells c.accept.new.self) inv.links None
            inv.told
            (lost_then remaining contents (tells c.loop.peers) (tells c.accept.new.self)
            c.in_ok-link.field-0 w.in_default.is c.in_ok-link.ensures.comes));
        served = subst (λ v. AreLinks (g.K.Timekeeper.tells c.args.time.now) g.T.Tables
            (inv.links ++ None ∷ []) v0 v) (sym w.vault-is)
            (links_then (g.K.Timekeeper.tells c.args.time.now) g.T.Tables inv.links
            (None ∷ []) v0 v1 v1 inv.served refl);
        on = All-append GoesOn inv.links lost inv.on (All-cons GoesOn None [] tt (All-nil GoesOn));
        whole = ap is_broken w.vault-is ∙ inv.whole;
        honest = λ h. inv.honest (subst (λ v. honest (tables_of v)) w.vault-is h);
      }
    ]

pub returns-in_err-serve_link-clause-served : goal.returns-in_err-serve_link-clause-served
returns-in_err-serve_link-clause-served g c =
    let inv = c.loop.invariant in
    let honest = g.T.Tables.is_honest in
    let holds = g.T.Tables.holds in
    let leaves = g.T.Tables.leaves in
    let tells = g.P.Peers.tells in
    let tells_at = g.K.Timekeeper.tells c.args.time.now in
    let v0 = c.args.vault.now in
    let v1 = c.loop.vault in
    let v2 = c.serve_link.new.vault in
    let p2 = c.serve_link.new.peers in
    let w = passage g.T.Tables v0 v2 in
    let it = c.in_err-serve_link.ensures.served in
    let x : Link = it.0 in
    let xs = inv.links ++ Some x ∷ [] in
    let r = c.from_residual-in_err-serve_link.result in
    let passed = c.from_residual-in_err-serve_link.ensures.1 in
    let store = c.in_err-serve_link.ensures.store.0 in
    let count : length xs ≡ c.loop.counter + 1 =
    omega (arith, inv.count, length-append inv.links (Some x ∷ [])) in (
      xs,
      failed_in tells_at c.args.connections inv.links x w r _ passed store
          (omega (arith, count, c.loop-test.true)) inv.on it.3
          (undecided_after tells_at g.T.Tables g.met.T.Tables.settled inv.links x v0 v1 v2 inv.served
          inv.on it.1 it.3),
      links_then (g.K.Timekeeper.tells c.args.time.now) g.T.Tables inv.links
          (Some x ∷ []) v0 v1 v2 inv.served (v2, it.1, refl),
      told_then (tells c.args.peers.now) (tells c.loop.peers) (tells p2) inv.links (Some x) inv.told
          (closed_then g.P.Reader.Read.remaining g.P.Writer.Write.contents (tells c.loop.peers)
          (tells c.accept.new.self) (tells p2) c.in_ok-link.field-0 c.in-Some.link x c.in-Some.is
          c.in_ok-link.ensures.comes it.2),
    )

pub returns-clause-served : goal.returns-clause-served
returns-clause-served g c =
    let inv = c.loop.invariant in (
      inv.links,
      (
        omega (arith, inv.count, c.loop-test.false, c.loop.auto.counter-end),
        inv.on,
        kept_after (g.K.Timekeeper.tells c.args.time.now) g.T.Tables g.met.T.Tables.settled inv.links
            c.args.vault.now c.loop.vault inv.served
            inv.on,
      ),
      inv.served,
      inv.told,
    )

pub returns-in_err-link-clause-served : goal.returns-in_err-link-clause-served
returns-in_err-link-clause-served g c =
    let inv = c.loop.invariant in
    let tells_at = g.K.Timekeeper.tells c.args.time.now in
    let w = passage g.T.Tables c.args.vault.now c.loop.vault in (
      inv.links,
      unaccepted_in tells_at c.args.connections inv.links w c.from_residual.result _
          c.from_residual.ensures.1 c.in_err-link.ensures.fails.0
          (omega (arith, inv.count, c.loop-test.true)) inv.on
          (kept_after tells_at g.T.Tables
          g.met.T.Tables.settled inv.links c.args.vault.now c.loop.vault inv.served inv.on),
      inv.served,
      λ log h. c.in_err-link.ensures.fails.1 _ (inv.told log h),
    )

pub returns-then-has_jumped-clause-served : goal.returns-then-has_jumped-clause-served
returns-then-has_jumped-clause-served g c =
    let inv = c.loop.invariant in
    let at = g.K.Timekeeper.tells c.args.time.now in
    let honest = g.T.Tables.is_honest in
    let holds = g.T.Tables.holds in
    let leaves = g.T.Tables.leaves in
    let tells = g.P.Peers.tells in
    let remaining = g.P.Reader.Read.remaining in
    let contents = g.P.Writer.Write.contents in
    let v0 = c.args.vault.now in
    let v1 = c.loop.vault in
    let v2 = c.match-branch-2.vault in
    let p1 = c.loop.peers in
    let p2 = c.match-branch-2.peers in
    let few : length inv.links < c.args.connections = omega (arith, inv.count, c.loop-test.true) in
    elim c.match-branch-2.branch [
      | in-Some+in_ok-serve_link w ↦
          let it = w.in_ok-serve_link.ensures.served in
          let x : Link = it.0 in
          jumped_after at g.T.Tables g.met.T.Tables.settled tells c.args.connections inv.links
          (Some x) v0 v1 v2 c.args.peers.now p1 p2 few inv.on it.3 inv.served
          (subst (λ v. AreLinks at g.T.Tables (Some x ∷ []) v1 v) (sym w.vault-is)
          (w.serve_link.new.vault, it.1, refl))
          inv.told
          (subst (λ p. (log : _) → tells p1 log → tells p (log ++ events_of (Some x ∷ [])))
          (sym w.peers-is)
          (closed_then remaining contents (tells p1) (tells c.accept.new.self)
          (tells w.serve_link.new.peers) c.in_ok-link.field-0 w.in-Some.link x w.in-Some.is
          c.in_ok-link.ensures.comes it.2))
      | in_default w ↦
          jumped_after at g.T.Tables g.met.T.Tables.settled tells c.args.connections inv.links
          None v0 v1 v2 c.args.peers.now p1 p2 few inv.on tt inv.served
          (subst (λ v. AreLinks at g.T.Tables (None ∷ []) v1 v) (sym w.vault-is) refl)
          inv.told
          (subst (λ p. (log : _) → tells p1 log → tells p (log ++ events_of (None ∷ [])))
          (sym w.peers-is)
          (lost_then remaining contents (tells p1) (tells c.accept.new.self)
          c.in_ok-link.field-0 w.in_default.is c.in_ok-link.ensures.comes))
    ]
