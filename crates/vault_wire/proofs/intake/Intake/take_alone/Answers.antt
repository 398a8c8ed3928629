use Rattle.std.proofs.Common.{◌-◌, List, ◌++◌, ℕ, length, take, drop, arith, sym, subst}
use Rattle.std.proofs.lemmas.List.{length-drop, length-take}
use borrow.Rule.Slice.PartMut.{post_of}
use Rattle.vault_wire.specs.ReadingMessages.{Kept, ReadsTo, Waits}
use Rattle.vault_wire.proofs.AloneFacts.{behind, reads_as, waits}
use Rattle.vault_wire.proofs.ReadingFacts.{goes_on}
use Rattle.vault_wire.proofs.intake.Intake.take_alone.Goals as goal

pub invariant_of-self : goal.invariant_of-self
invariant_of-self c =
    let piece = c.args.piece.now in
    let at = c.in_ok-rest.rest.at in
    let is = behind piece c.copy_from_slice.new.self
    (post_of 0 (length (take (length piece - at) (drop at piece))) c.self.inside.bytes) at
    c.copy_from_slice.ensures.after in (
      omega (arith, c.requires.few, length-take (length piece - at) (drop at piece), length-drop at piece),
      subst (Waits c.in_ok-rest.rest.fault) (sym is)
          (waits (drop at piece) c.in_ok-rest.rest.fault c.in_ok-rest.ensures.ok.3.ends),
    )

pub returns-clause-reads : goal.returns-clause-reads
returns-clause-reads c =
    let e = c.in_ok-rest.ensures.ok in
    let piece = c.args.piece.now in
    let at = c.in_ok-rest.rest.at in
    let left : List ℕ = take (length piece - at) (drop at piece) in
    let bytes : List ℕ =
    c.copy_from_slice.new.self ++ post_of 0 (length left) c.self.inside.bytes in
    let is = behind piece c.copy_from_slice.new.self (post_of 0 (length left) c.self.inside.bytes) at
    c.copy_from_slice.ensures.after in
    let new : Kept = record { rest = take (length left) bytes; fault = c.in_ok-rest.rest.fault } in
    let alone : ReadsTo new.fault new.rest piece e.0 =
    subst (λ rest. ReadsTo new.fault rest piece e.0) (sym is)
    (reads_as piece (drop at piece) e.0 c.in_ok-rest.rest.fault e.3) in (
      e.0,
      e.2,
      goes_on c.args.self.now new piece e.0 c.requires.calm
          (subst (λ rest. ReadsTo new.fault new.rest (rest ++ piece) e.0) (sym c.requires.empty) alone),
    )
