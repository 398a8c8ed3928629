use Rattle.std.proofs.Common.{◌∙◌, ap, take}
use Rattle.vault_wire.specs.ReadingMessages.{Kept, TakesIn}
use Rattle.vault_wire.proofs.ReadingFacts.{goes_on}
use Rattle.std.proofs.Common.{subst}
use Rattle.vault_wire.proofs.intake.Intake.take_behind.Goals as goal

pub returns-clause-reads : goal.returns-clause-reads
returns-clause-reads c =
    let e = c.in_ok-held.ensures.ok in
    let old : Kept =
    record { rest = take c.self.inside.len c.self.inside.bytes; fault = c.self.inside.fault } in
    let new : Kept =
    record { rest = take c.in_ok-held.held.len c.take_in.new.bytes; fault = c.in_ok-held.held.fault } in
    let none = ap (λ (k : Kept). k.fault) c.self.view_is ∙ c.requires.calm in (
      e.0,
      e.2,
      subst (λ k. TakesIn k new c.args.piece.now e.0) c.self.view_is
          (goes_on old new c.args.piece.now e.0 none e.3),
    )
