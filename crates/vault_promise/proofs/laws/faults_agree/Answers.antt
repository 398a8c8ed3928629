use Rattle.std.proofs.Common.{sym, subst, ◌∙◌}
use Rattle.vault_wire.specs.Messages.{Ends}
use Rattle.vault_wire.proofs.Unique.{one_reading}
use Rattle.vault_promise.proofs.Faults.{ends_agree}
use Rattle.vault_promise.proofs.laws.faults_agree.Goals as goal

pub returns : goal.returns
returns c bytes ms ns d e a b =
    let same =
    one_reading ms ns a.0 b.0 d e a.1.each b.1.each a.1.ends b.1.ends (sym a.1.whole ∙ b.1.whole) in
    ends_agree a.0 d e a.1.ends (subst (λ rest. Ends rest e) (sym same.1) b.1.ends)
