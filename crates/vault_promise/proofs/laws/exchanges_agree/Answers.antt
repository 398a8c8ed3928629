use Rattle.std.proofs.Common.{ap}
use Rattle.vault_engine.specs.Asking.{texts}
use Rattle.vault_http.specs.Exchanges.{answer_for}
use Rattle.vault_promise.proofs.Wanting.{asked_one}
use Rattle.vault_promise.proofs.laws.exchanges_agree.Goals as goal

pub returns : goal.returns
returns c xs ys a b units pairs =
    let same = asked_one xs ys a b units pairs in
    (same, λ V. ap (λ zs. texts answer_for V zs) same)
