use Rattle.std.proofs.Common.{refl, rules}
use Rattle.std.proofs.lemmas.Fn.{always_returns_same}
use Rattle.std.specs.Prelude.{int_lt}
use Rattle.vault_verdict.proofs.RisingRowids.{tells_apart}
use Rattle.vault_verdict.proofs.apart.counts.Goals as goal

pub returns : goal.returns
returns c = tells_apart _ _ (λ m. refl) c.args.rows.now _ (c.is_sorted_by.ensures.cases
    (λ x y. int_lt x.rowid y.rowid) (always_returns_same _ _ _ (λ a r f' k. search rules)))
