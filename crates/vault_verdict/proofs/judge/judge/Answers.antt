use Rattle.std.proofs.Common.{refl, subst}
use Rattle.vault_verdict.proofs.AllApart.{rights_as}
use Rattle.vault_verdict.proofs.Results.{same_rule}
use Rattle.vault_verdict.proofs.judge.judge.Goals as goal
use Rattle.vault_rules.specs.Rules.{IsLeastBroken}

pub returns-in-Some-clause-verdict : goal.returns-in-Some-clause-verdict
returns-in-Some-clause-verdict c rows has = record {
  sizes = tt;
  kept = tt;
  apart = tt;
  damaged = λ rule same. subst (IsLeastBroken rows) (same_rule _ _ same)
      (c.in-Some.ensures.some rows (rights_as rows _ _ _ _ _ has c.deref.ensures.value) c.in-Some.rule refl);
  shared = λ store. absurd cc;
  unbroken = λ store. absurd cc;
}
