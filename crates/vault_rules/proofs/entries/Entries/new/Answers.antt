use Rattle.std.proofs.Common.{refl, rules}
use Rattle.vault_rules.proofs.entries.Entries.new.Goals as goal

pub returns-clause-none : goal.returns-clause-none
returns-clause-none c cards held = record {
  many = refl;
  held = held;
  rowids = c.new.ensures;
  rules = c.new-2.ensures _ _;
  live = c.new-3.ensures _ _;
  tokens = c.new-4.ensures _;
  used = λ id. search rules;
}
