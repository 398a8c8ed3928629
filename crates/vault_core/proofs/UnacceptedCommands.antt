-- Commands that aren't accepted can be left out.
use Rattle.std.proofs.Common.{List, [], ◌∷◌, inl, inr, sym, ap, ◌∙◌}
use Rattle.vault_core.specs.Laws.{UnacceptedCanBeLeftOut}
use Rattle.vault_core.specs.Runs.{run}
use Rattle.vault_core.specs.Table.{after}
use Rattle.vault_core.specs.declared.command.Command.{Command}

pub left_out : UnacceptedCanBeLeftOut
left_out V [] fewer h = ap (λ (ks : List Command). run ks V) h
left_out V (c ∷ cs) fewer (inl h) = ap (run fewer) (sym h.0) ∙ left_out (after V c) cs fewer h.1
left_out V (c ∷ cs) fewer (inr h) = ap (λ (ks : List Command). run ks V) h.1 ∙ left_out (after V c) cs h.0 h.2
