use Rattle.std.proofs.Common.{◌≡◌, ◌∙◌, sym, ap, [], ◌∷◌, drop}
use Rattle.sqlite.specs.Order.{Row}
use Rattle.sqlite.specs.declared.types.Value.{Value}
use Rattle.vault_tables.proofs.Taking.{passed}
use Rattle.vault_tables.proofs.entries.EntriesRaw.read.Goals as goal

left : (old new rest : Row) (v w : Value) → old ≡ v ∷ new → old ≡ w ∷ rest → new ≡ rest
left old new rest v w read same = ap (drop 1) (sym read ∙ same)

pub returns-in_err-next-8-clause-refused : goal.returns-in_err-next-8-clause-refused
returns-in_err-next-8-clause-refused c =
    passed c.from_residual-in_err-next-8.result _ c.from_residual-in_err-next-8.ensures.1
    (λ store raw same. c.in_err-next-8.ensures.refused store raw.revoked []
    (left _ _ _ _ _ c.in_ok-next-7.ensures.value (left _ _ _ _ _ c.in_ok-next-6.ensures.value
    (left _ _ _ _ _ c.in_ok-next-5.ensures.value (left _ _ _ _ _ c.in_ok-next-4.ensures.value
    (left _ _ _ _ _ c.in_ok-next-3.ensures.value (left _ _ _ _ _ c.in_ok-next-2.ensures.value
    (left _ _ _ _ _ c.in_ok-next.ensures.value (c.of-columns.ensures ∙ same)))))))))
