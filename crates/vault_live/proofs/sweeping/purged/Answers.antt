use Rattle.std.proofs.Common.{◌≤◌, map, sym, subst, take}
use Rattle.std.proofs.lemmas.List.{length-map, length-take-le, take-map}
use Rattle.vault_core.specs.declared.command.Command.{Command}
use Rattle.vault_core.specs.declared.command.Command.TheVariants.{Purge}
use Rattle.vault_core.specs.Keys.{Bytes}
use Rattle.vault_live.proofs.Attending.{done_first}
use Rattle.vault_live.proofs.sweeping.purged.Goals as goal

pub returns-then-ne-clause-said : goal.returns-then-ne-clause-said
returns-then-ne-clause-said c = λ V caller tokens few done.
    let k = c.args.carried.done in
    let f : Bytes → Command = λ token. Purge caller c.args.merchant token c.args.now in (
      caller,
      take k tokens,
      take-map f k tokens,
      sym (length-take-le k tokens few),
      done_first k (map f tokens) V (subst (λ n. k ≤ n) (sym (length-map tokens f)) few) done,
    )
