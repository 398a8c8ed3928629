use Rattle.std.proofs.Common.{◌≡◌, ◌<◌, ◌+◌, List, [], ◌∷◌, ◌++◌, arith, length, map, refl, take, subst, sym}
use Rattle.std.proofs.lemmas.List.{length-map}
use Rattle.vault_core.specs.declared.command.Command.{Command}
use Rattle.vault_store.specs.Applied.{is_broken}
use Rattle.vault_changes.proofs.GivenRights.{done_then, unbroken}
use Rattle.vault_changes.proofs.Lists.{mapped_all, mapped_below, mapped_further}
use Rattle.vault_changes.specs.Carried.{IsCarriedOut}
use Rattle.vault_live.proofs.Stepping.{cut_next, kept_first, refused_next, stopped_next}
use Rattle.vault_live.proofs.first_commands.carry_first.Given.{Over}
use Rattle.vault_live.proofs.first_commands.carry_first.Goals.{After-command-ordered}
use Rattle.vault_live.proofs.first_commands.carry_first.Goals as goal

module _ (g : Over) (c : After-command-ordered g) where
  -- all commands
  abbrev cs : List Command
  cs = map (g.O.Orders.command_of c.args.orders.now) c.args.items.now

  inside : c.loop-item.item-index < length c.args.items.now
  inside = omega (arith, c.loop-item-test.true, c.loop-item.auto.item-index-end)

  below : c.loop-item.done < length cs
  below = subst (λ n. n < length cs) (sym c.loop-item.invariant.count)
      (mapped_below (g.O.Orders.command_of c.args.orders.now) c.args.items.now c.loop-item.item-index inside)

  -- those before this one, and this one
  more : take (c.loop-item.done + 1) cs ≡ take c.loop-item.done cs ++ c.command-ordered.result ∷ []
  more = subst (λ n. take (n + 1) cs ≡ take n cs ++ c.command-ordered.result ∷ [])
      (sym c.loop-item.invariant.count)
      (mapped_further (g.O.Orders.command_of c.args.orders.now) c.args.items.now c.loop-item.item-index
      c.item-item.result c.command-ordered.result c.item-item.is inside c.command-ordered.ensures)

  carried : IsCarriedOut c.command-ordered.result
  carried = mapped_all IsCarriedOut (g.O.Orders.command_of c.args.orders.now) c.args.items.now
      c.loop-item.item-index c.item-item.result c.command-ordered.result c.item-item.is inside
      c.command-ordered.ensures c.requires.carried

pub change-requires-clause-lives : goal.change-requires-clause-lives
change-requires-clause-lives g c =
    (carried g (goal.at.change-requires-clause-lives g c).After-command-ordered).lives

pub loop-item-preserved : goal.loop-item-preserved
loop-item-preserved g c =
    let it = (goal.at.loop-item-preserved g c).After-command-ordered in
    let inv = c.loop-item.invariant in
    record {
      count = omega (arith, inv.count);
      whole = unbroken (is_broken c.change.new.vault) c.in-Ok-Ok.field-0 _ c.in-Ok-Ok.ensures.broken;
      honest = λ h. inv.honest (c.in-Ok-Ok.ensures.disk_honest h);
      kept = λ V h held. done_then g.T.Tables.is_honest g.T.Tables.holds g.T.Tables.leaves c.args.vault.now
          c.loop-item.vault c.change.new.vault (cs g it) c.loop-item.done
          c.command-ordered.result (more g it) (below g it)
          c.in-Ok-Ok.ensures.disk_honest inv.kept (rw c.in-Ok-Ok.field-0-is at c.in-Ok-Ok.ensures.carried) V
          (h, held);
    }

pub returns-then-done-eq-MOST-clause-ends : goal.returns-then-done-eq-MOST-clause-ends
returns-then-done-eq-MOST-clause-ends g c = (
  omega arith,
  kept_first g.T.Tables.is_honest g.T.Tables.holds g.T.Tables.leaves c.args.vault.now c.loop-item.vault
      c.loop-item.vault (map (g.O.Orders.command_of c.args.orders.now) c.args.items.now) c.loop-item.done
      c.loop-item.invariant.kept
      g.met.T.Tables.settled,
)

pub returns-in-Ok-Err-clause-ends : goal.returns-in-Ok-Err-clause-ends
returns-in-Ok-Err-clause-ends g c =
    let it = (goal.at.returns-in-Ok-Err-clause-ends g c).After-command-ordered in (
      below g it,
      refused_next g.T.Tables.is_honest g.T.Tables.holds g.T.Tables.leaves c.args.vault.now
          c.loop-item.vault c.change.new.vault (cs g it) c.loop-item.done
          c.loop-item.invariant.kept c.command-ordered.result (more g it) c.in-Ok-Err.ensures.disk_honest
          c.in-Ok-Err.number (rw c.in-Ok-Err.field-0-is at c.in-Ok-Err.ensures.carried),
    )

pub returns-in-Err-Memory-clause-ends : goal.returns-in-Err-Memory-clause-ends
returns-in-Err-Memory-clause-ends g c =
    let it = (goal.at.returns-in-Err-Memory-clause-ends g c).After-command-ordered in (
      below g it,
      stopped_next g.T.Tables.is_honest g.T.Tables.holds g.T.Tables.leaves c.args.vault.now
          c.loop-item.vault c.change.new.vault (cs g it) c.loop-item.done
          c.loop-item.invariant.kept c.command-ordered.result (more g it) c.in-Err-Memory.ensures.disk_honest
          (rw c.in-Err-Memory.field-0-is at c.in-Err-Memory.ensures.carried),
    )

pub returns-in-Err-Store-clause-ends : goal.returns-in-Err-Store-clause-ends
returns-in-Err-Store-clause-ends g c =
    let it = (goal.at.returns-in-Err-Store-clause-ends g c).After-command-ordered in (
      below g it,
      cut_next g.T.Tables.is_honest g.T.Tables.holds g.T.Tables.leaves c.args.vault.now
          c.loop-item.vault c.change.new.vault (cs g it) c.loop-item.done
          c.loop-item.invariant.kept c.command-ordered.result (more g it) c.in-Err-Store.ensures.disk_honest
          (is_broken c.change.new.vault) refl (rw c.in-Err-Store.field-0-is at c.in-Err-Store.ensures.carried)
          (carried g it).verdict,
    )

pub returns-clause-ends : goal.returns-clause-ends
returns-clause-ends g c = (
  omega (
    arith,
    c.loop-item.invariant.count,
    c.loop-item-test.false,
    c.loop-item.auto.item-index-end,
    length-map c.args.items.now (g.O.Orders.command_of c.args.orders.now),
  ),
  kept_first g.T.Tables.is_honest g.T.Tables.holds g.T.Tables.leaves c.args.vault.now c.loop-item.vault
      c.loop-item.vault (map (g.O.Orders.command_of c.args.orders.now) c.args.items.now) c.loop-item.done
      c.loop-item.invariant.kept
      g.met.T.Tables.settled,
)
