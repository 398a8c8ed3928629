use Rattle.std.proofs.Common.{◌<◌, ◌^◌, ap, arith, length, map, subst, sym, ◌∙◌}
use Rattle.std.proofs.lemmas.List.{take_all}
use Rattle.std.proofs.lemmas.List.Elements.{All-push}
use Rattle.std.specs.List.{All}
use Rattle.vault_core.specs.Keys.{Bytes}
use Rattle.vault_core.specs.declared.row.Entry.{Entry}
use Rattle.vault_migrate.proofs.More.{typed_more}
use Rattle.vault_migrate.specs.Typed.{old_columns, typed_columns}
use Rattle.vault_migrate.proofs.typed.typed_piece.Goals as goal

pub loop-older-preserved : goal.loop-older-preserved
loop-older-preserved c =
    let olders = c.args.olders.now in
    let i = c.loop-older.older-index in
    let inside : i < length olders =
    omega (arith, c.loop-older-test.true, c.loop-older.auto.older-index-end) in
    let held = c.loop-older.piece.items in
    let x = c.in_ok-typed.field-0 in
    let pushed = c.in_ok-add.ensures in
    let Small : Bytes × Bytes × Entry → Type 0 = λ e. e.2.expires < 2 ^ 63 in (
      typed_more olders i c.older-item.result inside c.older-item.is held x c.loop-older.invariant.0
          c.in_ok-typed.ensures.row ∙ ap (map typed_columns) (sym pushed),
      subst (All Small) (sym pushed)
          (All-push Small held x c.loop-older.invariant.1 c.in_ok-typed.ensures.small),
    )

pub returns-clause-rows : goal.returns-clause-rows
returns-clause-rows c =
    let all = c.args.olders.now in
    let last = c.loop-older.auto.older-index-end in
    let past = c.loop-older-test.false in
    let whole = take_all c.loop-older.older-index all (omega (arith, last, past)) in
    ap (map old_columns) (sym whole) ∙ c.loop-older.invariant.0
