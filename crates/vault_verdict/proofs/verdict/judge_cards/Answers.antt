use Rattle.std.proofs.Common.{◌≡◌, ◌∙◌, [], IfOk, Ok, Result, arith, ap, inl, inr, refl, sym}
use Rattle.sqlite.specs.Effect.{Database}
use Rattle.sqlite.specs.Held.{state}
use Rattle.sqlite.specs.State.{HasCleanDisk}
use Rattle.vault_verdict.proofs.FirstAndBehind.{all_onward, judges_same, none_of, sizes_failed}
use Rattle.vault_verdict.proofs.Results.{failed_read}
use Rattle.vault_rules.specs.HeldRows.{HoldCards}
use Rattle.vault_schema.specs.Versions.{schema_of}
use Rattle.vault_verdict.proofs.verdict.judge_cards.Given.{Over}
use Rattle.vault_verdict.proofs.verdict.judge_cards.Goals.{After-judge_behind}
use Rattle.vault_verdict.proofs.verdict.judge_cards.Goals as goal
use Rattle.vault_verdict.specs.Judging.{AllComeTo, named_rows, sizes_in}
use Rattle.vault_verdict.specs.declared.fault.OpenFault.{OpenFault}
use Rattle.vault_verdict.specs.declared.verdict.Judged.{Judged}

pub returns-in_err-olders-clause-told : goal.returns-in_err-olders-clause-told
returns-in_err-olders-clause-told g c none clean has =
    inl (failed_read c.from_residual.result _ c.from_residual.ensures.1
    (λ store. inr (inr (inl (c.in_err-olders.ensures.refused clean has store)))))

-- what came of the rows behind the cards is what comes of all
all_come : (g : Over) (c : After-judge_behind g) (whole : Result Judged OpenFault)
    → IfOk whole (λ it. it.olders.items ≡ c.in_ok-olders.field-0.olders.items)
    → c.judge_behind.result ≡ sizes_in whole → HasCleanDisk (state g.S.Store c.judge_behind.new.conn)
    → (state g.S.Store c.args.conn.now).now.schema ≡ schema_of c.args.version
    → HoldCards c.args.index.merchants.now c.args.index.cards []
    → AllComeTo g.S.Store c.args.version (named_rows c.args.versions.now c.args.index) whole c.args.conn.now
    c.judge_behind.new.conn
all_come g c whole olders sizes clean has none =
    let middle : HasCleanDisk (state g.S.Store c.cards.new.conn) =
    omega (arith, c.judge_behind.ensures.nothing_new.clean, clean) in
    let it = c.in_ok-olders.ensures.told middle has in
    let same = c.in_ok-olders.ensures.reads.kept middle has in
    let held = it.1 none in
    let there = ap (λ (d : Database). d.schema) same.0.now_is ∙ has in
    all_onward g.S.Store c.args.version c.args.conn.now c.cards.new.conn c.judge_behind.new.conn same
    (named_rows c.args.versions.now c.args.index) c.in_ok-olders.field-0.olders.items it.0 it.2 whole olders
    (judges_same g.S.Store c.args.version c.cards.new.conn c.judge_behind.new.conn _ _ _ _
    (λ j. record {
      named = record {
        versions = c.args.versions.now;
        merchants = (held.0 j).now;
        counts = (held.1 j).now;
      };
      olders = c.deref.ensures.value j;
      cards = it.0;
    })
    sizes (c.judge_behind.ensures.told it.0 held.2 clean there))

pub returns-in_err-sizes-clause-told : goal.returns-in_err-sizes-clause-told
returns-in_err-sizes-clause-told g c none clean has =
    let whole = c.from_residual-in_err-sizes.result in
    let failed = c.from_residual-in_err-sizes.ensures.1 in
    all_come g (goal.at.returns-in_err-sizes-clause-told g c).After-judge_behind whole
    (none_of whole _ _ failed) (c.in_err-sizes.was ∙ sym (sizes_failed whole _ failed)) clean has none

pub returns-clause-told : goal.returns-clause-told
returns-clause-told g c none clean has =
    all_come g (goal.at.returns-clause-told g c).After-judge_behind
    (Ok (record { sizes = c.in_ok-sizes.sizes; olders = c.in_ok-olders.field-0.olders })) refl
    c.in_ok-sizes.was clean has none
