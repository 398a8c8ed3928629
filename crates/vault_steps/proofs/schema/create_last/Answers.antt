use Rattle.std.proofs.Common.{◌≡◌, ◌∙◌, ◌<◌, ℕ, List, [], Bor, arith, get_or, length, map, refl, subst, sym}
use Rattle.std.proofs.lemmas.List.{get_or-map}
use Rattle.sqlite.specs.Held.{state}
use Rattle.vault_tables.proofs.LaterMaking.{later_texts}
use Rattle.vault_steps.proofs.Making.{AreMade, later_more, version_put}
use Rattle.vault_steps.proofs.schema.create_last.Goals as goal

-- a text of a list is at the same place among what the texts are
text_at : (i : ℕ) (texts : List (Bor (List ℕ))) (text : Bor (List ℕ)) → i < length texts
    → (get_or texts i text).now ≡ get_or (map (λ (t : Bor (List ℕ)). t.now) texts) i []
text_at i texts text inside = sym (get_or-map (λ (t : Bor (List ℕ)). t.now) texts i text [] inside)

pub loop-text-preserved : goal.loop-text-preserved
loop-text-preserved g c =
    let i = c.loop-text.text-index in
    let inside : i < length later_texts = omega (arith, c.loop-text-test.true) in (
      c.in_ok-step.ensures.same_reference ∙ c.loop-text.invariant.0,
      later_more i _ inside (rw (text_at i) refl) c.loop-text.invariant.1
          c.in_ok-step.ensures.steps c.in_ok-step.ensures.ran,
    )

pub returns-clause-done : goal.returns-clause-done
returns-clause-done g c =
    let all : c.loop-text.text-index ≡ length later_texts =
    omega (arith, c.loop-text-test.false, c.loop-text.auto.text-index-end) in
    let made =
    subst (AreMade (state g.S.Store c.args.tx.now.conn.now) (state g.S.Store c.loop-text.tx.conn.now)) all
    c.loop-text.invariant.1 in
    version_put c.step-2.result c.step-2.ensures.steps c.step-2.ensures.ran made.made
