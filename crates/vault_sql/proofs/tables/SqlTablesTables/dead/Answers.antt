use Rattle.std.proofs.Common.{◌≡◌, ◌∙◌, ap, arith, min, refl, subst, sym, take}
use Rattle.sqlite.specs.Held.{state}
use Rattle.sqlite.specs.State.{HasCleanDisk}
use Rattle.vault_core.specs.Dead.{dead_tokens}
use Rattle.vault_core.specs.Vault.{Vault}
use Rattle.vault_core.specs.Window.{moment_at}
use Rattle.vault_core.specs.declared.limit.TheConstants.{MOST_TOKENS}
use Rattle.vault_sql.proofs.Dead.{all_dead, tokens_read}
use Rattle.vault_sql.specs.Held.{AreHeld}
use Rattle.vault_sql.specs.Places.{IsPast, first_place}
use Rattle.vault_sql.proofs.Places.{first_past, still_held}
use Rattle.vault_sql.proofs.tables.SqlTablesTables.dead.Given.{Over}
use Rattle.vault_sql.proofs.tables.SqlTablesTables.dead.Goals as goal

-- the moment that was found, and the tokens that were read
listed : (g : Over) (c : goal.After-drop-found g) → HasCleanDisk (state g.S.Store c.dead_from.new.conn)
    → (V : Vault) → AreHeld c.args.self.now V → (c.in-Ok.found.0 ≡ moment_at V c.args.m c.args.now)
    × (c.in-Ok-tokens_of.tokens.items
    ≡ take (min MOST_TOKENS c.args.limit) (dead_tokens V c.args.m c.args.now))
listed g c clean V held =
    let was = held.1 (omega (arith, c.in-Ok.ensures.reads.clean, clean)) in
    let told = c.in-Ok.ensures.told clean V was.0 was.1.0 in (
      told.0,
      tokens_read c.in-Ok.found.1.items c.in-Ok-tokens_of.tokens.items _
          (rw (c.deref.ensures.value) at c.in-Ok-tokens_of.ensures) told.1,
    )

pub returns-in-Ok-tokens_of-clause-told : goal.returns-in-Ok-tokens_of-clause-told
returns-in-Ok-tokens_of-clause-told g c clean V held sound =
    (listed g c clean V held).1 ∙ all_dead V c.args.m sound c.args.now c.args.limit _ refl

pub returns-in-Ok-tokens_of-clause-kept : goal.returns-in-Ok-tokens_of-clause-kept
returns-in-Ok-tokens_of-clause-kept g c V held = (
  held.0,
  λ clean.
      let seen = listed g c clean V held in
      let first = c.place_of-self.ensures
      ∙ ap (first_place c.args.m c.in-Ok.found.0) c.deref-in-Ok-tokens_of.ensures.value
      in
      let still = (still_held c.in-Ok.ensures.reads V held).1 clean in (
        still.0,
        (
          subst (λ place. IsPast place V) (sym first)
              (first_past V c.args.m c.in-Ok.found.0 c.args.now _ c.in-Ok-tokens_of.tokens.items seen.0
              seen.1),
          still.1.1,
        ),
      ),
)
