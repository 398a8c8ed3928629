-- A write that a look spares, and one that comes after a look.
use Rattle.std.proofs.Common.{◌≡◌, ◌↔◌, Bool, IsTrue, Option, Some, Ok, Result, arith, subst, sym, false}
use Rattle.std.proofs.Common.{true≢false, None, ap, ◌∙◌}
use Rattle.sqlite.specs.State.{State, HasCleanDisk}
use Rattle.sql_tables.proofs.ByKey.{put_again}
use Rattle.sql_tables.proofs.Calls as calls
use Rattle.sql_tables.specs.Rows.{put}
use Rattle.vault_core.proofs.Finds.{some_same}
use Rattle.vault_core.specs.Keys.{Bytes, bytes_cmp}
use Rattle.vault_core.specs.declared.row.Lives.{Lives}
use Rattle.vault_schema.proofs.MerchantCodes.{merchant_coding}
use Rattle.vault_schema.proofs.Newest.{merchants_held}
use Rattle.vault_schema.specs.Stands.{newest}
use Rattle.vault_schema.specs.Versions.{Lookups, Tables, tables_of}
use Rattle.vault_tables.specs.Calls.{HasTables, Makes, TellsInside}

-- lives that a merchant has are put again, and nothing changes
pub lives_kept : {E F : Type 0} {has : Bool} {old new : State} (m : Bytes) (x : Lives)
    → TellsInside newest (let it : Result Bool E = Ok has in it)
    (λ t has. IsTrue has ↔ (t.merchants m ≡ Some x)) old new → IsTrue has
    → Makes newest (let it : Result (Unit {0}) F = Ok tt in it) (λ _. Unit {0})
    (λ h. record h { merchants = put bytes_cmp h.merchants m (Some x) }) old new
lives_kept {old = old} {new = new} m x told says = record {
  steps = told.steps;
  done = λ clean base h w can.
      let seen = told.told clean base (tables_of h w.cards w.pointing) w.has in
      let same : h.merchants ≡ put bytes_cmp h.merchants m (Some x) =
      λ i k. sym (put_again merchant_coding (merchants_held _ old.now.trees w.has.stands.rows)
      m (Some x) (seen.0.0 says) k) i in
      record {
        cards = w.cards;
        pointing = w.pointing;
        has = subst (λ (held : Bytes → Option Lives). HasTables newest new base
            (tables_of (record h { merchants = held }) w.cards w.pointing)) same seen.1;
        joined = w.joined;
      };
}

-- a step after a look
pub told_makes : {R R' R'' E E' E'' : Type 0} {x : R} {y : R'} {z : R''} {a b c : State}
    {Is : Tables → R → Type 0} {Can : Lookups → Type 0} {after : Lookups → Lookups}
    → TellsInside newest (let it : Result R E = Ok x in it) Is a b
    → Makes newest (let it : Result R' E' = Ok y in it) Can after b c
    → Makes newest (let it : Result R'' E'' = Ok z in it) Can after a c
told_makes {b = b} look step = record {
  steps = calls.steps_then look.steps step.steps;
  done = λ clean base h w can.
      let before : HasCleanDisk b = omega (arith, step.steps.clean, clean) in
      let seen = look.told before base (tables_of h w.cards w.pointing) w.has in
      step.done clean base h (record {
        cards = w.cards;
        pointing = w.pointing;
        has = seen.1;
        joined = w.joined;
      }) can;
}

-- lives that are compared with those that are there
pub same_lives : (o : Option Lives) (x y : Lives) (same : Bool) → (IsTrue same ↔ (x ≡ y)) → Some x ≡ o
    → IsTrue same ↔ (o ≡ Some y)
same_lives o x y same tests is =
    (λ says. sym is ∙ ap Some (tests.0 says), λ there. tests.1 (some_same (is ∙ there)))

-- where nothing is found, there are no lives
pub no_lives : (o : Option Lives) (y : Lives) → None ≡ o → IsTrue false ↔ (o ≡ Some y)
no_lives o y none = (
  λ says. absurd (true≢false (sym says)),
  λ there. absurd (let clash : None ≡ Some y = none ∙ there in cc),
)
