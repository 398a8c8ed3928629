-- A merchant's own row is written, of which it may be known how it was.
use Rattle.std.proofs.Common.{◌≡◌, Bool, true, false, cond, Option, Some, None, Ok, Result, ap, arith, inl}
use Rattle.std.proofs.Common.{inr}
use Rattle.std.proofs.Common.{refl, sym, subst, ◌∙◌, ℕ, IfSome, unwrap_or}
use Rattle.std.proofs.lemmas.Bool.Decides.{nat_tests}
use Rattle.std.specs.Prelude.{option_map}
use Rattle.std.specs.Ordering.{eq_by_cmp}
use Rattle.sqlite.specs.State.{State}
use Rattle.sql_tables.proofs.Calls.{on_ok}
use Rattle.sql_tables.specs.Rows.{put}
use Rattle.vault_tables.specs.Calls.{IsWithin, Makes}
use Rattle.vault_core.proofs.Maps.{bytes_exact, tied}
use Rattle.vault_core.specs.Keys.{Bytes, bytes_cmp}
use Rattle.vault_core.specs.Lives.{lives_in, row_lives}
use Rattle.vault_core.specs.Numbers.{count_number}
use Rattle.vault_core.specs.Vault.{Vault, Merchant, made_count, merchant_at}
use Rattle.vault_core.specs.Window.{row_of, row_at}
use Rattle.vault_core.specs.declared.changes.Count.TheVariants.{Made}
use Rattle.vault_core.specs.declared.row.Lives.{Lives}
use Rattle.vault_core.specs.declared.row.MerchantRow.{MerchantRow}
use Rattle.vault_tables.specs.Raising.{IsTotal}
use Rattle.vault_tables.specs.declared.counts.KnownCount.{KnownCount}
use Rattle.vault_schema.specs.Stands.{lookups_of, newest, unless_zero}
use Rattle.vault_schema.specs.Versions.{Lookups}
use Rattle.vault_schema.specs.declared.version.Version.{Version}
use Rattle.vault_sql.specs.KnownCounts.{IsMade}
use Rattle.vault_sql.specs.KnownLives.{AreThere}

-- lives that a merchant has are put again, and nothing changes
put-same : (held : Bytes → Option Lives) (m : Bytes) (x : Lives) → held m ≡ Some x
    → put bytes_cmp held m (Some x) ≡ held
put-same held m x is = λ i q. at q i
  where
    either : (b : Bool) (y : Option Lives) → y ≡ Some x → cond b (Some x) y ≡ y
    either true y same = sym same
    either false y same = refl

    at : (q : Bytes) → put bytes_cmp held m (Some x) q ≡ held q
    at q =
        elim (tied bytes_exact q m) [
          | inl same ↦ either (eq_by_cmp bytes_cmp q m) (held q) (ap held same ∙ is)
          | inr apart ↦ ap (λ b. cond b (Some x) (held q)) apart
        ]

-- where they are known to be so, no write is needed
pub spared : {E : Type 0} {st : State} (m : Bytes) (x was : Lives) → was ≡ x
    → Makes newest (let it : Result (Unit {0}) E = Ok tt in it)
    (λ h. AreThere (Some was) (h.merchants m))
    (λ h. record h { merchants = put bytes_cmp h.merchants m (Some x) }) st st
spared {st = st} m x was same = record {
  steps = record { clean = omega arith; limit = refl; left = λ clean db left. left };
  done = λ clean base h w known.
      subst (λ (held : Bytes → Option Lives). IsWithin newest st base (record h { merchants = held }))
      (sym (put-same h.merchants m x (known ∙ ap Some same))) w;
}

-- what can be done can be done where more is so
pub makes_if : {v : Version} {R E : Type 0} {result : Result R E} {Can First : Lookups → Type 0}
    {after : Lookups → Lookups} {old new : State} → Makes v result First after old new
    → ((h : Lookups) → Can h → First h) → Makes v result Can after old new
makes_if {result = result} one first = record {
  steps = one.steps;
  done = λ clean. on_ok result (one.done clean) (λ did base h w can. did base h w (first h can));
}

-- the same, answered in other words
pub makes_as : {v : Version} {R E R' E' : Type 0} {x : R} {y : R'} {Can First : Lookups → Type 0}
    {after : Lookups → Lookups} {old new : State}
    → Makes v (let it : Result R E = Ok x in it) First after old new
    → ((h : Lookups) → Can h → First h)
    → Makes v (let it : Result R' E' = Ok y in it) Can after old new
makes_as one first = record {
  steps = one.steps;
  done = λ clean base h w can. one.done clean base h w (first h can);
}

-- the lives of a merchant whose row is known
pub lives_before : (V : Vault) (m : Bytes) (row : MerchantRow) → row_at V m ≡ Some row
    → option_map lives_in (merchant_at V m) ≡ Some (row_lives row)
lives_before V m row = go (merchant_at V m)
  where
    same_some : {X : Type 0} {x y : X} → ◌≡◌ {A = Option X} (Some x) (Some y) → x ≡ y
    same_some e = cc

    go : (o : Option Merchant) → option_map (row_of V m) o ≡ Some row
        → option_map lives_in o ≡ Some (row_lives row)
    go None is = absurd (cc)
    go (Some merchant) is = ap (λ (r : MerchantRow). Some (row_lives r)) (same_some is)

-- and its count of tokens made
pub made_before : (V : Vault) (m : Bytes) (row : MerchantRow) → row_at V m ≡ Some row
    → IsTotal (lookups_of V).counts (m, count_number Made) row.made
made_before V m row = go (merchant_at V m)
  where
    back : (n : ℕ) → unwrap_or (unless_zero n) 0 ≡ n
    back n = grind (arith, nat_tests)

    go : (o : Option Merchant) → option_map (row_of V m) o ≡ Some row
        → IsTotal (lookups_of V).counts (m, count_number Made) row.made
    go None is = absurd (cc)
    go (Some merchant) is =
        back (made_count V m)
        ∙ (let same : row_of V m merchant ≡ row = cc in ap (λ (r : MerchantRow). r.made) same)

-- so what is known of it is so
pub made_known : (m : Bytes) (row : MerchantRow) (held : Bytes × ℕ → Option ℕ)
    → IsTotal held (m, count_number Made) row.made → (known : Option KnownCount)
    → IfSome known (λ count. count.total ≡ row.made) → IsMade known m held
made_known m row held is None same = tt
made_known m row held is (Some known) same = is ∙ sym same
