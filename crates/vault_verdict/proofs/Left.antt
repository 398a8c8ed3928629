-- The tables that a version replaced: none of them has rows where each is as is said of it, and the other way
-- round.
use Rattle.std.proofs.Common.{◌≡◌, ◌+◌, ◌&&◌, Bool, true, false, List, [], ◌∷◌, Option, Some, None, ap}
use Rattle.std.proofs.Common.{arith, cond, refl}
use Rattle.std.proofs.lemmas.Bool.{and_parts}
use Rattle.sqlite.specs.Order.{Row}
use Rattle.sqlite.specs.Tree.{Trees}
use Rattle.sql_tables.specs.States.{Claim}
use Rattle.sql_tables.specs.Reading.{any_left}
use Rattle.vault_schema.proofs.Layers.{HoldAt, from_both}
use Rattle.vault_schema.specs.Layers.{Layer, claim_or_empty, is_from, is_past}
use Rattle.vault_schema.specs.declared.version.Version.{Version}
use Rattle.vault_verdict.specs.ReadAs.{left_at}

-- where none is left, there is none
pub none_left : (rows : List Row) → any_left rows ≡ 0 → rows ≡ []
none_left [] none = refl
none_left (r ∷ rows) none = absurd cc

-- a table comes before the version that replaces it
abbrev is_dated : Version → Option Version → Bool
is_dated since None = true
is_dated since (Some w) = is_from since w

abbrev are_dated : {T : Type 0} → List (Layer T) → Bool
are_dated [] = true
are_dated (l ∷ ls) = is_dated l.since l.till && are_dated ls

module _ (v : Version) where
  empty_where_past : (since : Version) (till : Option Version) (P : Claim) (rows : List Row)
      → is_dated since till ≡ true → (is_from since v ≡ true → claim_or_empty (is_past v till) P rows)
      → cond (is_past v till) (any_left rows) 0 ≡ 0
  empty_where_past since None P rows dated said = refl
  empty_where_past since (Some w) P rows dated said =
      elim (is_from w v) as (λ b. is_from w v ≡ b → (is_from since v ≡ true → claim_or_empty b P rows)
      → cond b (any_left rows) 0 ≡ 0) [
        | true ↦ λ past said. ap any_left (said (from_both since w v dated past))
        | false ↦ λ past said. refl
      ] refl said

  module _ {T : Type 0} (db : Trees) where
    -- where each table is as is said of it, none that was replaced has rows
    pub none_at : (held : T) (ls : List (Layer T)) → are_dated ls ≡ true → HoldAt v held db ls
        → left_at v ls db ≡ 0
    none_at held [] dated hold = refl
    none_at held (l ∷ ls) dated hold =
        let both : (is_dated l.since l.till ≡ true) × (are_dated ls ≡ true) = and_parts _ _ dated in
        (λ i. empty_where_past l.since l.till (l.claim v held) (db l.table.tree) both.0 hold.0 i
        + none_at held ls both.1 hold.1 i)

    -- each of these tables that was replaced is empty
    abbrev pub AreGone : List (Layer T) → Type 0
    AreGone [] = Unit {0}
    AreGone (l ∷ ls) = (cond (is_past v l.till) (any_left (db l.table.tree)) 0 ≡ 0) × AreGone ls

    pub gone_at : (ls : List (Layer T)) → left_at v ls db ≡ 0 → AreGone ls
    gone_at [] none = tt
    gone_at (l ∷ ls) none = (omega (arith, none), gone_at ls (omega (arith, none)))
