-- A table that a version replaced by one with a column more. What was read is the newer one, or the older one
-- with a constant in that column.
use Rattle.std.proofs.Common.{◌≡◌, ℕ, Bool, true, false, List, map, cond, refl}
use Rattle.std.specs.List.Sorted.{IsPermutation}
use Rattle.sqlite.specs.Order.{Row}
use Rattle.sqlite.specs.Tree.{Trees, rowid}
use Rattle.sqlite.specs.declared.types.Value.{Value}
use Rattle.sqlite_rules.specs.Lists.{Has}
use Rattle.sql_tables.proofs.ConstantColumns.{beside, each_has, stand_narrow}
use Rattle.sql_tables.specs.Rows.{IsApart}
use Rattle.sql_tables.specs.States.{Claim}
use Rattle.sql_tables.specs.Reading.{any_left}
use Rattle.vault_schema.specs.Layers.{Either, claim_or_empty, is_from}
use Rattle.vault_schema.specs.declared.version.Version.{Version}
use Rattle.vault_verdict.proofs.Left.{none_left}
use Rattle.vault_verdict.proofs.Permuted.{apart_as}

-- what is read of the older one, the tree of the newer one, and how a row read lists its columns in each
pub record Replaced (R : Type 0) : Type 0 where
  pub since : Version
  pub older : Trees → List Row
  pub newer : ℕ
  pub wide : R → Row
  pub narrow : R → Row
  pub extra : R → Value
  pub parts : (x : R) → wide x ≡ beside (extra x) (narrow x)
  pub rowids : (x : R) → rowid (wide x) ≡ rowid (narrow x)
  pub default : Value

module _ {R : Type 0} (t : Replaced R) (v : Version) (db : Trees) where
  -- the rows as they are read
  abbrev pub rows_in : Bool → List Row
  rows_in b = cond b (db t.newer) (map (beside t.default) (t.older db))

  -- what a version says of both tables, and of what it can't hold
  pub record AreSaid (Older Newer : Claim) (Default : Type 0) : Type 0 where
    pub older : claim_or_empty (is_from t.since v) Older (t.older db)
    pub newer : is_from t.since v ≡ true → Newer (db t.newer)
    pub default : Either (is_from t.since v) (Unit {0}) Default

  -- so it is of the rows that are read
  pub said_of_read : (Older Newer : Claim) (Default : Type 0) → AreSaid Older Newer Default
      → (Default → Older (t.older db) → Newer (map (beside t.default) (t.older db)))
      → Newer (rows_in (is_from t.since v))
  said_of_read Older Newer Default it widened =
      elim (is_from t.since v) as (λ b. claim_or_empty b Older (t.older db) → (b ≡ true → Newer (db t.newer))
      → Either b (Unit {0}) Default → Newer (rows_in b)) [
        | true ↦ λ older newer default. newer refl
        | false ↦ λ older newer default. widened default older
      ] it.older it.newer it.default

  module _ (items : List R)
      (are : IsPermutation (rows_in (is_from t.since v)) (map t.wide items)) where
    -- those of the newer table were read, or those of the older one, each with the constant
    pub by_table : (P : Bool → Type 0)
        → (is_from t.since v ≡ true → IsPermutation (db t.newer) (map t.wide items) → P true)
        → (IsPermutation (t.older db) (map t.narrow items) → ((x : R) → Has items x → t.extra x ≡ t.default)
        → P false) → P (is_from t.since v)
    by_table P in_newer in_older =
        elim (is_from t.since v) as (λ b. is_from t.since v ≡ b
        → IsPermutation (rows_in b) (map t.wide items) → P b) [
          | true ↦ in_newer
          | false ↦ λ none these. in_older
              (stand_narrow t.wide t.narrow t.extra t.parts t.default (t.older db) items these)
              (each_has t.wide t.narrow t.extra t.parts t.default (t.older db) items these)
        ] refl are

    module _ (up : IsApart (map t.wide items)) where
      -- without the column, too, no rowid comes twice
      pub narrow_up : IsApart (map t.narrow items)
      narrow_up = apart_as t.wide t.narrow t.rowids items up

      -- what is said of a table is so of its rows where it is so of the rows that were read
      pub said_where_read : (Older Newer : Claim) (Default : Type 0)
          → cond (is_from t.since v) (any_left (t.older db)) 0 ≡ 0
          → (is_from t.since v ≡ true → IsPermutation (db t.newer) (map t.wide items)
          → IsApart (map t.wide items) → Newer (db t.newer))
          → (IsPermutation (t.older db) (map t.narrow items) → IsApart (map t.narrow items)
          → Older (t.older db))
          → (((x : R) → Has items x → t.extra x ≡ t.default) → Default) → AreSaid Older Newer Default
      said_where_read Older Newer Default gone in_newer in_older defaults = record {
        older = by_table (λ b. cond b (any_left (t.older db)) 0 ≡ 0 → claim_or_empty b Older (t.older db))
            (λ has these. none_left (t.older db)) (λ these each gone. in_older these narrow_up) gone;
        newer = by_table (λ b. b ≡ true → Newer (db t.newer)) (λ has these so. in_newer has these up)
            (λ these each so. absurd (let clash = so in cc));
        default = by_table (λ b. Either b (Unit {0}) Default) (λ has these. tt)
            (λ these each. defaults each);
      }
