-- What rows show, gathered in an ordered map.
use Rattle.std.specs.Prelude.{◌≡◌, List, Some}
use Rattle.std.specs.BTreeMap as tree
use Rattle.std.specs.declared.cmp.Ordering.{Ordering}
use Rattle.sqlite.specs.Order.{Row, column}
use Rattle.sqlite.specs.declared.types.Value.TheVariants.{Text}
use Rattle.sqlite_rules.specs.Lists.{Has}
use Rattle.vault_core.specs.Keys.{Bytes}

-- what the map gives at a key is what a row shows, and it gives something at what each row shows
pub record Gathers {K Y : Type 0} (cmp : K → K → Ordering) (Shows : Row → K → Y → Type 0) (rows : List Row)
    (found : tree.BTreeMap K Y) : Type 0 where
  pub from : (k : K) (y : Y) → tree.get cmp found k ≡ Some y → (r : Row) × Has rows r × Shows r k y
  pub all : (r : Row) → Has rows r
      → (k : K) × (y : Y) × Shows r k y × (z : Y) × (tree.get cmp found k ≡ Some z)

-- behind its rowid a row has a name
abbrev pub ShowsName : Row → Bytes → Unit {0} → Type 0
ShowsName row name there = column row 1 ≡ Text name
