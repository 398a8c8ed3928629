-- How an ordered map shows a finite map.
use Rattle.std.specs.Prelude.{◌≡◌}
use Rattle.std.specs.FinMap as map
use Rattle.std.specs.BTreeMap as rows
use Rattle.std.specs.declared.cmp.Ordering.{Ordering}

-- an ordered map gives at each key what the finite map has there, and has as many keys
pub record Shows {K X : Type 0} (cmp : K → K → Ordering) (shown : rows.BTreeMap K X)
    (held : map.FinMap cmp X) : Type 0 where
  pub at : (key : K) → rows.get cmp shown key ≡ map.get held key
  pub many : rows.btree_map_len shown ≡ map.len held
