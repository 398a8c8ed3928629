use Rattle.std.proofs.Common.{◌≡◌, ◌∙◌, Bool, cond, false, map, refl, sym, subst, true}
use Rattle.sql_tables.specs.Reading.{AreLonger, ReadsTable, TableLook}
use Rattle.vault_rules.specs.declared.rows.RawRight.{RawRight}
use Rattle.vault_schema.proofs.TablesBehind.{behind, behind_from, indexes_behind, indexes_behind_from}
use Rattle.vault_schema.proofs.TablesBehind.{schema_from}
use Rattle.vault_schema.specs.Layers.{Either, is_from}
use Rattle.vault_schema.specs.Versions.{schema_of}
use Rattle.vault_schema.specs.declared.version.Version.{Version}
use Rattle.vault_schema.specs.declared.version.Version.TheVariants.{Four}
use Rattle.vault_tables.specs.RightTexts.{with_first_end, right_values}
use Rattle.vault_tables.specs.declared.rights.TheConstants.{READ_RIGHTS}
use Rattle.vault_tables.specs.declared.rights.old.TheConstants.{READ_OLD_RIGHTS}
use Rattle.vault_verdict.proofs.whole_tables.rights.Goals as goal

-- how they are read where a version keeps them anew, or doesn't
abbrev look_by : Version → Bool → TableLook RawRight
look_by v anew = record {
  look = record {
    schema = schema_of v;
    text = cond anew READ_RIGHTS.now READ_OLD_RIGHTS.now;
    values = right_values;
  };
  full = λ db. Either anew (AreLonger 4 (db.trees 19)) (Unit {0});
  rows = λ db. cond anew (db 19) (map with_first_end (db 10));
  stands = right_values;
  id = λ raw. raw.rowid;
}

pub returns-then-is_from : goal.returns-then-is_from
returns-then-is_from g c =
    let v = c.args.version in
    let has : is_from Four v ≡ true = sym c.is_from.ensures ∙ c.if-is_from.true in
    subst (λ b. ReadsTable g.S.Store (look_by v b) c.read_all.result c.args.conn.now c.read_all.new.conn)
    (sym has)
    (rw (schema_from v Four refl has) (c.read_all.ensures (behind_from v Four) (indexes_behind_from v Four)))

pub returns-else-is_from : goal.returns-else-is_from
returns-else-is_from g c =
    let v = c.args.version in
    let none : is_from Four v ≡ false = sym c.is_from.ensures ∙ c.if-is_from.false in
    let read = c.read_all-else-is_from in
    subst (λ b. ReadsTable g.S.Store (look_by v b) read.result c.args.conn.now read.new.conn) (sym none)
    (read.ensures (behind v) (indexes_behind v))
