use Rattle.std.proofs.Common.{◌≡◌, ◌∙◌, Bool, cond, false, map, refl, sym, subst, true}
use Rattle.sql_tables.specs.Reading.{IsAny, ReadsTable, TableLook}
use Rattle.vault_rules.specs.declared.rows.RawMerchant.{RawMerchant}
use Rattle.vault_schema.proofs.TablesBehind.{behind, behind_from, indexes_behind, indexes_behind_from}
use Rattle.vault_schema.proofs.TablesBehind.{schema_from}
use Rattle.vault_schema.specs.Layers.{is_from}
use Rattle.vault_schema.specs.Versions.{schema_of}
use Rattle.vault_schema.specs.declared.version.Version.{Version}
use Rattle.vault_schema.specs.declared.version.Version.TheVariants.{Three}
use Rattle.vault_tables.specs.MerchantTexts.{merchant_values, with_first_lead}
use Rattle.vault_tables.specs.declared.merchants.TheConstants.{READ_MERCHANTS}
use Rattle.vault_tables.specs.declared.merchants.old.TheConstants.{READ_OLD_MERCHANTS}
use Rattle.vault_verdict.proofs.whole_tables.merchants.Goals as goal

-- how they are read where a version keeps them anew, or doesn't
abbrev look_by : Version → Bool → TableLook RawMerchant
look_by v anew = record {
  look = record {
    schema = schema_of v;
    text = cond anew READ_MERCHANTS.now READ_OLD_MERCHANTS.now;
    values = merchant_values;
  };
  full = IsAny;
  rows = λ db. cond anew (db 17) (map with_first_lead (db 1));
  stands = merchant_values;
  id = λ raw. raw.rowid;
}

pub returns-then-is_from : goal.returns-then-is_from
returns-then-is_from g c =
    let v = c.args.version in
    let has : is_from Three v ≡ true = sym c.is_from.ensures ∙ c.if-is_from.true in
    subst (λ b. ReadsTable g.S.Store (look_by v b) c.read_all.result c.args.conn.now c.read_all.new.conn)
    (sym has)
    (rw (schema_from v Three refl has)
    (c.read_all.ensures (behind_from v Three) (indexes_behind_from v Three)))

pub returns-else-is_from : goal.returns-else-is_from
returns-else-is_from g c =
    let v = c.args.version in
    let none : is_from Three v ≡ false = sym c.is_from.ensures ∙ c.if-is_from.false in
    let read = c.read_all-else-is_from in
    subst (λ b. ReadsTable g.S.Store (look_by v b) read.result c.args.conn.now read.new.conn) (sym none)
    (read.ensures (behind v) (indexes_behind v))
