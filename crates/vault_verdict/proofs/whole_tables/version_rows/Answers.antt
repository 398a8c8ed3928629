use Rattle.sqlite.specs.Held.{state}
use Rattle.sql_tables.proofs.Reading.{reads_all}
use Rattle.vault_tables.specs.VersionTexts.{read_version_is}
use Rattle.vault_verdict.proofs.Results.{if_ok, quiet_where}
use Rattle.vault_verdict.proofs.Versioned.{is_versioned, version_of}
use Rattle.vault_verdict.proofs.whole_tables.version_rows.Goals as goal

pub returns-clause-told : goal.returns-clause-told
returns-clause-told g c clean has =
    let old = state g.S.Store c.args.conn.now in
    let s = version_of old.now.schema in
    if_ok c.shown.result (λ raws. reads_all s old (state g.S.Store c.shown.new.conn) (is_versioned _ has)
    _ _ 0 _ _ (read_version_is _ _))
    ((c.shown.ensures s (read_version_is _ _).plain).told clean (is_versioned _ has))

pub returns-clause-live : goal.returns-clause-live
returns-clause-live g c clean has =
    (c.shown.ensures _ (read_version_is _ _).plain).sound clean (is_versioned _ has)

pub returns-clause-kept : goal.returns-clause-kept
returns-clause-kept g c clean has =
    (c.shown.ensures _ (read_version_is _ _).plain).reads.kept clean (is_versioned _ has)

pub returns-clause-refused : goal.returns-clause-refused
returns-clause-refused g c clean has =
    (c.shown.ensures _ (read_version_is _ _).plain).refused clean (is_versioned _ has)

pub returns-clause-nothing_new : goal.returns-clause-nothing_new
returns-clause-nothing_new g c =
    quiet_where _ (state g.S.Store c.args.conn.now) (state g.S.Store c.shown.new.conn) (is_versioned _)
    (c.shown.ensures _ (read_version_is _ _).plain).reads
