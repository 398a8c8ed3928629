use Rattle.std.proofs.Common.{◌≡◌, ◌∙◌, ℕ, Ok, Result, arith, inl, inr}
use Rattle.sqlite.specs.Held.{state}
use Rattle.sqlite.specs.State.{HasCleanDisk}
use Rattle.sqlite.specs.Tree.{Trees}
use Rattle.vault_schema.proofs.TablesBehind.{behind, indexes_behind, schema_is}
use Rattle.vault_verdict.proofs.Joined.{both_told, failed_as, failed_then, from_start, in_version, none_if}
use Rattle.sql_tables.proofs.Calls.{reads_then}
use Rattle.sql_tables.specs.Schema.{grown}
use Rattle.sql_tables.specs.States.{Reads}
use Rattle.sql_tables.specs.declared.fault.StoreFault.{StoreFault}
use Rattle.vault_schema.specs.Schemas.{v1}
use Rattle.vault_verdict.proofs.whole_tables.replaced.Given.{Over}
use Rattle.vault_schema.specs.declared.version.Version.{Version}
use Rattle.vault_tables.proofs.Taking.{passed}
use Rattle.vault_verdict.proofs.whole_tables.replaced.Goals.{After-any_left-3}
use Rattle.vault_verdict.proofs.whole_tables.replaced.Goals as goal
use Rattle.sql_tables.specs.Scans.{id_values}
use Rattle.sql_tables.specs.Reading.{any_left}
use Rattle.vault_verdict.specs.ReadAs.{left_in, replaced_in}
use Rattle.sql_tables.specs.Reading.{IsUnread}
use Rattle.vault_tables.specs.declared.merchants.old.TheConstants.{READ_MERCHANT_IDS}
use Rattle.vault_tables.specs.declared.rights.old.TheConstants.{READ_RIGHT_IDS}

-- the sum of the tables one by one is that of all
left_is : (v : Version) (db : Trees)
    → left_in v (any_left (db 5)) (any_left (db 1)) (any_left (db 10)) ≡ replaced_in v db
left_is v db = omega arith

-- the first two readings are one
both : (g : Over) (c : After-any_left-3 g)
    → Reads (grown v1 (behind c.args.version) (indexes_behind c.args.version))
    (let it : Result ℕ StoreFault = Ok c.in_ok-merchants.merchants in it) (state g.S.Store c.args.conn.now)
    (state g.S.Store c.any_left-2.new.conn)
both g c =
    let v = c.args.version in
    let first = c.in_ok-entries.ensures.told (behind v) (indexes_behind v) in
    let second = c.in_ok-merchants.ensures.told (behind v) (indexes_behind v) in
    reads_then first.reads first.reads.kept second.reads

pub returns-in_err-entries-clause-reads : goal.returns-in_err-entries-clause-reads
returns-in_err-entries-clause-reads g c =
    let v = c.args.version in
    in_version v
    (failed_as (c.in_err-entries.ensures.told (behind v)
    (indexes_behind v)).reads c.from_residual.ensures.0)

pub returns-in_err-entries-clause-told : goal.returns-in_err-entries-clause-told
returns-in_err-entries-clause-told g c clean has =
    none_if c.from_residual.result _ c.from_residual.ensures.0

pub returns-in_err-entries-clause-refused : goal.returns-in_err-entries-clause-refused
returns-in_err-entries-clause-refused g c clean has =
    let v = c.args.version in
    passed c.from_residual.result _ c.from_residual.ensures.1 (λ store. inl
    ((c.in_err-entries.ensures.told (behind v) (indexes_behind v)).refused clean
    (has ∙ schema_is v) store))

pub returns-in_err-merchants-clause-reads : goal.returns-in_err-merchants-clause-reads
returns-in_err-merchants-clause-reads g c =
    let v = c.args.version in
    in_version v
    (failed_then (c.in_ok-entries.ensures.told (behind v) (indexes_behind v)).reads
    (c.in_err-merchants.ensures.told (behind v) (indexes_behind v)).reads
    c.from_residual-in_err-merchants.ensures.0)

pub returns-in_err-merchants-clause-told : goal.returns-in_err-merchants-clause-told
returns-in_err-merchants-clause-told g c clean has =
    none_if c.from_residual-in_err-merchants.result _ c.from_residual-in_err-merchants.ensures.0

pub returns-in_err-merchants-clause-refused : goal.returns-in_err-merchants-clause-refused
returns-in_err-merchants-clause-refused g c clean has =
    let v = c.args.version in
    let second = c.in_err-merchants.ensures.told (behind v) (indexes_behind v) in
    let early : HasCleanDisk (state g.S.Store c.any_left.new.conn) =
    omega (arith, second.reads.clean, clean) in
    passed c.from_residual-in_err-merchants.result _ c.from_residual-in_err-merchants.ensures.1 (λ store.
    inr (inl (from_start (λ db. IsUnread g.S.Store READ_MERCHANT_IDS.now id_values db
    c.any_left-2.new.conn) (c.in_ok-entries.ensures.told (behind v) (indexes_behind v)).reads early
    (has ∙ schema_is v) (λ same. second.refused clean same store))))

pub returns-in_err-rights-clause-reads : goal.returns-in_err-rights-clause-reads
returns-in_err-rights-clause-reads g c =
    let v = c.args.version in
    in_version v
    (failed_then (both g (goal.at.returns-in_err-rights-clause-reads g c).After-any_left-3)
    (c.in_err-rights.ensures.told (behind v) (indexes_behind v)).reads
    c.from_residual-in_err-rights.ensures.0)

pub returns-in_err-rights-clause-told : goal.returns-in_err-rights-clause-told
returns-in_err-rights-clause-told g c clean has =
    none_if c.from_residual-in_err-rights.result _ c.from_residual-in_err-rights.ensures.0

pub returns-in_err-rights-clause-refused : goal.returns-in_err-rights-clause-refused
returns-in_err-rights-clause-refused g c clean has =
    let v = c.args.version in
    let third = c.in_err-rights.ensures.told (behind v) (indexes_behind v) in
    let early : HasCleanDisk (state g.S.Store c.any_left-2.new.conn) =
    omega (arith, third.reads.clean, clean) in
    passed c.from_residual-in_err-rights.result _ c.from_residual-in_err-rights.ensures.1 (λ store.
    inr (inr (from_start (λ db. IsUnread g.S.Store READ_RIGHT_IDS.now id_values db c.any_left-3.new.conn)
    (both g (goal.at.returns-in_err-rights-clause-refused g c).After-any_left-3) early (has ∙ schema_is v)
    (λ same. third.refused clean same store))))

pub returns-clause-reads : goal.returns-clause-reads
returns-clause-reads g c =
    let v = c.args.version in
    in_version v
    (both_told (both g (goal.at.returns-clause-reads g c).After-any_left-3)
    (c.in_ok-rights.ensures.told (behind v) (indexes_behind v)).reads)

pub returns-clause-told : goal.returns-clause-told
returns-clause-told g c clean has =
    let v = c.args.version in
    let first = c.in_ok-entries.ensures.told (behind v) (indexes_behind v) in
    let second = c.in_ok-merchants.ensures.told (behind v) (indexes_behind v) in
    let third = c.in_ok-rights.ensures.told (behind v) (indexes_behind v) in
    let middle : HasCleanDisk (state g.S.Store c.any_left-2.new.conn) =
    omega (arith, third.reads.clean, clean) in
    let early : HasCleanDisk (state g.S.Store c.any_left.new.conn) =
    omega (arith, second.reads.clean, middle) in
    let there = has ∙ schema_is v in
    let entries = first.told early there in
    let merchants = from_start (λ db. c.in_ok-merchants.merchants ≡ any_left (db.trees 1)) first.reads early
    there (λ same. second.told middle same) in
    let rights = from_start (λ db. c.in_ok-rights.rights ≡ any_left (db.trees 10))
    (both g (goal.at.returns-clause-told g c).After-any_left-3) middle there
    (λ same. third.told clean same) in
    c.left_in.ensures ∙ (λ i. left_in v (entries i) (merchants i) (rights i))
    ∙ left_is v (state g.S.Store c.args.conn.now).now.trees
