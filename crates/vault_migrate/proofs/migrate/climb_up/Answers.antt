use Rattle.std.proofs.Common.{arith, rules}
use Rattle.sqlite.specs.Held.{state}
use Rattle.sqlite.specs.State.{HasCleanDisk}
use Rattle.vault_core.specs.Vault.{Vault}
use Rattle.vault_migrate.proofs.Moving.{each_err, holds_sound}
use Rattle.vault_migrate.proofs.migrate.climb_up.Goals as goal
use Rattle.vault_schema.proofs.VersionLemmas.{last_commit}
use Rattle.vault_schema.specs.Holds.{HoldsIn}
use Rattle.vault_schema.specs.Stands.{lookups_of, newest}

pub returns-in-Ok-clause-moves : goal.returns-in-Ok-clause-moves
returns-in-Ok-clause-moves g c =
    let old = state g.S.Store c.args.conn.now in
    let mid = state g.S.Store c.judged.new.conn in
    let new = state g.S.Store c.climb.new.conn in
    let early : HasCleanDisk new → HasCleanDisk mid =
    λ clean. omega (arith, c.climb.ensures.clean, clean) in
    let moved : HasCleanDisk new → (V : Vault) → HoldsIn c.args.version V old → HoldsIn newest V new =
    λ clean V h. c.in-Ok.ensures.done clean (lookups_of V)
    (c.in_ok-entries.ensures.held (early clean) V h) (c.in_ok-entries.ensures.given (early clean) V h) in
    record {
      idle = search rules;
      clean = search rules;
      moved = moved;
      whole = λ clean V h db left.
          let held = moved clean V h in
          last_commit newest (lookups_of V) new db held
          (g.met.S.Store.settled c.climb.new.conn.store db held.free.is_open left);
      sound = λ clean full.
          let judged = c.in_ok-entries.ensures.sound (early clean) full in
          let it = judged.1 in
          let h = holds_sound c.args.version old mid c.is_autocommit-settled.result it judged.0
          c.is_autocommit-settled.ensures.value c.requires.idle c.requires.unlimited
          c.is_autocommit-settled.ensures.settled (c.in_ok-entries.ensures.kept (early clean) full.schema) in
          record { vault = it.vault; sound = it.sound; holds = moved clean it.vault h };
      stays = search rules;
      unwritten = search rules;
      damaged = search rules;
      wrong = search rules;
    }

pub returns-in-Ok-clause-stood : goal.returns-in-Ok-clause-stood
returns-in-Ok-clause-stood g c clean full =
    let early : HasCleanDisk (state g.S.Store c.judged.new.conn) =
    omega (arith, c.climb.ensures.clean, clean) in
    (c.in_ok-entries.ensures.sound early full).1

pub returns-in-Ok-clause-crash : goal.returns-in-Ok-clause-crash
returns-in-Ok-clause-crash g c clean V h =
    let early : HasCleanDisk (state g.S.Store c.judged.new.conn) =
    omega (arith, c.climb.ensures.clean, clean) in
    c.climb.ensures.crash clean (lookups_of V) (c.in_ok-entries.ensures.held early V h)
    (c.in_ok-entries.ensures.given early V h)

pub returns-in-Err-clause-crash : goal.returns-in-Err-clause-crash
returns-in-Err-clause-crash g c clean V h =
    let early : HasCleanDisk (state g.S.Store c.judged.new.conn) =
    omega (arith, c.climb.ensures.clean, clean) in
    c.climb.ensures.crash clean (lookups_of V) (c.in_ok-entries.ensures.held early V h)
    (c.in_ok-entries.ensures.given early V h)

pub returns-in_err-entries-clause-moves : goal.returns-in_err-entries-clause-moves
returns-in_err-entries-clause-moves g c = record {
  idle = search rules;
  clean = search rules;
  moved = search rules;
  whole = search rules;
  sound = search rules;
  stays = λ clean. each_err c.from_residual.result (λ e other V h db left.
      let old = state g.S.Store c.args.conn.now in
      last_commit c.args.version (lookups_of V) old db h
      (g.met.S.Store.settled c.args.conn.now.store db h.free.is_open
      (c.judged.ensures.nothing_new.left clean h.is.schema db left)));
  unwritten = λ clean.
      each_err c.from_residual.result (λ e other schema. c.judged.ensures.nothing_new.left clean schema);
  damaged = search rules;
  wrong = search rules;
}
