use Rattle.std.proofs.Common.{subst}
use Rattle.std.specs.FinMap as map
use Rattle.vault_core.proofs.Maps.{entry_total, entry_exact, get-insert_same}
use Rattle.vault_core.specs.Keys.{Bytes}
use Rattle.vault_store.specs.Index.{ShowsIndex}
use Rattle.vault_store.proofs.WithAt.{put_back-is}
use Rattle.vault_store.proofs.memory.entries.Entries.put_back.Goals as goal

pub returns : goal.returns
returns c F was held =
    let at : Bytes × Bytes = (c.args.merchant, c.args.token) in
    let entry = c.args.entry.now in
    record {
      rows = c.put_back.ensures entry_exact F entry was held.rows;
      index =
          subst (ShowsIndex c.follow.new.index) (put_back-is F at entry c.args.was was)
          (c.follow.ensures.shown (map.insert F at entry)
          (get-insert_same entry_total entry_exact F at entry)
          held.index);
    }
