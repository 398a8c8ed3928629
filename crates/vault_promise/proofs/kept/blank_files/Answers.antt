use Rattle.std.proofs.Common.{◌∙◌, arith, sym}
use Rattle.sqlite.specs.Files.{file_state}
use Rattle.sqlite.specs.State.{HasCleanDisk}
use Rattle.vault_promise.proofs.Blank.{are_blank, leaves_first}
use Rattle.vault_promise.proofs.kept.blank_files.Goals as goal

pub returns-in-Nobody : goal.returns-in-Nobody
returns-in-Nobody g c clean =
    let was : HasCleanDisk (file_state c.args.conn) = omega (arith, c.close.ensures.clean, clean) in
    let opened = c.requires was in
    let none = sym c.schema.ensures.value ∙ c.in-Nobody.ensures in
    let blank = are_blank c.args.conn opened none in (
      (file_state c.args.conn).committed.trees,
      blank,
      (c.close.ensures.after clean).first _ blank
          (leaves_first c.args.conn opened none g.met.D.Disk.seen_may_stay),
    )
