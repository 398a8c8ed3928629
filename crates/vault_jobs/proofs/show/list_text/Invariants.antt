use Rattle.std.proofs.Common.{◌≡◌, ◌++◌, take}
use Rattle.std.specs.List.{flat_map}
use Rattle.vault_jobs.specs.ListingLines.{merchant_line, right_line}
use Rattle.vault_jobs.proofs.show.list_text.Given as goal

abbrev pub invariant-loop-it : goal.invariant-loop-it
invariant-loop-it l = l.text.items
    ≡ flat_map (merchant_line l.form) l.merchants ++ flat_map (right_line l.form) (take l.it-index l.rights)
