use Rattle.std.proofs.Common.{◌&&◌, ◌∙◌, ap, pos, nat_lt}
use Rattle.std.specs.Option.{option_map_or}
use Rattle.std.specs.Ordering.{int_eq}
use Rattle.vault_rules.specs.Index.{made_of}
use Rattle.vault_rules.specs.Lookups.{held_by, is_known}
use Rattle.vault_rules.specs.declared.rows.RawCount.{RawCount}
use Rattle.vault_rules.proofs.rules.counts.is_counted.Goals as goal

pub returns : goal.returns
returns c cards raws has known =
    let index = c.args.entries.now.index in
    let named = c.as_str-name.ensures.value in
    let held = c.held.ensures cards raws has (ap (is_known index.merchants.now) named ∙ known)
    ∙ ap (held_by raws) named in
    let made = c.made.ensures ∙ ap (made_of index.counts.now) named in
    c.are_as_many.ensures
    ∙ (λ i. int_eq (option_map_or (λ (r : RawCount). r.total) (made i) (pos 0)) (pos (held i))
    && nat_lt (held i) 1000001)
