use Rattle.std.proofs.Common.{ap, sym, ◌∙◌, string_bytes, bytes_eq, pos, ◌&&◌}
use Rattle.std.specs.Cmp.Lexicographic.{texts_ties}
use Rattle.std.specs.Option.{option_copied}
use Rattle.std.specs.Ordering.{int_eq}
use Rattle.vault_rules.specs.Index.{at_text}
use Rattle.vault_rules.specs.declared.rows.RawCount.{RawCount}
use Rattle.vault_rules.proofs.FirstLemmas.{first_more, first_not, and_true, and_false}
use Rattle.vault_rules.proofs.index.maps.made_by_merchant.Goals as goal
use Rattle.vault_rules.proofs.index.maps.made_by_merchant.Goals.{then-counts_made+in_ok-put_first}
use Rattle.vault_rules.proofs.index.maps.made_by_merchant.Goals.{else-counts_made}

pub loop-row-preserved : goal.loop-row-preserved
loop-row-preserved c = λ name.
    let row = c.row-item.result in
    let test = λ (r : RawCount). bytes_eq (string_bytes r.merchant) name && int_eq r.kind (pos 1) in
    elim c.if-counts_made.branch [
      | then-counts_made+in_ok-put_first w ↦
          ap (λ m. option_copied (at_text m name)) w.map-is
          ∙ first_more test c.args.counts.now c.loop-row.row-index _ _ _ _
          c.loop-row-test.true c.row-item.is
          (w.in_ok-put_first.ensures (record { ref_ptr = (0, 0); now = name }))
          (sym (texts_ties w.as_str.result.now name) ∙ ap (λ bs. bytes_eq bs name) w.as_str.ensures.value
          ∙ and_true _ _ (sym c.counts_made.ensures ∙ w.if-counts_made.true))
          (c.loop-row.invariant name)
      | else-counts_made w ↦
          ap (λ m. option_copied (at_text m name)) w.map-is
          ∙ first_not test c.args.counts.now c.loop-row.row-index row _
          c.loop-row-test.true c.row-item.is
          (and_false _ _ (sym c.counts_made.ensures ∙ w.if-counts_made.false))
          (c.loop-row.invariant name)
    ]
