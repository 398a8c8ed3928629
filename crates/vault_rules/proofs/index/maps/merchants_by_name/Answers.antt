use Rattle.std.proofs.Common.{◌<◌, ap, sym, ◌∙◌, arith, length, string_bytes, bytes_eq}
use Rattle.std.specs.Cmp.Lexicographic.{texts_ties}
use Rattle.vault_rules.specs.declared.rows.RawMerchant.{RawMerchant}
use Rattle.vault_rules.proofs.FirstLemmas.{first_more}
use Rattle.vault_rules.proofs.index.maps.merchants_by_name.Goals as goal

pub loop-row-preserved : goal.loop-row-preserved
loop-row-preserved c = λ name.
    let inside : c.loop-row.row-index < length c.args.merchants.now = omega arith in
    first_more (λ (m : RawMerchant). bytes_eq (string_bytes m.name) name) c.args.merchants.now
    c.loop-row.row-index _ _ _ _
    inside c.row-item.is (c.in_ok-put_first.ensures (record { ref_ptr = (0, 0); now = name }))
    (sym (texts_ties c.as_str.result.now name) ∙ ap (λ bs. bytes_eq bs name) c.as_str.ensures.value)
    (c.loop-row.invariant name)
