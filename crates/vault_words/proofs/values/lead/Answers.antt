use Rattle.clap.specs.Words.{found_of, rows_of}
use Rattle.vault_pan.specs.Mask.{lead_digits}
use Rattle.vault_words.proofs.Readings.{no_lead, none_found}
use Rattle.vault_words.proofs.values.lead.Goals as goal

pub returns-in_err-number : goal.returns-in_err-number
returns-in_err-number c =
    let rows = rows_of (found_of c.args.matches.now) in
    let r = c.from_residual in
    none_found r.result _ r.ensures.0
    (no_lead rows (λ none. absurd (cc (c.if-is_left_out.false, c.is_left_out.ensures.1 none)))
    (λ lead. c.in_err-number.ensures (lead_digits lead)))
