use Rattle.std.proofs.Common.{◌∙◌, ◌++◌, Some, ap}
use Rattle.std.specs.Prelude.{codes}
use Rattle.std.proofs.lemmas.Slice.Eq.{strip_prefix_is, strip_suffix_is}
use Rattle.std.specs.Cmp.{unsigned_Decides}
use Rattle.vault_routes.proofs.body.parts.Goals as goal

pub returns : goal.returns
returns c =
    let first = strip_prefix_is unsigned_Decides c.args.bytes.now (codes "{\"number\":\"") (Some
    c.in_ok-rest.rest)
    c.in_ok-rest.ensures.cases in
    let next = strip_prefix_is unsigned_Decides c.split_at.result.1.now (codes "\",\"use\":\"")
    (Some c.in_ok-strip_prefix.field-0) c.in_ok-strip_prefix.ensures.cases in
    let last = strip_suffix_is unsigned_Decides c.in_ok-strip_prefix.field-0.now (codes "\"}")
    (Some c.in_ok-usage.usage) c.in_ok-usage.ensures.cases in
    first
    ∙ ap (λ text. codes "{\"number\":\"" ++ text)
    (c.split_at.ensures.by_index.0
    ∙ ap (λ text. c.split_at.result.0.now ++ text) (next ∙ ap (λ text. codes "\",\"use\":\"" ++ text) last))
