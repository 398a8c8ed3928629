use Rattle.std.proofs.Common.{◌∙◌, ap}
use Rattle.std.specs.BTreeSet.{contains}
use Rattle.vault_changes.specs.MerchantKeys.{setting_cmp}
use Rattle.vault_changes.proofs.merchant_keys.stands.Goals as goal

pub returns : goal.returns
returns c held has =
    c.contains.ensures ∙ ap (contains setting_cmp c.args.keys.now) c.wanted_key.ensures
    ∙ has c.args.row.now
