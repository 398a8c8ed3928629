-- Sets of merchants that were put in one after the other.
use Rattle.std.proofs.Common.{◌≡◌, ℕ, ◌+◌, ◌<◌, List, length, take, get_or, ap, ◌∙◌, ◌&&◌, ◌==◌}
use Rattle.std.specs.BTreeSet.{BTreeSet}
use Rattle.std.specs.Cmp.{unsigned_tied}
use Rattle.std.specs.Ordering.{eq_by_cmp, is_eq, nat_cmp, ordering_then}
use Rattle.vault_core.specs.Keys.{bytes_cmp}
use Rattle.vault_merchants.specs.ListedMerchants.{Wanted}
use Rattle.vault_changes.proofs.Keyed.{Puts, both_equal, keyed_further}
use Rattle.vault_changes.specs.MerchantKeys.{HasMerchants, Setting, held_setting, setting_cmp}
use Rattle.vault_changes.specs.MerchantKeys.{wanted_setting}
use Rattle.vault_changes.specs.Settings.{Named, is_set}

-- numbers are the same where both pairs of them are
two_tied : (a b c d : ℕ) → is_eq (ordering_then (nat_cmp a b) (nat_cmp c d)) ≡ (a == b && c == d)
two_tied a b c d =
    both_equal (nat_cmp a b) (nat_cmp c d) ∙ (λ i. unsigned_tied a b i && unsigned_tied c d i)

-- a merchant that is held is the one that is wanted, with its lives and its lead
merchants_tied : (held : Named) (row : Wanted)
    → is_eq (setting_cmp (held_setting held) (wanted_setting row)) ≡ is_set held row
merchants_tied held row =
    let a = held_setting held in
    let b = wanted_setting row in
    let last = ordering_then (nat_cmp a.1.1.0 b.1.1.0) (nat_cmp a.1.1.1 b.1.1.1) in
    both_equal (bytes_cmp a.0 b.0) (ordering_then (nat_cmp a.1.0 b.1.0) last)
    ∙ ap (λ x. eq_by_cmp bytes_cmp a.0 b.0 && x)
    (both_equal (nat_cmp a.1.0 b.1.0) last
    ∙ (λ i. unsigned_tied a.1.0 b.1.0 i && two_tied a.1.1.0 b.1.1.0 a.1.1.1 b.1.1.1 i))

pub merchants_further : (old new : BTreeSet Setting) (held : List Named) (i : ℕ) (it : Named)
    → it ≡ get_or held i it → i < length held → Puts setting_cmp old new (held_setting it)
    → HasMerchants old (take i held) → HasMerchants new (take (i + 1) held)
merchants_further =
    keyed_further setting_cmp held_setting wanted_setting (λ row it. is_set it row) merchants_tied
