-- Changes that put something at a new key add something.
use Rattle.std.proofs.Common.{◌≡◌, ℕ, true, Option, Some, None, is_some, ap, ◌∙◌}
use Rattle.std.specs.FinMap as map
use Rattle.std.specs.Option.{option_map_or}
use Rattle.vault_core.specs.Changes.{plus, with_merchant, with_entry, with_record, with_right}
use Rattle.vault_core.specs.Keys.{Bytes}
use Rattle.vault_core.specs.Vault.{Vault, merchant_at, entry_at, record_at, right_at}
use Rattle.vault_core.specs.declared.changes.Changes.{Changes}
use Rattle.vault_core.specs.declared.right.Right.{Right}
use Rattle.vault_core.specs.declared.row.Lives.{Lives}
use Rattle.vault_core.specs.declared.row.Entry.{Entry}
use Rattle.vault_core.specs.declared.row.GrantRow.{GrantRow}
use Rattle.vault_core.specs.declared.row.Record.{Record}
use Rattle.vault_core.proofs.Maps.{bytes_total, bytes_exact, entry_total, entry_exact, record_total}
use Rattle.vault_core.proofs.Maps.{record_exact, right_total, right_exact, get-insert_same}
use Rattle.vault_store.specs.Added.{AddsNothing}

-- what wasn't there and would have to be, since it is now
put_new : {X : Type 0} (old new : Option X) (x : X) → old ≡ None → (is_some new ≡ true → is_some old ≡ true)
    → new ≡ Some x → ⊥
put_new None new x none adds is = let there = adds (ap is_some is) in cc
put_new (Some y) new x none adds is = cc

pub adds_merchant : (V : Vault) (ch : Changes) (m : Bytes) (x : Lives)
    → ch.lives ≡ Some (m, x) → merchant_at V m ≡ None → AddsNothing V (plus V ch) → ⊥
adds_merchant V ch m x is none adds =
    put_new _ _ _ none (adds.merchants m)
    (ap (λ lives. map.get (with_merchant V.merchants ch.count lives) m) is
    ∙ get-insert_same bytes_total bytes_exact V.merchants m _)

pub adds_entry : (V : Vault) (ch : Changes) (x : Bytes × Bytes × Entry)
    → ch.entry ≡ Some x → entry_at V x.0 x.1 ≡ None → AddsNothing V (plus V ch) → ⊥
adds_entry V ch x is none adds =
    put_new _ _ _ none (adds.entries x.0 x.1)
    (ap (λ entry. map.get (with_entry V.entries entry) (x.0, x.1)) is
    ∙ get-insert_same entry_total entry_exact V.entries (x.0, x.1) x.2)

pub adds_record : (V : Vault) (ch : Changes) (x : Bytes × ℕ × Record)
    → ch.recorded ≡ Some x → record_at V x.0 x.1 ≡ None → AddsNothing V (plus V ch) → ⊥
adds_record V ch x is none adds =
    put_new _ _ _ none (adds.records x.0 x.1)
    (ap (λ entry. map.get (with_record V.records entry) (x.0, x.1)) is
    ∙ get-insert_same record_total record_exact V.records (x.0, x.1) x.2)

pub adds_right : (V : Vault) (ch : Changes) (x : Bytes × Bytes × Right × Option GrantRow) (row : GrantRow)
    → ch.right ≡ Some x → x.3 ≡ Some row
    → right_at V x.0 x.1 x.2 ≡ None → AddsNothing V (plus V ch) → ⊥
adds_right V ch x row is given none adds =
    let at : Bytes × (Bytes × Right) = (x.0, (x.1, x.2)) in
    put_new _ _ _ none (adds.rights x.0 x.1 x.2)
    (ap (λ right. map.get (with_right V.rights right) at) is
    ∙ ap (λ o. map.get (option_map_or (map.insert V.rights at) o (map.remove V.rights at)) at) given
    ∙ get-insert_same right_total right_exact V.rights at row)
