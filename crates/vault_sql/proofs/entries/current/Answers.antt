use Rattle.std.proofs.Common.{◌≡◌, ap, option_map}
use Rattle.std.specs.FinMap as map
use Rattle.sqlite.specs.Order.{column}
use Rattle.vault_core.specs.Repeats.{current}
use Rattle.vault_core.specs.Sound.{Sound}
use Rattle.vault_core.specs.Vault.{Vault}
use Rattle.vault_core.specs.Window.{moment_at}
use Rattle.vault_schema.specs.Joined.{AreJoined, nothing_owed}
use Rattle.vault_tables.proofs.Told.{tables_so, tables_then}
use Rattle.vault_sql.proofs.Calls.{tells_of}
use Rattle.vault_sql.proofs.Current.{none_current}
use Rattle.vault_tables.proofs.CardUses.{card_first, no_card}
use Rattle.vault_sql.proofs.entries.current.Goals as goal

pub returns-in-Some : goal.returns-in-Some
returns-in-Some g c =
    let m = c.args.m.now in
    let pan = c.args.number.now in
    let cards = rw (c.merchant_text.ensures, c.as_str.ensures) at c.in_ok-rows.ensures in
    let later = rw (c.merchant_text-in-Some.ensures, c.seconds.ensures.value) at c.current_of.ensures in
    tells_of {Is = λ t found. (V : Vault) → AreJoined nothing_owed t.cards t.pointing (map.get V.entries)
    → Sound V → moment_at V m c.args.at ≡ c.args.at
    → found ≡ option_map (λ held. held.0) (current V m pan c.args.at)}
    (tables_then cards later (λ t found shows so. λ V are sound now.
    let it = card_first c.in_ok-rows.rows.items t.cards m pan c.in-Some.row.now shows
    (rw (c.deref.ensures.value) at c.in-Some.ensures.value) in
    so it.0 (ap (λ r. column r 0) it.3) V pan (record { joined = are; card = (it.1, it.2) }) sound now))
    (λ V cards pointing found are so. so V are)

pub returns : goal.returns
returns g c =
    let m = c.args.m.now in
    let pan = c.args.number.now in
    let cards = rw (c.merchant_text.ensures, c.as_str.ensures) at c.in_ok-rows.ensures in
    tells_of {Is = λ t found. (V : Vault) → AreJoined nothing_owed t.cards t.pointing (map.get V.entries)
    → Sound V → moment_at V m c.args.at ≡ c.args.at
    → found ≡ option_map (λ held. held.0) (current V m pan c.args.at)}
    (tables_so cards (λ t shows. λ V are sound now.
    none_current V t are m pan c.args.at (no_card c.in_ok-rows.rows.items t.cards m pan shows
    (rw (c.deref.ensures.value) at c.in-None.ensures.value))))
    (λ V cards pointing found are so. so V are)
