-- Two vaults that change together at one merchant: what they agree on they still agree on, and nothing else
-- changes.
use Rattle.std.proofs.Common.{◌≡◌, ◌≢◌, ℕ, ◌+◌, ◌≤◌, Bool, true, false, cond, Option, Some}
use Rattle.std.proofs.Common.{None, is_some, refl, sym, ap, ◌∙◌, arith}
use Rattle.std.specs.FinMap as map
use Rattle.std.specs.Option.{option_map_or}
use Rattle.std.specs.Ordering.{eq_by_cmp}
use Rattle.vault_core.specs.Isolation.{AgreeAt, AgreeFor}
use Rattle.vault_core.specs.Keys.{Bytes, right_cmp}
use Rattle.vault_core.specs.Vault.{Vault, Merchant, lasts}
use Rattle.vault_core.specs.declared.right.Right.{Right}
use Rattle.vault_core.specs.declared.row.Entry.{Entry}
use Rattle.vault_core.specs.declared.row.GrantRow.{GrantRow}
use Rattle.vault_core.specs.declared.row.Record.{Record}
use Rattle.vault_core.proofs.AgreeingVaults.{agree-refl, agree-trans}
use Rattle.vault_core.proofs.Maps.{bytes_total, bytes_exact, entry_total, entry_exact, record_total}
use Rattle.vault_core.proofs.Maps.{record_exact, right_total, right_exact, untied, get-insert_both}
use Rattle.vault_core.proofs.Maps.{get-insert_other}

-- V and W become V' and W' by the same change of a merchant's rows and of one caller's records
pub record Together (m : Bytes) (writer : Option Bytes) (V W V' W' : Vault) : Type 0 where
  pub rows : AgreeAt m V W → AgreeAt m V' W'
  pub records : (caller : Bytes) → AgreeFor caller V W → AgreeFor caller V' W'
  pub fewer : AgreeAt m V W → map.len W.merchants ≤ map.len V.merchants
      → map.len W'.merchants ≤ map.len V'.merchants
  pub others : (other : Bytes) → other ≢ m → AgreeAt other V V'
  pub unwritten : (other : Bytes) → writer ≢ Some other → AgreeFor other V V'
  pub grows : map.len V.merchants ≤ map.len V'.merchants

pub nothing : (m : Bytes) (writer : Option Bytes) (V W : Vault) → Together m writer V W V W
nothing m writer V W = record {
  rows = λ a. a;
  records = λ caller a. a;
  fewer = λ a le. le;
  others = λ other apart. agree-refl other V;
  unwritten = λ other apart request. refl;
  grows = omega arith;
}

pub and_then : {m : Bytes} {writer : Option Bytes} {V W V' W' V'' W'' : Vault}
    → Together m writer V W V' W' → Together m writer V' W' V'' W'' → Together m writer V W V'' W''
and_then s t = record {
  rows = λ a. t.rows (s.rows a);
  records = λ caller a. t.records caller (s.records caller a);
  fewer = λ a le. t.fewer (s.rows a) (s.fewer a le);
  others = λ other apart. agree-trans (s.others other apart) (t.others other apart);
  unwritten = λ other apart request. s.unwritten other apart request ∙ t.unwritten other apart request;
  grows = omega (arith, s.grows, t.grows);
}

-- whether a right that is found is there at a moment
abbrev has_at : ℕ → Option GrantRow → Bool
has_at at found = option_map_or (λ g. lasts g at) found false

-- the same change of two that are there at the same moments
same_at : (at : ℕ) (b : Bool) (x o p : Option GrantRow) → has_at at o ≡ has_at at p
    → has_at at (cond b x o) ≡ has_at at (cond b x p)
same_at at true x o p e = refl
same_at at false x o p e = e

-- a right at another merchant
other_right : (caller : Bytes) (right : Right) (m other : Bytes) → other ≢ m → (c : Bytes) (r : Right)
    → eq_by_cmp right_cmp (c, (other, r)) (caller, (m, right)) ≡ false
other_right caller right m other apart c r =
    untied right_exact (c, (other, r)) (caller, (m, right)) (λ same. apart (ap (λ k. k.1.0) same))

module _ (m : Bytes) (writer : Option Bytes) (V W : Vault) where
  -- the merchant's row is set
  pub set_row : (merchant : Merchant)
      → Together m writer V W
      (record V { merchants = map.insert V.merchants m merchant })
      (record W { merchants = map.insert W.merchants m merchant })
  set_row merchant = record {
    rows = λ a. record {
      merchant = get-insert_both bytes_total V.merchants W.merchants m merchant m a.merchant;
      entries = a.entries;
      rights = a.rights;
    };
    records = λ caller a. a;
    fewer = λ a le. still_fewer (map.len V.merchants) (map.len W.merchants) (map.contains_key V.merchants m)
        (map.contains_key W.merchants m)
        _ _ (ap is_some a.merchant) le (map.len-insert bytes_total V.merchants m merchant)
        (map.len-insert bytes_total W.merchants m merchant);
    others = λ other apart. record {
      merchant = sym (get-insert_other bytes_total bytes_exact V.merchants m merchant other
          (untied bytes_exact other m apart));
      entries = λ token. refl;
      rights = λ caller right at. refl;
    };
    unwritten = λ other apart request. refl;
    grows = at_least (map.len V.merchants) (map.contains_key V.merchants m) _
        (map.len-insert bytes_total V.merchants m merchant);
  }
    where
      still_fewer : (v w : ℕ) (b c : Bool) (v' w' : ℕ) → b ≡ c → w ≤ v → v' ≡ cond b v (v + 1)
          → w' ≡ cond c w (w + 1) → w' ≤ v'
      still_fewer v w true true v' w' same le e f = omega arith
      still_fewer v w false false v' w' same le e f = omega arith
      still_fewer v w true false v' w' same le e f = absurd (cc)
      still_fewer v w false true v' w' same le e f = absurd (cc)

      at_least : (v : ℕ) (b : Bool) (v' : ℕ) → v' ≡ cond b v (v + 1) → v ≤ v'
      at_least v true v' e = omega arith
      at_least v false v' e = omega arith

  -- an entry of the merchant is set
  pub set_entry : (token : Bytes) (entry : Entry)
      → Together m writer V W
      (record V { entries = map.insert V.entries (m, token) entry })
      (record W { entries = map.insert W.entries (m, token) entry })
  set_entry token entry = record {
    rows = λ a. record {
      merchant = a.merchant;
      entries = λ t. get-insert_both entry_total V.entries W.entries (m, token) entry (m, t) (a.entries t);
      rights = a.rights;
    };
    records = λ caller a. a;
    fewer = λ a le. le;
    others = λ other apart. record {
      merchant = refl;
      entries = λ t.
          sym (get-insert_other entry_total entry_exact V.entries (m, token) entry (other, t)
          (untied entry_exact (other, t) (m, token) (λ same. apart (ap (λ (k : Bytes × Bytes). k.0) same))));
      rights = λ caller right at. refl;
    };
    unwritten = λ other apart request. refl;
    grows = omega arith;
  }

  -- the rights at the merchant change alone, and in both alike
  set_rights : (given taken : map.FinMap right_cmp GrantRow)
      → ((c : Bytes) (r : Right) (at : ℕ)
      → has_at at (map.get V.rights (c, (m, r))) ≡ has_at at (map.get W.rights (c, (m, r)))
      → has_at at (map.get given (c, (m, r))) ≡ has_at at (map.get taken (c, (m, r))))
      → ((other : Bytes) → other ≢ m → (c : Bytes) (r : Right)
      → map.get given (c, (other, r)) ≡ map.get V.rights (c, (other, r)))
      → Together m writer V W (record V { rights = given }) (record W { rights = taken })
  set_rights given taken alike spared = record {
    rows = λ a. record {
      merchant = a.merchant;
      entries = a.entries;
      rights = λ c r at. alike c r at (a.rights c r at);
    };
    records = λ caller a. a;
    fewer = λ a le. le;
    others = λ other apart. record {
      merchant = refl;
      entries = λ token. refl;
      rights = λ c r at. sym (ap (has_at at) (spared other apart c r));
    };
    unwritten = λ other apart request. refl;
    grows = omega arith;
  }

  -- a right at the merchant is given
  pub give_right : (caller : Bytes) (right : Right) (g : GrantRow)
      → Together m writer V W
      (record V { rights = map.insert V.rights (caller, (m, right)) g })
      (record W { rights = map.insert W.rights (caller, (m, right)) g })
  give_right caller right g =
      set_rights _ _
      (λ c r at same. ap (has_at at) (map.get-insert right_total V.rights (caller, (m, right)) g (c, (m, r)))
      ∙ same_at at (eq_by_cmp right_cmp (c, (m, r)) (caller, (m, right))) (Some g) _ _ same
      ∙ sym (ap (has_at at) (map.get-insert right_total W.rights (caller, (m, right)) g (c, (m, r)))))
      (λ other apart c r.
      get-insert_other right_total right_exact V.rights (caller, (m, right)) g (c, (other, r))
      (other_right caller right m other apart c r))

  -- a right at the merchant is taken away
  pub take_right : (caller : Bytes) (right : Right)
      → Together m writer V W
      (record V { rights = map.remove V.rights (caller, (m, right)) })
      (record W { rights = map.remove W.rights (caller, (m, right)) })
  take_right caller right =
      set_rights _ _
      (λ c r at same. ap (has_at at) (map.get-remove right_total V.rights (caller, (m, right)) (c, (m, r)))
      ∙ same_at at (eq_by_cmp right_cmp (c, (m, r)) (caller, (m, right))) None _ _ same
      ∙ sym (ap (has_at at) (map.get-remove right_total W.rights (caller, (m, right)) (c, (m, r)))))
      (λ other apart c r. map.get-remove right_total V.rights (caller, (m, right)) (c, (other, r))
      ∙ ap (λ b. cond b None (map.get V.rights (c, (other, r)))) (other_right caller right m other apart c r))

-- a record of the writer is set
pub set_record : (m : Bytes) (V W : Vault) (caller : Bytes) (request : ℕ) (r : Record)
    → Together m (Some caller) V W
    (record V { records = map.insert V.records (caller, request) r })
    (record W { records = map.insert W.records (caller, request) r })
set_record m V W caller request r = record {
  rows = λ a. record { merchant = a.merchant; entries = a.entries; rights = a.rights };
  records = λ c a q. get-insert_both record_total V.records W.records (caller, request) r (c, q) (a q);
  fewer = λ a le. le;
  others = λ other apart. record { merchant = refl; entries = λ token. refl; rights = λ c right at. refl };
  unwritten = λ other apart q.
      sym (get-insert_other record_total record_exact V.records (caller, request) r (other, q)
      (untied record_exact (other, q) (caller, request) (λ same. apart (ap (λ k. Some k.0) (sym same)))));
  grows = omega arith;
}
