-- Leaving out the commands that don't name a merchant leaves the replies to those that do.
use Rattle.std.proofs.Common.{◌≡◌, ◌≢◌, ℕ, suc, ◌≤◌, Bool, true, false, cond, List, [], ◌∷◌, Some, None}
use Rattle.std.proofs.Common.{Contains, nat_lt, refl, sym, ap, subst, ◌∙◌, arith, true≢false}
use Rattle.std.specs.FinMap as map
use Rattle.std.proofs.lemmas.Bool.Decides.{nat_tests}
use Rattle.vault_core.specs.Isolation.{AgreeAt, AgreeFor, EachAtOneMerchant, HasRoomForMerchants}
use Rattle.vault_core.specs.Isolation.{RunsAreIsolated, names, naming, replies_naming}
use Rattle.vault_core.specs.Keys.{Bytes}
use Rattle.vault_core.specs.Lives.{new_merchant, setting}
use Rattle.vault_core.specs.Merchants.{set_from, set_to}
use Rattle.vault_core.specs.Named.{merchant_of}
use Rattle.vault_core.specs.Outcome.{plain_refusal}
use Rattle.vault_core.specs.Refusals.{too_many_merchants}
use Rattle.vault_core.specs.Runs.{replies}
use Rattle.vault_core.specs.Parts.{command_of, token_request}
use Rattle.vault_core.specs.Table.{reply, after}
use Rattle.vault_core.specs.Vault.{Vault, merchant_at}
use Rattle.vault_core.specs.declared.limit.TheConstants.{MOST_MERCHANTS}
use Rattle.vault_core.specs.declared.command.Command.{Command}
use Rattle.vault_core.specs.declared.command.Command.TheVariants.{Tokenize}
use Rattle.vault_core.specs.declared.command.TokenRequest.{TokenRequest}
use Rattle.vault_core.specs.declared.reply.Reply.TheVariants.{Refused}
use Rattle.vault_core.specs.declared.row.Lives.{Lives}
use Rattle.vault_core.proofs.Setting.{if_setting}
use Rattle.vault_core.proofs.AgreeingVaults.{agree-refl, agree-sym, agree-trans}
use Rattle.vault_core.proofs.CurrentLemmas.{same-is}
use Rattle.vault_core.proofs.Finds.{some_same}
use Rattle.vault_core.proofs.Isolated.{alike, writer_of, AgreeForWriter, HaveSameRoom}
use Rattle.vault_core.proofs.Repeats.{same-refl}

Contains-first : {X : Type 0} (x : X) (xs : List X) → Contains (x ∷ xs) x
Contains-first x xs = (0, omega arith, refl)

Contains-later : {X : Type 0} (y : X) (xs : List X) (x : X) → Contains xs x → Contains (y ∷ xs) x
Contains-later y xs x c = (suc c.0, omega (arith, c.1), c.2)

-- a command that can write a caller's record is a request of that caller
as-request : (c : Command) (caller : Bytes) → writer_of c ≡ Some caller
    → (a : TokenRequest) × (command_of a ≡ c) × (a.caller ≡ caller) × (a.merchant ≡ merchant_of c)
as-request (Tokenize c m request usage pan digits now) caller e =
    (token_request c m request usage pan (now, digits), refl, some_same e, refl)
as-request c caller e = absurd (cc)

fewer-room : (v w : ℕ) → w ≤ v → nat_lt v MOST_MERCHANTS ≡ true → nat_lt w MOST_MERCHANTS ≡ true
fewer-room v w le h = grind (arith, nat_tests)

-- where a merchant isn't refused in a vault, it isn't in one with no more merchants
same-room : (V W : Vault) (c : Command) → map.len W.merchants ≤ map.len V.merchants
    → reply V c ≢ Refused too_many_merchants → HaveSameRoom c V W
same-room V W c le room =
    if_setting _ c
    (λ m x is none. go m x is none (nat_lt (map.len V.merchants) MOST_MERCHANTS) refl)
  where
    refusal : (m : Bytes) (x : Lives) → merchant_at V m ≡ None
        → nat_lt (map.len V.merchants) MOST_MERCHANTS ≡ false
        → reply V (setting m x) ≡ Refused too_many_merchants
    refusal m x none full =
        ap (λ o. (set_from V m x o).reply) none
        ∙ ap (λ b. (cond b (set_to V m (new_merchant x)) (plain_refusal V too_many_merchants)).reply) full

    go : (m : Bytes) (x : Lives) → c ≡ setting m x → merchant_at V m ≡ None
        → (b : Bool) → nat_lt (map.len V.merchants) MOST_MERCHANTS ≡ b
        → nat_lt (map.len V.merchants) MOST_MERCHANTS ≡ nat_lt (map.len W.merchants) MOST_MERCHANTS
    go m x is none true below = below ∙ sym (fewer-room _ _ le below)
    go m x is none false full = absurd (room (ap (reply V) is ∙ refusal m x none full))

-- one vault finds the same room as itself
own-room : (V : Vault) (c : Command) → HaveSameRoom c V V
own-room V c = if_setting _ c (λ m x is none. refl)

each_later : (c : Command) (cs : List Command) → EachAtOneMerchant (c ∷ cs) → EachAtOneMerchant cs
each_later c cs each a b x y =
    each a b (Contains-later c cs (command_of a) x) (Contains-later c cs (command_of b) y)

room_later : (c : Command) (cs : List Command) (V : Vault) → HasRoomForMerchants (c ∷ cs) V
    → HasRoomForMerchants cs (after V c)
room_later c cs V room x =
    room (Contains-later (reply V c) (replies cs (after V c)) (Refused too_many_merchants) x)

room_now : (c : Command) (cs : List Command) (V : Vault) → HasRoomForMerchants (c ∷ cs) V
    → reply V c ≢ Refused too_many_merchants
room_now c cs V room e =
    room (subst (Contains (reply V c ∷ replies cs (after V c))) e
    (Contains-first (reply V c) (replies cs (after V c))))

-- what V, which ran all commands, and W, which ran those that name m, have in common: the merchant's rows,
-- and the records of all callers who are still to ask for tokens there
record Beside (m : Bytes) (cs : List Command) (V W : Vault) : Type 0 where
  rows : AgreeAt m V W
  fewer : map.len W.merchants ≤ map.len V.merchants
  records : (a : TokenRequest) → Contains cs (command_of a) → a.merchant ≡ m → AgreeFor a.caller V W

module _ (m : Bytes) (c : Command) (cs : List Command) (V W : Vault) (beside : Beside m (c ∷ cs) V W) where
  first : Contains (c ∷ cs) c
  first = Contains-first c cs

  later : (a : TokenRequest) → Contains cs (command_of a) → Contains (c ∷ cs) (command_of a)
  later a x = Contains-later c cs (command_of a) x

  -- a command that names the merchant is run in both
  named : names m c ≡ true → reply V c ≢ Refused too_many_merchants
      → (reply V c ≡ reply W c) × Beside m cs (after V c) (after W c)
  named its room =
      let is = same-is (merchant_of c) m its in
      let here : AgreeAt (merchant_of c) V W = subst (λ (n : Bytes). AgreeAt n V W) (sym is) beside.rows in
      let both = alike V W c here (own_records is) (same-room V W c beside.fewer room) in (
        both.reply,
        record {
          rows = subst (λ (n : Bytes). AgreeAt n (after V c) (after W c)) is (both.after.rows here);
          fewer = both.after.fewer here beside.fewer;
          records = λ a x at. both.after.records a.caller (beside.records a (later a x) at);
        },
      )
    where
      own_records : merchant_of c ≡ m → AgreeForWriter c V W
      own_records is caller e =
          let a = as-request c caller e in
          subst (λ (x : Bytes). AgreeFor x V W) a.2
          (beside.records a.0 (subst (Contains (c ∷ cs)) (sym a.1) first) (a.3 ∙ is))

  -- any other command is run in V alone
  unnamed : names m c ≡ false → EachAtOneMerchant (c ∷ cs) → Beside m cs (after V c) W
  unnamed other each =
      let both = alike V V c (agree-refl (merchant_of c) V) (λ caller e request. refl) (own-room V c) in
      record {
        rows = agree-trans (agree-sym (both.after.others m elsewhere)) beside.rows;
        fewer = omega (arith, beside.fewer, both.after.grows);
        records = λ a x at request.
            sym (both.after.unwritten a.caller (λ e. elsewhere (sym at ∙ own_merchant a x e)) request)
            ∙ beside.records a (later a x) at request;
      }
    where
      elsewhere : m ≢ merchant_of c
      elsewhere e = true≢false (sym (ap (λ n. names n c) e ∙ same-refl (merchant_of c)) ∙ other)

      own_merchant : (a : TokenRequest) → Contains cs (command_of a) → writer_of c ≡ Some a.caller
          → a.merchant ≡ merchant_of c
      own_merchant a x e =
          let b = as-request c a.caller e in
          sym (each b.0 a (subst (Contains (c ∷ cs)) (sym b.1) first) (later a x) b.2) ∙ b.3

isolated : (m : Bytes) (cs : List Command) (V W : Vault) → EachAtOneMerchant cs → HasRoomForMerchants cs V
    → Beside m cs V W → replies_naming m cs V ≡ replies (naming m cs) W
isolated m [] V W each room beside = refl
isolated m (c ∷ cs) V W each room beside =
    elim (names m c) as (λ b. names m c ≡ b
    → cond b (reply V c ∷ replies_naming m cs (after V c)) (replies_naming m cs (after V c))
    ≡ replies (cond b (c ∷ naming m cs) (naming m cs)) W) [
      | true ↦ λ yes.
          let next = named m c cs V W beside yes (room_now c cs V room) in
          let rest = isolated m cs (after V c) (after W c) (each_later c cs each) (room_later c cs V room)
          next.1 in
          λ i. next.0 i ∷ rest i
      | false ↦ λ no.
          isolated m cs (after V c) W (each_later c cs each) (room_later c cs V room)
          (unnamed m c cs V W beside no each)
    ] refl

pub runs_isolated : RunsAreIsolated
runs_isolated V cs m each room =
    isolated m cs V V each room
    (record { rows = agree-refl m V; fewer = omega arith; records = λ a x at request. refl })
