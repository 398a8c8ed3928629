-- At most one step of a history makes an entry for a request: it leaves the request recorded, and a request
-- that is recorded makes none.
use Rattle.std.proofs.Common.{◌≡◌, ◌≤◌, ◌+◌, ◌⊎◌, ℕ, Bool, true, false, cond, List}
use Rattle.std.proofs.Common.{[], ◌∷◌, Some, nat_lt, inl, inr, refl, sym, ap, ◌∙◌}
use Rattle.std.proofs.Common.{arith}
use Rattle.std.proofs.lemmas.Bool.Decides.{nat_tests}
use Rattle.std.specs.Cmp.{first_so, second_so}
use Rattle.std.specs.FinMap as map
use Rattle.std.specs.Option.{option_map_or}
use Rattle.vault_pan.specs.CardText.{same}
use Rattle.vault_core.specs.Keys.{Bytes}
use Rattle.vault_core.specs.Outcome.{Outcome}
use Rattle.vault_core.specs.Sound.{Sound}
use Rattle.vault_core.specs.Parts.{command_of}
use Rattle.vault_core.specs.Table.{after}
use Rattle.vault_core.specs.Vault.{Vault, empty_vault, record_at}
use Rattle.vault_core.specs.declared.command.Command.{Command}
use Rattle.vault_core.specs.declared.command.Command.TheVariants.{Tokenize}
use Rattle.vault_core.specs.declared.command.TokenRequest.{TokenRequest}
use Rattle.vault_core.specs.declared.row.Record.{Record}
use Rattle.vault_core.proofs.CurrentLemmas.{same-is}
use Rattle.vault_core.proofs.Empty.{sound-empty}
use Rattle.vault_core.proofs.Maps.{record_total, record_exact, get-insert_same}
use Rattle.vault_recover.specs.Histories.{Step, IsStep, IsHistory}
use Rattle.vault_recover.specs.Histories.{makes_entry, entries_made}
use Rattle.vault_recover.specs.Histories.{is_request_of}
use Rattle.vault_recover.specs.Histories.{EntriesComeOnce}
use Rattle.vault_core.proofs.TokenRequests.{by_request}
use Rattle.vault_recover.proofs.Steps.{step-sound, step-keeps, done-or-not}

-- a command that is a request of a caller
asked : (caller : Bytes) (request : ℕ) (c : Command) → is_request_of caller request c ≡ true
    → (a : TokenRequest) × (command_of a ≡ c) × (a.caller ≡ caller) × (a.request ≡ request)
asked caller request (Tokenize c m n usage pan digits now) is = (
  record {
    caller = c;
    merchant = m;
    request = n;
    usage = usage;
    pan = pan;
    digits = digits;
    moment = now;
  },
  refl,
  same-is c caller (first_so _ _ is),
  grind (arith, nat_tests, second_so (same c caller) _ is),
)
asked caller request c is = absurd (cc)

-- a request that is recorded changes nothing
recorded-stays : (V : Vault) (a : TokenRequest) (r : Record) → record_at V a.caller a.request ≡ Some r
    → after V (command_of a) ≡ V
recorded-stays V a r has =
    by_request (λ o. o.after ≡ V) V a (λ _. refl) (λ _ _ _ _ _. refl)
    (λ known held none _ _. let clash = sym none ∙ has in absurd (cc))
    (λ known token none _ _ _ _ _. let clash = sym none ∙ has in absurd (cc))

-- a request leaves as many entries as there were, or is recorded
made-recorded : (V : Vault) (a : TokenRequest)
    → (map.len (after V (command_of a)).entries ≡ map.len V.entries)
    ⊎ ((r : Record) × (record_at (after V (command_of a)) a.caller a.request ≡ Some r))
made-recorded V a =
    by_request (λ (o : Outcome). (map.len o.after.entries ≡ map.len V.entries)
    ⊎ ((r : Record) × (record_at o.after a.caller a.request ≡ Some r))) V a
    (λ _. inl refl) (λ _ _ _ _ _. inl refl)
    (λ known held _ _ _. inl refl)
    (λ known token _ _ _ _ _ _.
    inr (
      _,
      get-insert_same record_total record_exact V.records (a.caller, a.request)
          (record { merchant = a.merchant; token = token; usage = a.usage }),
    ))

not-less : (n : ℕ) → nat_lt n n ≡ false
not-less n = grind (arith, nat_tests)

-- a step that makes an entry is a request that is done
makes-done : (V : Vault) (s : Step × Vault) → IsStep V s.0 s.1 → (caller : Bytes) (request : ℕ)
    → makes_entry caller request V s ≡ true
    → (a : TokenRequest) × (a.caller ≡ caller) × (a.request ≡ request) × (s.1 ≡ after V (command_of a))
makes-done V s is caller request makes =
    elim (done-or-not V s.1 s.0 is) [
      | inl same ↦
          let less = second_so _ _ makes in
          let clash : true ≡ false = sym less
          ∙ ap (λ (U : Vault). nat_lt (map.len V.entries) (map.len U.entries)) same
          ∙ not-less (map.len V.entries) in
          absurd (cc)
      | inr x ↦
          let asks = ap (λ o. option_map_or (is_request_of caller request) o false) (sym x.1)
          ∙ first_so _ _ makes in
          let a = asked caller request x.0 asks in
          (a.0, a.2, a.3, x.2 ∙ ap (after V) (sym a.1))
    ]

-- where a request is recorded, no step makes an entry for it
makes-none : (V : Vault) (s : Step × Vault) → IsStep V s.0 s.1 → (caller : Bytes) (request : ℕ) (r : Record)
    → record_at V caller request ≡ Some r → makes_entry caller request V s ≡ false
makes-none V s is caller request r has = go (makes_entry caller request V s) refl
  where
    go : (b : Bool) → makes_entry caller request V s ≡ b → makes_entry caller request V s ≡ false
    go false e = e
    go true e =
        let x = makes-done V s is caller request e in
        let own = (λ i. record_at V (x.1 i) (x.2 i)) ∙ has in
        let same = x.3 ∙ recorded-stays V x.0 r own in
        let clash : true ≡ false = sym (second_so _ _ e)
        ∙ ap (λ (U : Vault). nat_lt (map.len V.entries) (map.len U.entries)) same
        ∙ not-less (map.len V.entries) in
        absurd (cc)

none-later : (V : Vault) (h : List (Step × Vault)) → Sound V → IsHistory V h → (caller : Bytes) (request : ℕ)
    → (r : Record) → record_at V caller request ≡ Some r → entries_made caller request V h ≡ 0
none-later V [] sound is caller request r has = refl
none-later V (s ∷ more) sound is caller request r has =
    let now = ap {B = ℕ} (λ b. cond b 1 0) (makes-none V s is.1 caller request r has) in
    let rest = none-later s.1 more (step-sound V s.1 s.0 sound is.0 is.1) is.2 caller request r
    ((step-keeps V s.1 s.0 sound is.1).records caller request r has) in
    omega (arith, now, rest)

-- a step that makes an entry leaves its request recorded
makes-recorded : (V : Vault) (s : Step × Vault) → IsStep V s.0 s.1 → (caller : Bytes) (request : ℕ)
    → makes_entry caller request V s ≡ true → (r : Record) × (record_at s.1 caller request ≡ Some r)
makes-recorded V s is caller request makes =
    let x = makes-done V s is caller request makes in
    elim (made-recorded V x.0) [
      | inl same ↦
          let clash : true ≡ false = sym (second_so _ _ makes)
          ∙ ap (λ (U : Vault). nat_lt (map.len V.entries) (map.len U.entries)) x.3
          ∙ ap (nat_lt (map.len V.entries)) same ∙ not-less (map.len V.entries) in
          absurd (cc)
      | inr has ↦ (
        has.0,
        ap (λ (U : Vault). record_at U caller request) x.3
            ∙ (λ i. record_at (after V (command_of x.0)) (sym x.1 i) (sym x.2 i)) ∙ has.1,
      )
    ]

made-once : (V : Vault) (h : List (Step × Vault)) → Sound V → IsHistory V h → (caller : Bytes) (request : ℕ)
    → entries_made caller request V h ≤ 1
made-once V [] sound is caller request = omega arith
made-once V (s ∷ more) sound is caller request =
    go (makes_entry caller request V s) refl (made-once s.1 more next is.2 caller request)
  where
    next : Sound s.1
    next = step-sound V s.1 s.0 sound is.0 is.1

    go : (b : Bool) → makes_entry caller request V s ≡ b → entries_made caller request s.1 more ≤ 1
        → cond (makes_entry caller request V s) 1 0 + entries_made caller request s.1 more ≤ 1
    go true e rest =
        let now = ap {B = ℕ} (λ x. cond x 1 0) e in
        let has = makes-recorded V s is.1 caller request e in
        let none = none-later s.1 more next is.2 caller request has.0 has.1 in
        omega (arith, now, none)
    go false e rest =
        let now = ap {B = ℕ} (λ x. cond x 1 0) e in
        omega (arith, now, rest)

pub come_once : EntriesComeOnce
come_once h is caller request = made-once empty_vault h sound-empty is caller request
