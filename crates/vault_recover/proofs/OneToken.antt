-- All tokens that a history answers to a request are one: the first answer is recorded, and each step keeps
-- what is recorded.
use Rattle.std.proofs.Common.{◌≡◌, ℕ, Bool, true, false, cond, List}
use Rattle.std.proofs.Common.{[], ◌∷◌, Option, Some, None, Contains, inl, inr, sym, ap, ◌∙◌}
use Rattle.std.proofs.Common.{subst}
use Rattle.std.specs.Option.{option_map_or}
use Rattle.vault_core.specs.Keys.{Bytes}
use Rattle.vault_core.specs.Outcome.{plain_reply, plain_refusal, of_merchant}
use Rattle.vault_core.specs.Refusals.{number_reused}
use Rattle.vault_core.specs.Repeats.{is_repeat}
use Rattle.vault_core.specs.Sound.{Sound}
use Rattle.vault_core.specs.Parts.{command_of}
use Rattle.vault_core.specs.Table.{reply, after}
use Rattle.vault_core.specs.Tokens.{earlier_request, repetition, new_request}
use Rattle.vault_core.specs.Vault.{Vault, empty_vault, entry_at, record_at}
use Rattle.vault_core.specs.declared.command.TokenRequest.{TokenRequest}
use Rattle.vault_core.specs.declared.reply.Reply.{Reply}
use Rattle.vault_core.specs.declared.reply.Reply.TheVariants.{Token}
use Rattle.vault_core.specs.declared.row.Entry.{Entry}
use Rattle.vault_core.specs.declared.row.Record.{Record}
use Rattle.vault_core.proofs.Empty.{sound-empty}
use Rattle.vault_core.proofs.Finds.{some_same}
use Rattle.vault_core.proofs.Repeats.{Keeps, faithful-tokenize, token-same}
use Rattle.vault_recover.specs.Histories.{Step, Answered, Undecided, Reopened, Migrated, IsStep, IsHistory}
use Rattle.vault_recover.specs.Histories.{AnswersToken}
use Rattle.vault_recover.specs.Histories.{RequestsAnswerOnce}
use Rattle.vault_recover.proofs.Steps.{step-sound, step-keeps, which, none-in}

-- what the vault has of a request that was answered with a token
record IsTold (V : Vault) (caller : Bytes) (request : ℕ) (token : Bytes) (expires : ℕ) : Type 0 where
  held : Record
  entry : Entry
  record_is : record_at V caller request ≡ Some held
  entry_is : entry_at V held.merchant held.token ≡ Some entry
  token_is : held.token ≡ token
  expires_is : entry.expires ≡ expires

still-told : (V W : Vault) → Keeps V W → (caller : Bytes) (request : ℕ) (token : Bytes) (expires : ℕ)
    → IsTold V caller request token expires → IsTold W caller request token expires
still-told V W keeps caller request token expires h =
    let k = keeps.entries h.held.merchant h.held.token h.entry h.entry_is in
    record {
      held = h.held;
      entry = k.0;
      record_is = keeps.records caller request h.held h.record_is;
      entry_is = k.1;
      token_is = h.token_is;
      expires_is = k.2 ∙ h.expires_is;
    }

-- an answer with a token is recorded
first-told : (V : Vault) → Sound V → (a : TokenRequest) (token : Bytes) (expires : ℕ)
    → reply V (command_of a) ≡ Token token expires
    → IsTold (after V (command_of a)) a.caller a.request token expires
first-told V sound a token expires is =
    let h = (faithful-tokenize V sound a).remembers token expires is in
    record {
      held = h.held;
      entry = h.entry;
      record_is = h.record_is;
      entry_is = h.entry_is;
      token_is = h.token_is;
      expires_is = h.expires_is;
    }

-- what is recorded is the only token that is answered
again-told : (V : Vault) (a : TokenRequest) (token token' : Bytes) (expires expires' : ℕ)
    → IsTold V a.caller a.request token expires → reply V (command_of a) ≡ Token token' expires'
    → (token ≡ token') × (expires ≡ expires')
again-told V a token token' expires expires' h is =
    go (is_repeat a.merchant a.usage a.pan h.held h.entry) (sym found ∙ is)
  where
    found : reply V (command_of a)
        ≡ (cond (is_repeat a.merchant a.usage a.pan h.held h.entry)
        (plain_reply V (Token h.held.token h.entry.expires)) (plain_refusal V number_reused)).reply
    found =
        ap (λ (o : Option Record). (option_map_or (earlier_request V a) o
        (of_merchant V a.merchant (new_request V a))).reply) h.record_is
        ∙ ap (λ (o : Option Entry). (option_map_or (repetition V a h.held) o
        (plain_refusal V number_reused)).reply) h.entry_is

    go : (b : Bool) → (cond b (plain_reply V (Token h.held.token h.entry.expires))
        (plain_refusal V number_reused)).reply ≡ Token token' expires'
        → (token ≡ token') × (expires ≡ expires')
    go true e =
        let parts = token-same h.held.token token' h.entry.expires expires' e in
        (sym h.token_is ∙ parts.0, sym h.expires_is ∙ parts.1)
    go false e = absurd (cc)

-- a step that answers a token leaves it recorded
step-told : (V W : Vault) (s : Step) → Sound V → IsStep V s W
    → (caller : Bytes) (request : ℕ) (token : Bytes) (expires : ℕ)
    → AnswersToken caller request token expires s → IsTold W caller request token expires
step-told V W s sound is caller request token expires answers =
    let a = answers.0 in
    let step : IsStep V (Answered (command_of a) (Token token expires)) W
    = subst (λ (t : Step). IsStep V t W) answers.3 is in
    let told = first-told V sound a token expires (sym step.0) in
    let own : IsTold (after V (command_of a)) caller request token expires
    = subst (λ (c : Bytes). IsTold (after V (command_of a)) c request token expires) answers.1
    (subst (λ n. IsTold (after V (command_of a)) a.caller n token expires) answers.2 told) in
    subst (λ (U : Vault). IsTold U caller request token expires) (sym step.1) own

-- a step answers no other token than the one that is recorded
step-again : (V W : Vault) (s : Step) → IsStep V s W
    → (caller : Bytes) (request : ℕ) (token token' : Bytes) (expires expires' : ℕ)
    → IsTold V caller request token expires → AnswersToken caller request token' expires' s
    → (token ≡ token') × (expires ≡ expires')
step-again V W s is caller request token token' expires expires' told answers =
    let a = answers.0 in
    let step : IsStep V (Answered (command_of a) (Token token' expires')) W
    = subst (λ (t : Step). IsStep V t W) answers.3 is in
    let own : IsTold V a.caller a.request token expires
    = subst (λ (c : Bytes). IsTold V c a.request token expires) (sym answers.1)
    (subst (λ n. IsTold V caller n token expires) (sym answers.2) told) in
    again-told V a token token' expires expires' own (sym step.0)

-- a token that is recorded is the only one that is answered later
later : (V : Vault) (h : List (Step × Vault)) → Sound V → IsHistory V h
    → (caller : Bytes) (request : ℕ) (token token' : Bytes) (expires expires' : ℕ) (s : Step × Vault)
    → IsTold V caller request token expires → Contains h s
    → AnswersToken caller request token' expires' s.0
    → (token ≡ token') × (expires ≡ expires')
later V [] sound is caller request token token' expires expires' s told c answers = absurd (none-in s c)
later V (x ∷ more) sound is caller request token token' expires expires' s told c answers =
    elim (which x s more c) [
      | inl e ↦
          step-again V x.1 x.0 is.1 caller request token token' expires expires' told
          (subst (λ (t : Step × Vault). AnswersToken caller request token' expires' t.0) (sym e) answers)
      | inr c' ↦
          later x.1 more (step-sound V x.1 x.0 sound is.0 is.1) is.2 caller request token token' expires
          expires' s
          (still-told V x.1 (step-keeps V x.1 x.0 sound is.1) caller request token expires told) c' answers
    ]

abbrev reply_in : Step → Option Reply
reply_in (Answered c r) = Some r
reply_in (Undecided c) = None
reply_in Reopened = None
reply_in Migrated = None

-- one step answers one token
alone : (caller : Bytes) (request : ℕ) (token token' : Bytes) (expires expires' : ℕ) (s : Step)
    → AnswersToken caller request token expires s → AnswersToken caller request token' expires' s
    → (token ≡ token') × (expires ≡ expires')
alone caller request token token' expires expires' s one other =
    token-same token token' expires expires' (some_same (ap reply_in (sym one.3 ∙ other.3)))

two : (V : Vault) (h : List (Step × Vault)) → Sound V → IsHistory V h
    → (caller : Bytes) (request : ℕ) (token token' : Bytes) (expires expires' : ℕ) (s s' : Step × Vault)
    → Contains h s → Contains h s'
    → AnswersToken caller request token expires s.0 → AnswersToken caller request token' expires' s'.0
    → (token ≡ token') × (expires ≡ expires')
two V [] sound is caller request token token' expires expires' s s' c c' one other = absurd (none-in s c)
two V (x ∷ more) sound is caller request token token' expires expires' s s' c c' one other =
    elim (which x s more c) [
      | inl e ↦ elim (which x s' more c') [
        | inl e' ↦
            alone caller request token token' expires expires' x.0 (mine e) (others e')
        | inr d' ↦
            later x.1 more next is.2 caller request token token' expires expires' s'
            (step-told V x.1 x.0 sound is.1 caller request token expires (mine e)) d' other
      ]
      | inr d ↦ elim (which x s' more c') [
        | inl e' ↦
            let back = later x.1 more next is.2 caller request token' token expires' expires s
            (step-told V x.1 x.0 sound is.1 caller request token' expires' (others e')) d one in
            (sym back.0, sym back.1)
        | inr d' ↦
            two x.1 more next is.2 caller request token token' expires expires' s s' d d' one other
      ]
    ]
  where
    next : Sound x.1
    next = step-sound V x.1 x.0 sound is.0 is.1

    mine : x ≡ s → AnswersToken caller request token expires x.0
    mine e = subst (λ (t : Step × Vault). AnswersToken caller request token expires t.0) (sym e) one

    others : x ≡ s' → AnswersToken caller request token' expires' x.0
    others e = subst (λ (t : Step × Vault). AnswersToken caller request token' expires' t.0) (sym e) other

pub answer_once : RequestsAnswerOnce
answer_once h is caller request token token' expires expires' s s' c c' one other =
    two empty_vault h sound-empty is caller request token token' expires expires' s s' c c' one other
