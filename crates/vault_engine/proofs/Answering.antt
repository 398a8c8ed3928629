-- One unit, or none, and what goes out of its text.
use Rattle.std.proofs.Common.{◌≡◌, ℕ, ◌<◌, List, [], ◌∷◌, length, take, sym, ap, ◌∙◌, subst, append-nil}
use Rattle.std.proofs.Common.{arith}
use Rattle.std.specs.Prelude.{Result, Ok, Err, true, false, OnErr, OnOk, Option, Some, None}
use Rattle.std.specs.Result.{is_err}
use Rattle.std.specs.Io.KnownBytes.{Appends}
use Rattle.std.proofs.lemmas.List.Elements.{All-cons, All-nil}
use Rattle.vault_core.specs.Vault.{Vault as Content}
use Rattle.vault_core.specs.declared.reply.Reply.{Reply}
use Rattle.vault_engine.specs.Answered.{Answered, AnsweredBefore, CutAt, SilentAt, UndecidedAt}
use Rattle.vault_engine.specs.Asking.{Asked, Asks, Kind, Pair, Wanted, left_by, reply_to, text_at}
use Rattle.vault_engine.specs.Asking.{vault_after}
use Rattle.vault_engine.specs.Passing.{Passage, IsBefore, Keeps, Sends, Takes}
use Rattle.vault_engine.proofs.Listing.{texts-one, vault_after-nil, vault_after-one}

-- the unit, asked with the pair, wants this
abbrev pub asked : {X : Type 0} → X → Pair → Wanted → Asked X
asked unit pair wanted = record { unit = unit; pair = pair; wanted = wanted }

pub appends_nothing : (a : Option (List ℕ)) → Appends a a []
appends_nothing None = tt
appends_nothing (Some a) = sym (append-nil a)

-- what holds with Err, where the result is no Ok
pub when_err : {T E : Type 0} (r : Result T E) (P : Type 0) → is_err r ≡ true → OnErr r P → P
when_err (Ok x) P e h = absurd (cc)
when_err (Err y) P e h = h

pub when_ok : {T E : Type 0} (r : Result T E) (P : Type 0) → is_err r ≡ false → OnOk r P → P
when_ok (Ok x) P e h = h
when_ok (Err y) P e h = absurd (cc)

-- the text of the reply is the unit's text
pub text_is : {X : Type 0} (k : Kind X) (V : Content) (x : Asked X) (r : Reply) (out : List ℕ)
    → out ≡ k.text x.unit x.wanted r → r ≡ reply_to V x.wanted → out ≡ text_at k.text V x
unfolding text_at
text_is k V x r out e same = e ∙ ap (k.text x.unit x.wanted) same

module _ {X : Type 0} (k : Kind X) (w : Passage) where
  keeps_none : (V : Content) → Keeps w V → Keeps w (vault_after {X = X} V [])
  keeps_none V h = subst (Keeps w) (sym (vault_after-nil X V)) h

  -- none, and nothing went out
  pub none_answered : w.given_new ≡ w.given_old → Sends w [] → ((V : Content) → IsBefore w V → Keeps w V)
      → Answered k [] w []
  none_answered given sent kept = record {
    taken = given ∙ sym (append-nil w.given_old);
    asked = All-nil (Asks k);
    answered = λ V b. (sent, keeps_none V (kept V b));
  }

  -- a pair was taken, and nothing else was done
  pub none_decided : (pair : Pair) → Takes w (pair ∷ []) → Sends w []
      → ((V : Content) → IsBefore w V → Keeps w V) → AnsweredBefore k [] w []
  none_decided pair given sent kept = record {
    unused = pair ∷ [];
    one = omega arith;
    taken = given;
    asked = All-nil (Asks k);
    answered = λ V b. (sent, keeps_none V (kept V b));
  }

module _ {X : Type 0} (k : Kind X) (w : Passage) (x : Asked X) (asks : Asks k x)
    (given : Takes w (x.pair ∷ [])) where
  keeps_one : (V : Content) → Keeps w (left_by V x.wanted) → Keeps w (vault_after V (x ∷ []))
  keeps_one V h = subst (Keeps w) (sym (vault_after-one V x)) h

  -- the text went out
  pub one_answered : ((V : Content) → IsBefore w V
      → Sends w (text_at k.text V x) × Keeps w (left_by V x.wanted))
      → Answered k [] w (x ∷ [])
  one_answered f = record {
    taken = given;
    asked = All-cons (Asks k) x [] asks (All-nil (Asks k));
    answered = λ V b.
        let a = f V b in (subst (Sends w) (sym (texts-one k V x)) a.0, keeps_one V a.1);
  }

  -- a beginning of the text went out
  pub one_cut : (n : ℕ) → ((V : Content) → IsBefore w V
      → (n < length (text_at k.text V x)) × Sends w (take n (text_at k.text V x))
      × Keeps w (left_by V x.wanted))
      → CutAt k [] w [] x
  one_cut n f = record {
    sent = n;
    taken = given;
    asked = All-cons (Asks k) x [] asks (All-nil (Asks k));
    answered = λ V b.
        let a = f V b in
        let at = sym (vault_after-nil X V) in (
          subst (λ W. n < length (text_at k.text W x)) at a.0,
          subst (λ W. Sends w (take n (text_at k.text W x))) at a.1,
          keeps_one V a.2,
        );
  }

  -- it isn't known whether the vault has it
  pub one_undecided : Sends w [] → ((V : Content) → IsBefore w V → w.left_new V (left_by V x.wanted))
      → UndecidedAt k [] w [] x
  one_undecided sent f = record {
    taken = given;
    asked = All-cons (Asks k) x [] asks (All-nil (Asks k));
    answered = λ V b. (
      sent,
      subst (λ W. w.left_new W (vault_after V (x ∷ []))) (sym (vault_after-nil X V))
          (subst (λ W. w.left_new V W) (sym (vault_after-one V x)) (f V b)),
    );
  }

  -- the vault has it, and nothing of its text went out
  pub one_silent : Sends w [] → ((V : Content) → IsBefore w V → Keeps w (left_by V x.wanted))
      → SilentAt k [] w [] x
  one_silent sent f = record {
    taken = given;
    asked = All-cons (Asks k) x [] asks (All-nil (Asks k));
    answered = λ V b. (sent, keeps_one V (f V b));
  }
