-- Units after others that were answered.
use Rattle.std.proofs.Common.{◌≡◌, ℕ, ◌<◌, List, [], ◌∷◌, ◌++◌, length, take, sym, ap, ◌∙◌, subst}
use Rattle.std.proofs.Common.{append_assoc}
use Rattle.std.specs.Prelude.{All, Option, Some, None}
use Rattle.std.specs.Io.KnownBytes.{Appends}
use Rattle.std.proofs.lemmas.List.{map-append}
use Rattle.std.proofs.lemmas.List.Elements.{All-append}
use Rattle.vault_core.specs.Vault.{Vault as Content}
use Rattle.vault_engine.specs.Asking.{Asked, Asks, Kind, Pair, text_at, texts, vault_after}
use Rattle.vault_engine.specs.Answered.{Answered, AnsweredBefore, CutAt, SilentAt, UndecidedAt, pairs_of}
use Rattle.vault_engine.specs.Passing.{Passage, IsBefore, Keeps, Sends, Takes}
use Rattle.vault_engine.proofs.Listing.{texts-append, vault_after-append}

pub appends_both : (a b c : Option (List ℕ)) (xs ys : List ℕ) → Appends a b xs → Appends b c ys
    → Appends a c (xs ++ ys)
appends_both None b c xs ys p q = tt
appends_both (Some a) (Some b) None xs ys p q = q
appends_both (Some a) (Some b) (Some c) xs ys p q = rw (q, p) (append_assoc a xs ys)
appends_both (Some a) None c xs ys p q = absurd p

-- a passage, and then another one
abbrev pub joined : Passage → Passage → Passage
joined early late = record late {
  given_old = early.given_old;
  sent_old = early.sent_old;
  held_old = early.held_old;
}

-- the later passage begins where the earlier one ends
pub record Joins (early late : Passage) : Type 0 where
  pub given : late.given_old ≡ early.given_new
  pub sent : late.sent_old ≡ early.sent_new
  pub held : (V : Content) → early.held_new V → late.held_old V
  pub back : late.honest → early.honest

module _ {X : Type 0} (k : Kind X) (first : List ℕ) (early late : Passage) (xs : List (Asked X))
    (a : Answered k first early xs) (j : Joins early late) where
  pub then_before : (V : Content) → IsBefore (joined early late) V → IsBefore late (vault_after V xs)
  then_before V b = (b.0, j.held _ (a.answered V (j.back b.0, b.1)).1.0)

  taken_then : (ps : List Pair) → Takes late ps → Takes (joined early late) (pairs_of xs ++ ps)
  taken_then ps t =
      t ∙ ap (λ g. g ++ ps) (j.given ∙ a.taken) ∙ append_assoc early.given_old (pairs_of xs) ps

  taken_both : (ys : List (Asked X)) → Takes late (pairs_of ys)
      → Takes (joined early late) (pairs_of (xs ++ ys))
  taken_both ys t =
      subst (Takes (joined early late)) (sym (map-append (λ (y : Asked X). y.pair) xs ys))
      (taken_then (pairs_of ys) t)

  asked_both : (ys : List (Asked X)) → All (Asks k) ys → All (Asks k) (xs ++ ys)
  asked_both ys asked = All-append (Asks k) xs ys a.asked asked

  -- others and one more
  with_one : (P : List (Asked X) → Type 0) (ys : List (Asked X)) (x : Asked X) → P (xs ++ (ys ++ x ∷ []))
      → P ((xs ++ ys) ++ x ∷ [])
  with_one P ys x h = subst P (sym (append_assoc xs ys (x ∷ []))) h

  taken_one : (ys : List (Asked X)) (x : Asked X) → Takes late (pairs_of (ys ++ x ∷ []))
      → Takes (joined early late) (pairs_of ((xs ++ ys) ++ x ∷ []))
  taken_one ys x t =
      with_one (λ zs. Takes (joined early late) (pairs_of zs)) ys x (taken_both (ys ++ x ∷ []) t)

  asked_one : (ys : List (Asked X)) (x : Asked X) → All (Asks k) (ys ++ x ∷ [])
      → All (Asks k) ((xs ++ ys) ++ x ∷ [])
  asked_one ys x asked = with_one (All (Asks k)) ys x (asked_both (ys ++ x ∷ []) asked)

  sent_then : (V : Content) (bytes : List ℕ) → IsBefore (joined early late) V → Sends late bytes
      → Sends (joined early late) ((first ++ texts k.text V xs) ++ bytes)
  sent_then V bytes b q =
      appends_both _ _ _ (first ++ texts k.text V xs) bytes (a.answered V (j.back b.0, b.1)).0
      (subst (λ out. Appends out late.sent_new bytes) j.sent q)

  texts_both : (V : Content) (ys : List (Asked X))
      → (first ++ texts k.text V xs) ++ texts k.text (vault_after V xs) ys
      ≡ first ++ texts k.text V (xs ++ ys)
  texts_both V ys =
      append_assoc first (texts k.text V xs) (texts k.text (vault_after V xs) ys)
      ∙ ap (λ t. first ++ t) (sym (texts-append k V xs ys))

  sent_both : (V : Content) (ys : List (Asked X)) → IsBefore (joined early late) V
      → Sends late (texts k.text (vault_after V xs) ys)
      → Sends (joined early late) (first ++ texts k.text V (xs ++ ys))
  sent_both V ys b q = subst (Sends (joined early late)) (texts_both V ys) (sent_then V _ b q)

  kept_both : (V : Content) (ys : List (Asked X)) → Keeps late (vault_after (vault_after V xs) ys)
      → Keeps late (vault_after V (xs ++ ys))
  kept_both V ys h = subst (Keeps late) (sym (vault_after-append V xs ys)) h

  kept_one : (V : Content) (ys : List (Asked X)) (x : Asked X)
      → Keeps late (vault_after (vault_after V xs) (ys ++ x ∷ []))
      → Keeps late (vault_after V ((xs ++ ys) ++ x ∷ []))
  kept_one V ys x h =
      with_one (λ zs. Keeps late (vault_after V zs)) ys x (kept_both V (ys ++ x ∷ []) h)

  pub answered_then : (ys : List (Asked X)) → Answered k [] late ys
      → Answered k first (joined early late) (xs ++ ys)
  answered_then ys q = record {
    taken = taken_both ys q.taken;
    asked = asked_both ys q.asked;
    answered = λ V b.
        let it = q.answered (vault_after V xs) (then_before V b) in
        (sent_both V ys b it.0, kept_both V ys it.1);
  }

  pub before_then : (ys : List (Asked X)) → AnsweredBefore k [] late ys
      → AnsweredBefore k first (joined early late) (xs ++ ys)
  before_then ys q = record {
    unused = q.unused;
    one = q.one;
    taken = taken_then (pairs_of ys ++ q.unused) q.taken
        ∙ ap (λ ps. early.given_old ++ ps) (sym (append_assoc (pairs_of xs) (pairs_of ys) q.unused)
        ∙ ap (λ ps. ps ++ q.unused) (sym (map-append (λ (y : Asked X). y.pair) xs ys)));
    asked = asked_both ys q.asked;
    answered = λ V b.
        let it = q.answered (vault_after V xs) (then_before V b) in
        (sent_both V ys b it.0, kept_both V ys it.1);
  }

  pub cut_then : (ys : List (Asked X)) (x : Asked X) → CutAt k [] late ys x
      → CutAt k first (joined early late) (xs ++ ys) x
  cut_then ys x q = record {
    sent = q.sent;
    taken = taken_one ys x q.taken;
    asked = asked_one ys x q.asked;
    answered = λ V b.
        let it = q.answered (vault_after V xs) (then_before V b) in
        let at = sym (vault_after-append V xs ys) in
        let cut : Content → List ℕ = λ U. take q.sent (text_at k.text U x) in
        let mid : Content = vault_after (vault_after V xs) ys in
        let went : Sends (joined early late) ((first ++ texts k.text V (xs ++ ys)) ++ cut mid) =
        subst (Sends (joined early late))
        (sym (append_assoc (first ++ texts k.text V xs) (texts k.text (vault_after V xs) ys) (cut mid))
        ∙ ap (λ t. t ++ cut mid) (texts_both V ys)) (sent_then V _ b it.1) in (
          subst (λ U. q.sent < length (text_at k.text U x)) at it.0,
          subst (λ U. Sends (joined early late) ((first ++ texts k.text V (xs ++ ys)) ++ cut U)) at went,
          kept_one V ys x it.2,
        );
  }

  pub undecided_then : (ys : List (Asked X)) (x : Asked X) → UndecidedAt k [] late ys x
      → UndecidedAt k first (joined early late) (xs ++ ys) x
  undecided_then ys x q = record {
    taken = taken_one ys x q.taken;
    asked = asked_one ys x q.asked;
    answered = λ V b.
        let it = q.answered (vault_after V xs) (then_before V b) in (
          sent_both V ys b it.0,
          with_one (λ zs. late.left_new (vault_after V (xs ++ ys)) (vault_after V zs)) ys x
              (subst (λ U. late.left_new U (vault_after V (xs ++ (ys ++ x ∷ []))))
              (sym (vault_after-append V xs ys))
              (subst (late.left_new (vault_after (vault_after V xs) ys))
              (sym (vault_after-append V xs (ys ++ x ∷ []))) it.1)),
        );
  }

  pub silent_then : (ys : List (Asked X)) (x : Asked X) → SilentAt k [] late ys x
      → SilentAt k first (joined early late) (xs ++ ys) x
  silent_then ys x q = record {
    taken = taken_one ys x q.taken;
    asked = asked_one ys x q.asked;
    answered = λ V b.
        let it = q.answered (vault_after V xs) (then_before V b) in
        (sent_both V ys b it.0, kept_one V ys x it.1);
  }
