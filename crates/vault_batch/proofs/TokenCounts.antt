-- How many rows have a token, and the first line alone.
use Rattle.std.proofs.Common.{◌≡◌, ◌+◌, List, [], ◌∷◌, ◌++◌, refl, sym, ap, ◌∙◌, subst, append-nil}
use Rattle.std.proofs.Common.{cond, arith, ◌≤◌, ℕ}
use mir.Val.{bool_byte}
use Rattle.std.specs.Prelude.{count_by, Bool, true, false, if◌then◌else◌}
use Rattle.std.proofs.lemmas.List.Elements.{All-nil}
use Rattle.std.proofs.lemmas.List.Sums.{sum_by-append}
use Rattle.vault_core.specs.Vault.{Vault as Content}
use Rattle.vault_core.specs.declared.reply.Reply.{Reply}
use Rattle.vault_engine.specs.Asking.{reply_to, vault_after}
use Rattle.vault_engine.specs.Passing.{Passage, IsBefore, Keeps, Sends, Takes}
use Rattle.vault_engine.proofs.Listing.{vault_after-append, vault_after-nil}
use Rattle.vault_batch.specs.Asking.{Asked, Asks}
use Rattle.vault_batch.specs.Batched.{Answered, replies, tokens}
use Rattle.vault_batch.specs.Lines.{first_line, has_token}
use Rattle.vault_batch.specs.Rows.{Row}
use Rattle.vault_batch.specs.declared.asker.Asker.{Asker}

-- no row, and the first line went out
pub first_answered : (who : Asker) (w : Passage) → Takes w [] → Sends w first_line
    → ((V : Content) → IsBefore w V → Keeps w V) → Answered who first_line w []
first_answered who w given sent kept = record {
  taken = given;
  asked = All-nil (Asks who);
  answered = λ V b. (
    subst (Sends w) (sym (append-nil first_line)) sent,
    subst (Keeps w) (sym (vault_after-nil Row V)) (kept V b),
  );
}

replies-append : (V : Content) (xs ys : List Asked)
    → replies V (xs ++ ys) ≡ replies V xs ++ replies (vault_after V xs) ys
replies-append V [] ys = ap (λ W. replies W ys) (sym (vault_after-nil Row V))
replies-append V (x ∷ xs) ys =
    ap (λ rs. reply_to V x.wanted ∷ rs)
    (replies-append (vault_after V (x ∷ [])) xs ys
    ∙ ap (λ W. replies (vault_after V (x ∷ [])) xs ++ replies W ys)
    (sym (vault_after-append V (x ∷ []) xs)))

pub tokens-nil : (V : Content) → tokens V [] ≡ 0
unfolding tokens
tokens-nil V = refl

one_counted : (given : List Reply) (r : Reply)
    → count_by has_token (given ++ r ∷ []) ≡ count_by has_token given + (if has_token r then 1 else 0)
one_counted given r =
    let both : count_by has_token (given ++ r ∷ []) ≡ count_by has_token given + count_by has_token (r ∷ []) =
    sum_by-append (λ (s : Reply). cond (has_token s) 1 0) given (r ∷ []) in
    omega (arith, both)

pub tokens-more : (V : Content) (xs : List Asked) (x : Asked)
    → tokens V (xs ++ x ∷ [])
    ≡ tokens V xs + (if has_token (reply_to (vault_after V xs) x.wanted) then 1 else 0)
unfolding tokens
tokens-more V xs x =
    ap (λ rs. count_by has_token rs) (replies-append V xs (x ∷ []))
    ∙ one_counted (replies V xs) (reply_to (vault_after V xs) x.wanted)

-- a truth value as a number is at most 1
pub one_at_most : (b : Bool) → bool_byte b ≤ 1
one_at_most true = omega arith
one_at_most false = omega arith

-- a row more, whose line has a token or not
pub counts_one : (b c : Bool) (before now n : ℕ) → n ≡ bool_byte b → b ≡ c
    → now ≡ before + (if c then 1 else 0) → before + n ≡ now
counts_one b true before now n e same k = let f : n ≡ 1 = e ∙ ap bool_byte same in omega (arith, f, k)
counts_one b false before now n e same k = let f : n ≡ 0 = e ∙ ap bool_byte same in omega (arith, f, k)
