-- Units one after the other.
use Rattle.std.proofs.Common.{◌≡◌, List, [], ◌∷◌, ◌++◌, refl, sym, ap, ◌∙◌, append-nil, append_assoc, Ok, Err}
use Rattle.std.proofs.lemmas.Grind.{flat_map-append}
use Rattle.vault_core.specs.Runs.{run}
use Rattle.vault_core.specs.Vault.{Vault as Content}
use Rattle.vault_core.specs.declared.command.Command.{Command}
use Rattle.vault_engine.specs.Asking.{Asked, Kind, Wanted, commands_in, commands_of, left_by, text_at, texts}
use Rattle.vault_engine.specs.Asking.{vault_after}

run_append : (cs ds : List Command) (V : Content) → run (cs ++ ds) V ≡ run ds (run cs V)
run_append [] ds V = refl
run_append (c ∷ cs) ds V = run_append cs ds _

run_one : (V : Content) (w : Wanted) → run (commands_in w ++ []) V ≡ left_by V w
run_one V (Ok c) = refl
run_one V (Err n) = refl

pub vault_after-nil : (X : Type 0) (V : Content) → vault_after {X = X} V [] ≡ V
unfolding vault_after
vault_after-nil X V = refl

module _ {X : Type 0} where
  pub vault_after-append : (V : Content) (xs ys : List (Asked X))
      → vault_after V (xs ++ ys) ≡ vault_after (vault_after V xs) ys
  unfolding vault_after
  vault_after-append V xs ys =
      ap (λ cs. run cs V) (flat_map-append (λ (x : Asked X). commands_in x.wanted) xs ys)
      ∙ run_append (commands_of xs) (commands_of ys) V

  pub vault_after-one : (V : Content) (x : Asked X) → vault_after V (x ∷ []) ≡ left_by V x.wanted
  unfolding vault_after
  vault_after-one V x = run_one V x.wanted

  pub texts-one : (k : Kind X) (V : Content) (x : Asked X) → texts k.text V (x ∷ []) ≡ text_at k.text V x
  texts-one k V x = append-nil (text_at k.text V x)

  pub texts-append : (k : Kind X) (V : Content) (xs ys : List (Asked X))
      → texts k.text V (xs ++ ys) ≡ texts k.text V xs ++ texts k.text (vault_after V xs) ys
  texts-append k V [] ys = ap (λ W. texts k.text W ys) (sym (vault_after-nil X V))
  texts-append k V (x ∷ xs) ys =
      ap (λ t. text_at k.text V x ++ t)
      (texts-append k (vault_after V (x ∷ [])) xs ys
      ∙ ap (λ W. texts k.text (vault_after V (x ∷ [])) xs ++ texts k.text W ys)
      (sym (vault_after-append V (x ∷ []) xs)))
      ∙ sym (append_assoc (text_at k.text V x) (texts k.text (vault_after V (x ∷ [])) xs)
      (texts k.text (vault_after V (x ∷ xs)) ys))

  pub texts-more : (k : Kind X) (V : Content) (xs : List (Asked X)) (x : Asked X)
      → texts k.text V (xs ++ x ∷ []) ≡ texts k.text V xs ++ text_at k.text (vault_after V xs) x
  texts-more k V xs x =
      texts-append k V xs (x ∷ []) ∙ ap (λ t. texts k.text V xs ++ t) (texts-one k (vault_after V xs) x)
