-- Commands with which a service begins, in two parts.
use Rattle.std.proofs.Common.{◌≡◌, ◌∙◌, ℕ, zero, suc, ◌+◌, ◌≤◌, List, [], ◌∷◌, ◌++◌, length, take}
use Rattle.std.proofs.Common.{replicate, arith}
use Rattle.std.proofs.Common.{◌⊎◌, Result, Ok, Err, inl, inr, refl, sym, ap, subst, append_assoc}
use Rattle.std.proofs.Math.Seq.{take-length}
use Rattle.std.proofs.lemmas.List.{replicate-append-replicate}
use Rattle.vault_core.specs.Runs.{replies, run}
use Rattle.vault_core.specs.Table.{after, reply}
use Rattle.vault_core.specs.Vault.{Vault as Content}
use Rattle.vault_core.specs.declared.command.Command.{Command}
use Rattle.vault_core.specs.declared.reply.Reply.TheVariants as answer
use Rattle.vault_engine.specs.Passing.{IsBefore, Keeps, Passage}
use Rattle.vault_store.specs.declared.vault.Fault.{Fault}
use Rattle.vault_store.specs.declared.vault.Fault.TheVariants.{Memory, Store, Reopen}
use Rattle.vault_changes.specs.Carried.{Verdict}
use Rattle.vault_changes.specs.Grants.{AreDone, CarriesAll}
use Rattle.vault_changes.specs.Settling.{FailsToRead}
use Rattle.vault_jobs.specs.Beginning.{CarriesTo}

-- the first of two lists, as far as the first one goes, and past it
take_within : (a b : List Command) (k : ℕ) → k ≤ length a → take k (a ++ b) ≡ take k a
take_within a b zero few = refl
take_within [] b (suc k) few = absurd (omega (arith, few))
take_within (c ∷ a) b (suc k) few = ap (λ cs. c ∷ cs) (take_within a b k (omega (arith, few)))

take_past : (a b : List Command) (k : ℕ) → take (length a + k) (a ++ b) ≡ a ++ take k b
take_past [] b k = let e : length {A = Command} [] + k ≡ k = omega arith in ap (λ n. take n b) e
take_past (c ∷ a) b k =
    let e : length (c ∷ a) + k ≡ suc (length a + k) = omega arith in
    ap (λ n. take n (c ∷ a ++ b)) e ∙ ap (λ cs. c ∷ cs) (take_past a b k)

length_both : (a b : List Command) → length (a ++ b) ≡ length a + length b
length_both [] b = omega arith
length_both (c ∷ a) b =
    let e = length_both a b in omega (arith, e)

run_both : (a b : List Command) (V : Content) → run (a ++ b) V ≡ run b (run a V)
run_both [] b V = refl
run_both (c ∷ a) b V = run_both a b (after V c)

replies_both : (a b : List Command) (V : Content) → replies (a ++ b) V ≡ replies a V ++ replies b (run a V)
replies_both [] b V = refl
replies_both (c ∷ a) b V = ap (λ rs. reply V c ∷ rs) (replies_both a b (after V c))

-- the replies to the first list, which is done, and to some of the second
replies_past : (a b : List Command) (V : Content) (k : ℕ) → AreDone (length a) a V
    → replies (take (length a + k) (a ++ b)) V
    ≡ replicate (length a) answer.Done ++ replies (take k b) (run a V)
replies_past a b V k done =
    let all : replies a V ≡ replicate (length a) answer.Done =
    ap (λ cs. replies cs V) (sym (take-length a)) ∙ done in
    ap (λ cs. replies cs V) (take_past a b k) ∙ replies_both a (take k b) V
    ∙ ap (λ rs. rs ++ replies (take k b) (run a V)) all

done_past : (a b : List Command) (V : Content) (k : ℕ) → AreDone (length a) a V → AreDone k b (run a V)
    → AreDone (length a + k) (a ++ b) V
done_past a b V k done more =
    replies_past a b V k done ∙ ap (λ rs. replicate (length a) answer.Done ++ rs) more
    ∙ replicate-append-replicate (length a) k answer.Done

run_past : (a b : List Command) (V : Content) (k : ℕ)
    → run (take (length a + k) (a ++ b)) V ≡ run (take k b) (run a V)
run_past a b V k = ap (λ cs. run cs V) (take_past a b k) ∙ run_both a (take k b) V

-- commands that all vaults that were held ask for
pub carried_to : (all cs : List Command) (V : Content) (w : Passage)
    (r : Result Verdict Fault) → IsBefore w V → cs ≡ all → CarriesAll cs w r
    → CarriesTo all V w r
carried_to all cs V w r b is h = subst (λ ds. CarriesTo ds V w r) is (by_end r h)
  where
    by_end : (r : Result Verdict Fault) → CarriesAll cs w r → CarriesTo cs V w r
    by_end (Ok (Ok done)) h = h V b
    by_end (Ok (Err n)) (k, below, h) = let it = h V b in (k, below, it.0, it.1)
    by_end (Err Memory) (k, below, h) = let it = h V b in (k, omega (arith, below), it.0, it.1)
    by_end (Err Store) (k, below, h) =
        let it = h V b in (k, omega (arith, below), it.0, it.1, inr (below, it.2))
    by_end (Err Reopen) h = absurd h

-- none of them is carried out, since what is held wasn't read
pub unread_to : (all : List Command) (V : Content) (w : Passage) (f : Fault)
    → IsBefore w V → FailsToRead w f → CarriesTo all V w (Err f)
unread_to all V w Memory b h = (0, omega arith, refl, h V b)
unread_to all V w Store b (is, h) = (0, omega arith, is, refl, inl (h V b))
unread_to all V w Reopen b h = absurd h

-- some of them are carried out, or none is, since what is held wasn't read
pub failed_to : (wants : Content → List Command) (V : Content) (w : Passage) (f : Fault)
    → IsBefore w V
    → ((cs : List Command) × ((U : Content) → IsBefore w U → cs ≡ wants U) × CarriesAll cs w (Err f))
    ⊎ FailsToRead w f → CarriesTo (wants V) V w (Err f)
failed_to wants V w f b (inl (cs, of, h)) = carried_to (wants V) cs V w (Err f) b (of V b) h
failed_to wants V w f b (inr h) = unread_to (wants V) V w f b h

-- it ended in the first of two lists
pub ended_first : (a b : List Command) (V : Content) (w : Passage) (r : Result Verdict Fault)
    → ¬ (r ≡ Ok (Ok tt)) → CarriesTo a V w r → CarriesTo (a ++ b) V w r
ended_first a b V w r not_done h = by_end r not_done h
  where
    more : (k : ℕ) → k ≤ length a → k ≤ length (a ++ b)
    more k few = let e = length_both a b in omega (arith, few, e)

    by_end : (r : Result Verdict Fault) → ¬ (r ≡ Ok (Ok tt)) → CarriesTo a V w r
        → CarriesTo (a ++ b) V w r
    by_end (Ok (Ok tt)) never h = absurd (never refl)
    by_end (Ok (Err n)) never (k, below, replied, kept) =
        let same = take_within a b (k + 1) (omega (arith, below)) in
        let e = length_both a b in (
          k,
          omega (arith, below, e),
          ap (λ cs. replies cs V) same ∙ replied,
          subst (λ cs. Keeps w (run cs V)) (sym same) kept,
        )
    by_end (Err Memory) never (k, few, done, kept) =
        let same = take_within a b k few in (
          k,
          more k few,
          ap (λ cs. replies cs V) same ∙ done,
          subst (λ cs. Keeps w (run cs V)) (sym same) kept,
        )
    by_end (Err Store) never (k, few, is, done, inl torn) =
        let same = take_within a b k few in (
          k,
          more k few,
          is,
          ap (λ cs. replies cs V) same ∙ done,
          inl (subst (λ cs. w.left_new (run cs V) (run cs V)) (sym same) torn),
        )
    by_end (Err Store) never (k, few, is, done, inr (below, torn)) =
        let same = take_within a b k few in
        let next = take_within a b (k + 1) (omega (arith, below)) in
        let e = length_both a b in (
          k,
          more k few,
          is,
          ap (λ cs. replies cs V) same ∙ done,
          inr (
            omega (arith, below, e),
            subst (λ cs. w.left_new (run cs V) (run (take (k + 1) (a ++ b)) V)) (sym same)
                (subst (λ cs. w.left_new (run (take k a) V) (run cs V)) (sym next) torn),
          ),
        )
    by_end (Err Reopen) never h = absurd h

-- it ended in the second one, before which the first one was done
pub ended_second : (a b : List Command) (V : Content) (w : Passage) (r : Result Verdict Fault)
    → AreDone (length a) a V → CarriesTo b (run a V) w r → CarriesTo (a ++ b) V w r
ended_second a b V w r first h = by_end r h
  where
    fits : (k : ℕ) → k ≤ length b → length a + k ≤ length (a ++ b)
    fits k few = let e = length_both a b in omega (arith, few, e)

    by_end : (r : Result Verdict Fault) → CarriesTo b (run a V) w r → CarriesTo (a ++ b) V w r
    by_end (Ok (Ok tt)) (done, kept) = (
      subst (λ n. AreDone n (a ++ b) V) (sym (length_both a b)) (done_past a b V (length b) first done),
      subst (λ X. Keeps w X) (sym (run_both a b V)) kept,
    )
    by_end (Ok (Err n)) (k, below, replied, kept) =
        let e = length_both a b in
        let next : length a + k + 1 ≡ length a + (k + 1) = omega arith in (
          length a + k,
          omega (arith, below, e),
          ap (λ i. replies (take i (a ++ b)) V) next ∙ replies_past a b V (k + 1) first
              ∙ ap (λ rs. replicate (length a) answer.Done ++ rs) replied
              ∙ sym (append_assoc (replicate (length a) answer.Done) (replicate k answer.Done)
              (answer.Refused n ∷ []))
              ∙ ap (λ rs. rs ++ answer.Refused n ∷ []) (replicate-append-replicate (length a) k answer.Done),
          subst (λ X. Keeps w X) (sym (run_past a b V (k + 1))
              ∙ ap (λ i. run (take i (a ++ b)) V) (sym next)) kept,
        )
    by_end (Err Memory) (k, few, done, kept) = (
      length a + k,
      fits k few,
      done_past a b V k first done,
      subst (λ X. Keeps w X) (sym (run_past a b V k)) kept,
    )
    by_end (Err Store) (k, few, is, done, inl torn) = (
      length a + k,
      fits k few,
      is,
      done_past a b V k first done,
      inl (subst (λ X. w.left_new X X) (sym (run_past a b V k)) torn),
    )
    by_end (Err Store) (k, few, is, done, inr (below, torn)) =
        let e = length_both a b in
        let next : length a + k + 1 ≡ length a + (k + 1) = omega arith in (
          length a + k,
          fits k few,
          is,
          done_past a b V k first done,
          inr (
            omega (arith, below, e),
            subst (λ X. w.left_new X (run (take (length a + k + 1) (a ++ b)) V)) (sym (run_past a b V k))
                (subst (λ Y. w.left_new (run (take k b) (run a V)) Y)
                (sym (run_past a b V (k + 1)) ∙ ap (λ i. run (take i (a ++ b)) V) (sym next)) torn),
          ),
        )
    by_end (Err Reopen) h = absurd h
