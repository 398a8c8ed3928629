-- Commands that are carried out one after the other, up to one that isn't done.
use Rattle.std.proofs.Common.{◌≡◌, ◌∙◌, ℕ, ◌+◌, List, [], ◌∷◌, ◌++◌, take, replicate, sym, ap, subst}
use Rattle.std.proofs.Common.{Bool, true, false, Err}
use Rattle.vault_core.specs.Runs.{replies, run}
use Rattle.vault_core.specs.Table.{after, reply}
use Rattle.vault_core.specs.Vault.{Vault as Content}
use Rattle.vault_core.specs.declared.command.Command.{Command}
use Rattle.vault_core.specs.declared.reply.Reply.TheVariants as answer
use Rattle.vault_engine.specs.Passing.{IsBefore, Keeps, Passage, vault_passing}
use Rattle.vault_store.specs.Applied.{Contains, is_broken, tables_of}
use Rattle.vault_store.specs.declared.vault.Fault.TheVariants as vault
use Rattle.vault_store.specs.declared.vault.Vault.{Vault}
use Rattle.vault_changes.proofs.GivenRights.{replies_more, run_more}
use Rattle.vault_changes.specs.Carried.{Carries, Verdict, reply_of}
use Rattle.vault_changes.specs.Grants.{AreDone}
use Rattle.vault_live.specs.First.{AreKept, IsCutAfter, IsRefusedAfter}

module _ {T : Type 0} (honest : T → Type 0) (holds : T → Content → Type 0)
    (leaves : T → Content → Content → Type 0) (v0 v1 v2 : Vault T) (cs : List Command) (i : ℕ)
    (before : (V : Content) → honest (tables_of v1) → Contains holds v0 V
    → AreDone i cs V × Contains holds v1 (run (take i cs) V)) where
  abbrev early : Passage
  early = vault_passing honest holds leaves v0 v1

  abbrev step : Passage
  step = vault_passing honest holds leaves v1 v2

  abbrev both : Passage
  both = vault_passing honest holds leaves v0 v2

  -- the first so many are done
  pub kept_first : ((t : T) (V : Content) → holds t V → honest t → leaves t V V) → AreKept i cs early
  kept_first steady = λ V b. let it = before V b.0 b.1 in
      (it.0, (it.1, steady (tables_of v1) (run (take i cs) V) it.1.0 b.0))

  module _ (c : Command) (more : take (i + 1) cs ≡ take i cs ++ c ∷ [])
      (back : honest (tables_of v2) → honest (tables_of v1)) where
    -- the vault before the next one
    ready : (V : Content) → IsBefore both V → IsBefore step (run (take i cs) V)
    ready V b = (b.0, (before V (back b.0) b.1).1)

    -- the vault after it
    ran : (V : Content) → after (run (take i cs) V) c ≡ run (take (i + 1) cs) V
    ran V = sym (ap (λ ds. run ds V) more ∙ run_more (take i cs) c V)

    -- it is refused
    pub refused_next : (n : ℕ)
        → ((V : Content) → IsBefore step V → (reply V c ≡ answer.Refused n) × Keeps step (after V c))
        → IsRefusedAfter n i cs both
    refused_next n carried = λ V b.
        let all = (before V (back b.0) b.1).0 in
        let h = carried (run (take i cs) V) (ready V b) in (
          all,
          ap (λ ds. replies ds V) more ∙ replies_more (take i cs) c V
              ∙ ap (λ rs. rs ++ reply (run (take i cs) V) c ∷ []) all
              ∙ ap (λ s. replicate i answer.Done ++ s ∷ []) h.0,
          subst (λ W. Contains holds v2 W × leaves (tables_of v2) W W) (ran V) h.1,
        )

    -- memory is refused for it
    pub stopped_next : ((V : Content) → IsBefore step V → Keeps step V) → AreKept i cs both
    stopped_next carried = λ V b. ((before V (back b.0) b.1).0, carried (run (take i cs) V) (ready V b))

    -- the store fails at it
    pub cut_next : (b : Bool) → is_broken v2 ≡ b → Carries c step (Err vault.Store)
        → ((V : Content) → (v : Verdict) × (reply V c ≡ reply_of v)) → IsCutAfter i cs both
    cut_next true is carried plain = λ V b. (
      (before V (back b.0) b.1).0,
      subst (λ W. leaves (tables_of v2) (run (take i cs) V) W) (ran V)
          (carried.0 is (run (take i cs) V) (ready V b)),
    )
    cut_next false is carried plain = λ V b.
        let W : Content = run (take i cs) V in
        absurd ((carried.1 is W (ready V b)).0 (plain W).0 (plain W).1)
