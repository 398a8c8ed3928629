use Rattle.std.proofs.Common.{Err, inl, map, subst, sym, ◌∙◌}
use Rattle.std.proofs.lemmas.List.{map-id}
use Rattle.std.specs.Prelude.{All}
use Rattle.vault_engine.specs.Passing.{Passage, vault_passing}
use Rattle.vault_store.specs.Applied.{Contains, tables_of}
use Rattle.vault_changes.proofs.Refining.{carries_all}
use Rattle.vault_changes.specs.Carried.{IsCarriedOut}
use Rattle.vault_changes.specs.Grants.{CarriesAll}
use Rattle.vault_changes.proofs.settings.set_merchants.Goals as goal

pub carry_all-requires-clause-carried : goal.carry_all-requires-clause-carried
carry_all-requires-clause-carried g c =
    subst (All IsCarriedOut) (sym (map-id c.as_slice.result.now ∙ c.as_slice.ensures.value))
    (c.in_ok-commands.ensures.carried c.requires.lives)

pub returns-in-Err-clause-failed : goal.returns-in-Err-clause-failed
returns-in-Err-clause-failed g c =
    let honest = g.T.Tables.is_honest in
    let holds = g.T.Tables.holds in
    let leaves = g.T.Tables.leaves in
    let v0 = c.args.vault.now in
    let v1 = c.settings_to.new.vault in
    let v2 = c.carry_all.new.vault in
    let step : Passage = vault_passing honest holds leaves v1 v2 in
    inl (
      c.in_ok-commands.commands.items,
      λ V b. (c.in_ok-commands.ensures.found V (c.in-Err.ensures.disk_honest b.0, b.1)).0,
      subst (λ cs. CarriesAll cs (vault_passing honest holds leaves v0 v2)
          (Err c.in-Err.fault)) (map-id c.as_slice.result.now ∙ c.as_slice.ensures.value)
          (carries_all (honest (tables_of v2)) (Contains holds v0) (Contains holds v2) (leaves (tables_of v2))
          step
          (λ V h held. (h, (c.in_ok-commands.ensures.found V (c.in-Err.ensures.disk_honest h, held)).1.0))
          (λ h V kept. kept) (λ h V W torn. torn) (map (λ command. command) c.as_slice.result.now)
          (Err c.in-Err.fault) c.in-Err.ensures.carried),
    )
