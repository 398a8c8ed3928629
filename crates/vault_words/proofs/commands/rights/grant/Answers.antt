use Rattle.vault_words.proofs.commands.rights.grant.Goals as goal

pub returns : goal.returns
returns c =
    let h₀ = c.with_notes.ensures _ c.command.ensures in
    let h₁ = c.add-command.ensures _ _ h₀ c.now.ensures in
    let h₂ = c.add-command-2.ensures _ _ h₁ c.until.ensures in
    c.on_right.ensures _ h₂
