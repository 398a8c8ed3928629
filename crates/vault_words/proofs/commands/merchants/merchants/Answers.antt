use Rattle.vault_words.proofs.commands.merchants.merchants.Goals as goal

pub returns : goal.returns
returns c =
    let h₀ = c.with_notes.ensures _ c.command.ensures in
    let h₁ = c.add-command.ensures _ _ h₀ c.now.ensures in
    let h₂ = c.add-command-2.ensures _ _ h₁ c.flag-dry_run.ensures in
    let h₃ = c.add-command-3.ensures _ _ h₂ c.file.ensures in
    c.add.ensures _ _ h₃ c.text-list.ensures
