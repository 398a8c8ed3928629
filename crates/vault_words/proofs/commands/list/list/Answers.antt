use Rattle.vault_words.proofs.commands.list.list.Goals as goal

pub returns : goal.returns
returns c =
    let h₀ = c.with_notes.ensures _ c.command.ensures in
    let h₁ = c.add-command.ensures _ _ h₀ c.flag-json.ensures in
    c.add.ensures _ _ h₁ c.text-file.ensures
