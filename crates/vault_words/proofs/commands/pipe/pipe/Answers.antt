use Rattle.vault_words.proofs.commands.pipe.pipe.Goals as goal

pub returns : goal.returns
returns c =
    let h₁ = c.add-command.ensures _ _ c.command.ensures c.now.ensures in
    let h₂ = c.add-command-2.ensures _ _ h₁ c.digits.ensures in
    c.add.ensures _ _ h₂ c.file.ensures
