use Rattle.vault_words.proofs.commands.rights.on_right.Goals as goal

pub returns : goal.returns
returns c a is =
    let h₁ = c.add-command.ensures _ _ is c.file.ensures in
    let h₂ = c.add-command-2.ensures _ _ h₁ c.text-caller.ensures in
    let h₃ = c.add-command-3.ensures _ _ h₂ c.text-merchant.ensures in
    c.add.ensures _ _ h₃ c.text-right.ensures
