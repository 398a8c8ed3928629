use Rattle.vault_words.proofs.commands.rights.withdraw.Goals as goal

pub returns : goal.returns
returns c =
    let h₁ = c.add-command.ensures _ _ c.command.ensures c.now.ensures in
    c.on_right.ensures _ h₁
