use Rattle.vault_words.proofs.commands.trial.trial.Goals as goal

pub returns : goal.returns
returns c =
    let h₁ = c.add-command.ensures _ _ c.command.ensures c.now.ensures in
    let h₂ = c.add-command-2.ensures _ _ h₁ c.digits.ensures in
    let h₃ = c.add-command-3.ensures _ _ h₂ c.text-caller.ensures in
    let h₄ = c.add-command-4.ensures _ _ h₃ c.text-merchant.ensures in
    c.add.ensures _ _ h₄ c.number-life.ensures
