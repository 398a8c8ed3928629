use Rattle.vault_words.proofs.commands.serve.serve.Goals as goal

pub returns : goal.returns
returns c =
    let h₀ = c.with_notes.ensures _ c.command.ensures in
    let connections = c.number_after-connections.ensures in
    let h₁ = c.add-command.ensures _ _ h₀ connections in
    let port = c.number_after-port.ensures in
    let h₂ = c.add-command-2.ensures _ _ h₁ port in
    let rights = c.text_after-rights.ensures in
    let h₃ = c.add-command-3.ensures _ _ h₂ rights in
    let merchants = c.text_after-merchants.ensures in
    let h₄ = c.add-command-4.ensures _ _ h₃ merchants in
    c.add.ensures _ _ h₄ c.file.ensures
