use Rattle.vault_words.proofs.commands.check.check.Goals as goal

pub returns : goal.returns
returns c =
    c.add.ensures _ _ c.command.ensures c.text-file.ensures
