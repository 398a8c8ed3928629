use Rattle.vault_words.proofs.tree.tree.Goals as goal

pub returns : goal.returns
returns c =
    let h₁ = c.with-tree.ensures _ _ c.root.ensures c.trial.ensures in
    let h₂ = c.with-tree-2.ensures _ _ h₁ c.merchant.ensures in
    let h₃ = c.with-tree-3.ensures _ _ h₂ c.merchants.ensures in
    let h₄ = c.with-tree-4.ensures _ _ h₃ c.grant.ensures in
    let h₅ = c.with-tree-5.ensures _ _ h₄ c.withdraw.ensures in
    let h₆ = c.with-tree-6.ensures _ _ h₅ c.rights.ensures in
    let h₇ = c.with-tree-7.ensures _ _ h₆ c.pipe.ensures in
    let h₈ = c.with-tree-8.ensures _ _ h₇ c.batch.ensures in
    let h₉ = c.with-tree-9.ensures _ _ h₈ c.serve.ensures in
    let h₁₀ = c.with-tree-10.ensures _ _ h₉ c.sweep.ensures in
    let h₁₁ = c.with-tree-11.ensures _ _ h₁₀ c.list.ensures in
    let h₁₂ = c.with-tree-12.ensures _ _ h₁₁ c.check.ensures in
    c.with-tree-13.ensures _ _ h₁₂ c.migrate.ensures
