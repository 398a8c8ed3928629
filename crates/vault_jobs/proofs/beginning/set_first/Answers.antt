use Rattle.std.proofs.Common.{◌≡◌, List, Option, Some, Result, Ok, Err, subst, sym}
use Rattle.vault_engine.specs.Passing.{Passage, passage}
use Rattle.vault_core.specs.Vault.{Vault as Content}
use Rattle.vault_changes.specs.Carried.{Verdict}
use Rattle.vault_changes.specs.Settings.{Sets, settings_at}
use Rattle.vault_merchants.specs.ListedMerchants.{Wanted}
use Rattle.vault_store.specs.Listed.{merchant_rows}
use Rattle.vault_store.specs.declared.vault.Fault.{Fault}
use Rattle.vault_live.specs.Kinds.{merchants_changes}
use Rattle.vault_jobs.specs.Beginning.{CarriesTo}
use Rattle.vault_jobs.specs.Lists.{first_of}
use Rattle.vault_jobs.specs.declared.lists.ListFile.{ListFile}
use Rattle.vault_jobs.proofs.TwoParts.{carried_to, failed_to}
use Rattle.vault_jobs.proofs.beginning.set_first.Goals.{in-Ok, in-Err}
use Rattle.vault_jobs.proofs.beginning.set_first.Goals as goal

-- what is carried out of a list that is there
there : (o : Option (ListFile Wanted)) (it : ListFile Wanted) → o ≡ Some it → (V : Content) (w : Passage)
    (r out : Result Verdict Fault) → out ≡ r
    → CarriesTo (settings_at it.now it.rows.items (merchant_rows V)) V w r
    → CarriesTo (first_of merchants_changes o V) V w out
there o it is V w r out same h =
    subst (λ x. CarriesTo (first_of merchants_changes x V) V w out) (sym is)
    (subst (λ x. CarriesTo (settings_at it.now it.rows.items (merchant_rows V)) V w x) (sym same) h)

pub returns-clause-carried : goal.returns-clause-carried
returns-clause-carried g c = λ V b.
    let w : Passage = passage g.T.Tables c.args.vault.now c.set_merchants.new.vault in
    let now = c.in-Some.it.now in
    elim c.match-set_merchants.branch [
      | in-Ok m ↦
          let it = m.in-Ok in
          let of : it.field-0-1.items ≡ settings_at now c.in-Some.it.rows.items (merchant_rows V) =
          subst (λ (rows : List Wanted). it.field-0-1.items ≡ settings_at now rows (merchant_rows V))
          c.as_slice.ensures.value (it.ensures.changes V b) in
          there c.args.listed.now c.in-Some.it c.in-Some.is V w (Ok it.verdict)
          c.match-set_merchants.result m.result-is
          (carried_to (settings_at now c.in-Some.it.rows.items (merchant_rows V)) it.field-0-1.items V w
          (Ok it.verdict) b of it.ensures.carried)
      | in-Err m ↦
          let it = m.in-Err in
          there c.args.listed.now c.in-Some.it c.in-Some.is V w (Err it.fault)
          c.match-set_merchants.result m.result-is
          (failed_to (λ U. settings_at now c.in-Some.it.rows.items (merchant_rows U)) V w it.fault b
          (subst (λ (rows : List Wanted). Sets now rows w it.fault) c.as_slice.ensures.value
          it.ensures.failed))
    ]
