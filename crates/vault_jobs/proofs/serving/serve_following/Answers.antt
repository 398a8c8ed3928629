use Rattle.std.proofs.Common.{◌≡◌, ◌⊎◌, false}
use Rattle.std.specs.Prelude.{IsSomeAnd, is_some}
use Rattle.vault_engine.specs.Passing.{passage}
use Rattle.vault_merchants.specs.ListedMerchants.{AreListed}
use Rattle.vault_live.specs.Following.{AreRowsIn, Asks}
use Rattle.vault_live.specs.Kinds.{merchants_changes, rights_changes}
use Rattle.vault_live.specs.Sweeping.{AsksPurges}
use Rattle.vault_live.specs.Turns.{Asking}
use Rattle.vault_jobs.proofs.Followed.{asks_as, asks_listed, neither, none_followed, not_first, not_second}
use Rattle.vault_jobs.specs.Doing.{ServeEnds, serving_of}
use Rattle.vault_jobs.specs.Lists.{follows, path_of}
use Rattle.vault_jobs.proofs.serving.serve_following.Given.{Over}
use Rattle.vault_jobs.proofs.serving.serve_following.Goals.{After-serve_at}
use Rattle.vault_jobs.specs.Streams.{output_with}
use Rattle.vault_jobs.proofs.serving.serve_following.Goals as goal

pub returns-clause-does : goal.returns-clause-does
returns-clause-does g c =
    let does = c.serve_at.ensures.does in
    let tells = g.K.Timekeeper.tells c.args.time.now in
    let says = g.D.Desk.says in
    let desk = c.args.desk.now in
    let it = c.args.service.now in
    let ends : Asking → Type 0 = λ asks. ServeEnds (serving_of tells asks it.port it.connections)
    (passage g.T.Tables c.args.vault.now c.serve_at.new.vault) c.serve_at.result
    (output_with (c.serve_at.new.output ≡ c.args.output.now) (g.W.Write.contents c.args.output.now.inner)
    (g.W.Write.contents c.serve_at.new.output.inner) c.serve_at.new.output.stopped) does.0 in
    let lists = it.lists in
    let sets : Asking = λ V cs. IsSomeAnd lists.merchants
    (λ it. Asks AreListed merchants_changes (says desk (path_of it)) tells V cs) in
    let gives : Asking = λ V cs. IsSomeAnd lists.rights
    (λ it. Asks AreRowsIn rights_changes (says desk (path_of it)) tells V cs) in
    let rights_office : Asking = λ V cs. IsSomeAnd c.rights_of.result
    (λ f. Asks AreRowsIn rights_changes (says f.desk.now f.path.now) tells V cs) in
    let sweeps_office : Asking = λ V cs. IsSomeAnd c.shops_of.result
    (λ f. AsksPurges f.began.now (says f.list.desk.now f.list.path.now) tells V cs) in
    let first = asks_as (λ f. f.list.desk.now) (λ f. f.list.path.now) (λ it. path_of it) desk
    c.shops_of.result lists.merchants c.shops_of.ensures.desk c.shops_of.ensures.path
    (λ d p V cs. Asks AreListed merchants_changes (says d p) tells V cs)
    (λ asks. ends (λ V cs. asks V cs ⊎ rights_office V cs ⊎ sweeps_office V cs)) does.2 in
    let second = asks_as (λ f. f.desk.now) (λ f. f.path.now) (λ it. path_of it) desk
    c.rights_of.result lists.rights c.rights_of.ensures.desk c.rights_of.ensures.path
    (λ d p V cs. Asks AreRowsIn rights_changes (says d p) tells V cs)
    (λ asks. ends (λ V cs. sets V cs ⊎ asks V cs ⊎ sweeps_office V cs)) first in
    let third = asks_listed (λ f. f.list.desk.now) (λ f. f.list.path.now) (λ it. path_of it) desk
    (λ f. f.began.now) (λ it. it.rows.items) c.shops_of.result lists.merchants
    c.shops_of.ensures.desk c.shops_of.ensures.path c.shops_of.ensures.rows
    (λ d p rows V cs. AsksPurges rows (says d p) tells V cs)
    (λ asks. ends (λ V cs. sets V cs ⊎ gives V cs ⊎ asks V cs)) second in
    (does.0, does.1, third)

module _ (g : Over) (c : After-serve_at g) (none : follows c.args.service.now.lists ≡ false) where
  -- where nothing is followed, the office doesn't act
  no_shops : is_some c.shops_of.result ≡ false
  no_shops = none_followed (λ f. f.list.path.now) (λ it. path_of it) c.shops_of.result
      c.args.service.now.lists.merchants c.shops_of.ensures.path (not_first _ _ none)

  no_rights : is_some c.rights_of.result ≡ false
  no_rights = none_followed (λ f. f.path.now) (λ it. path_of it) c.rights_of.result
      c.args.service.now.lists.rights c.rights_of.ensures.path (not_second _ _ none)

pub returns-clause-store : goal.returns-clause-store
returns-clause-store g c = λ none.
    let it = (goal.at.returns-clause-store g c).After-serve_at in
    c.serve_at.ensures.store (neither _ _ (no_shops g it none) (no_rights g it none))

pub returns-clause-writer_ok : goal.returns-clause-writer_ok
returns-clause-writer_ok g c = λ none.
    let it = (goal.at.returns-clause-writer_ok g c).After-serve_at in
    c.serve_at.ensures.writer_ok (neither _ _ (no_shops g it none) (no_rights g it none))
