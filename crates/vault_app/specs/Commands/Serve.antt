-- `serve`: the vault of a file served on a port.
use Rattle.std.specs.Prelude.{◌≡◌, ◌⊎◌, ℕ, IsSome, unwrap_or}
use Rattle.vault_words.specs.declared.commands.serve.ServeJob.{ServeJob}
use Rattle.vault_jobs.specs.declared.lists.Lists.{Lists}
use Rattle.vault_jobs.specs.declared.task.Task.{Task}
use Rattle.vault_jobs.specs.declared.task.Task.TheVariants as task
use Rattle.vault_merchants.specs.ListedMerchants.{AreListed}
use Rattle.vault_live.specs.Following.{AreRowsIn}
use Rattle.vault_live.specs.Kinds.{HasMerchantsFault, HasRightsFault}
use Rattle.vault_live.specs.declared.subject.Subject.TheVariants.{Rights, Merchants}
use Rattle.vault_app.specs.Followed.{IsFaultyAt, IsFollowed, IsUnfinishedAt}
use Rattle.vault_app.specs.Saying.{OfTask, Saying, quiet}
use Rattle.vault_app.specs.World.{World}

-- the connections after which a service ends that goes on until it is ended: more than any lives to see
abbrev pub without_end : ℕ
without_end = 18446744073709551615

-- A service on a port of so many connections. Where the words name lists, it begins with the merchants and
-- the rights that texts of these files list, at moments that were told, and follows the files.
abbrev pub IsServeOf : ServeJob → World → Task → Type 0
IsServeOf j world t = (lists : Lists) × IsFollowed AreListed world j.merchants lists.merchants
    × IsFollowed AreRowsIn world j.rights lists.rights
    × (t ≡ task.Serve (record {
      port = j.port;
      connections = unwrap_or j.connections without_end;
      lists = lists;
    }))

-- it is refused for a text of the file of a list, or since that isn't whole, where it has one, and needs a
-- moment only then
abbrev pub serve_says : ServeJob → Saying
serve_says j = record (quiet (OfTask j.file (IsServeOf j))) {
  refused = λ world n. IsFaultyAt HasMerchantsFault world j.merchants n
      ⊎ IsFaultyAt HasRightsFault world j.rights n;
  unfinished = λ world about. (about ≡ Merchants) × IsUnfinishedAt world j.merchants
      ⊎ (about ≡ Rights) × IsUnfinishedAt world j.rights;
  needs_moment = IsSome j.merchants ⊎ IsSome j.rights;
  has_list = λ about. (about ≡ Merchants) × IsSome j.merchants ⊎ (about ≡ Rights) × IsSome j.rights;
}
