-- `grant` and `withdraw`: a caller's right at a merchant.
use Rattle.std.specs.Prelude.{◌≡◌, ℕ, None}
use Rattle.vault_core.specs.Words.{right_word}
use Rattle.vault_core.specs.declared.command.Command.TheVariants as command
use Rattle.vault_core.specs.declared.right.Right.{Right}
use Rattle.vault_words.specs.declared.commands.rights.GrantJob.{GrantJob}
use Rattle.vault_words.specs.declared.commands.rights.RightJob.{RightJob}
use Rattle.vault_jobs.specs.Moments.{IsMomentOf}
use Rattle.vault_jobs.specs.declared.task.Task.{Task}
use Rattle.vault_jobs.specs.declared.task.Task.TheVariants as task
use Rattle.vault_app.specs.Asked.{AreNames, MisnamesRight}
use Rattle.vault_app.specs.Saying.{OfTask, Saying, quiet}
use Rattle.vault_app.specs.World.{World}

-- the right of this word is given, at the moment that the words fix, or else at one that was told
abbrev pub IsGrantOf : GrantJob → World → Task → Type 0
IsGrantOf j world t = AreNames j.given
    × ((right : Right) × (now : ℕ) × (j.given.right.now ≡ right_word right)
    × IsMomentOf world.tells j.given.now now
    × (t ≡ task.Change (command.Grant j.given.caller.now j.given.merchant.now right j.until now)))

-- its caller or its merchant may be no name, or its word no right
abbrev pub grant_says : GrantJob → Saying
grant_says j = record (quiet (OfTask j.given.file (IsGrantOf j))) {
  misnamed = MisnamesRight j.given;
  needs_moment = j.given.now ≡ None;
}

-- the right of this word is taken away, at such a moment
abbrev pub IsWithdrawalOf : RightJob → World → Task → Type 0
IsWithdrawalOf j world t = AreNames j
    × ((right : Right) × (now : ℕ) × (j.right.now ≡ right_word right) × IsMomentOf world.tells j.now now
    × (t ≡ task.Change (command.Withdraw j.caller.now j.merchant.now right now)))

-- its words may be none as those of a grant
abbrev pub withdraw_says : RightJob → Saying
withdraw_says j = record (quiet (OfTask j.file (IsWithdrawalOf j))) {
  misnamed = MisnamesRight j;
  needs_moment = j.now ≡ None;
}
