-- What words ask for in some world, they ask for whatever may be told.
use Rattle.std.proofs.Common.{◌≡◌, ◌⊎◌, ℕ, List, Option, Some, None, inl, inr, sym, refl, Bor, subst}
use Rattle.sqlite_wal.specs.Recovery.{Image}
use Rattle.vault_jobs.specs.Moments.{IsMomentOf}
use Rattle.vault_jobs.specs.declared.task.Task.{Task}
use Rattle.clap.specs.Words.{Text}
use Rattle.vault_words.specs.declared.jobs.Job.{Job}
use Rattle.vault_words.specs.declared.jobs.Job.TheVariants as job
use Rattle.vault_merchants.specs.ListedMerchants.{AreListed}
use Rattle.vault_jobs.specs.declared.lists.ListFile.{ListFile}
use Rattle.vault_live.specs.Following.{AreRowsIn}
use Rattle.vault_live.specs.Kinds.{HasMerchantsFault, HasRightsFault, Naming}
use Rattle.vault_live.specs.declared.subject.Subject.{Subject}
use Rattle.vault_app.specs.Followed.{IsFaultyAt, IsFollowed, IsUnfinishedAt}
use Rattle.vault_app.specs.Plans.{EndsBefore, IsPlanOf, IsTaskOf, saying}
use Rattle.vault_app.specs.Saying.{IsBeside, IsPlanFor, IsTaskFor, OfCheck, OfMove, OfTask, OfTrial, Purpose}
use Rattle.vault_app.specs.Saying.{path_of}
use Rattle.vault_app.specs.Asked.{Unasked}
use Rattle.vault_app.specs.World.{World, anything}
use Rattle.vault_app.specs.declared.ending.Ending.{Ending}
use Rattle.vault_app.specs.declared.ending.Ending.TheVariants as ending
use Rattle.vault_app.specs.declared.plan.Plan.{Plan}
use Rattle.vault_app.specs.declared.plan.Plan.TheVariants as plan
use Rattle.vault_jobs.specs.declared.trial.Trial.{Trial}
use Rattle.vault_promise.specs.Runs.{IsMoving, IsTrialFor, Moments, TellsOnly, Texts, file_of, told_by, world_with}

-- the job asks for a check
abbrev pub IsChecking : Purpose → Type 0
IsChecking (OfCheck path) = Unit {0}
IsChecking purpose = ⊥

-- what a job asks for that has this plan and is for this
abbrev pub FitsFor : World → Purpose → Plan → Type 0
FitsFor around it (plan.Trial t) = IsTrialFor it around t
FitsFor around it (plan.Check path) = IsChecking it
FitsFor around it (plan.Migrate path) = IsMoving it
FitsFor around it (plan.Do path t) = IsTaskFor it around t

-- what fits a trial or a check is no move
pub trial_stays : (it : Purpose) (around : World) (t : Trial) → IsTrialFor it around t → IsMoving it → ⊥
trial_stays (OfTrial Is) around t is moves = moves
trial_stays (OfCheck path) around t is moves = is
trial_stays (OfMove path) around t is moves = is
trial_stays (OfTask path Is) around t is moves = is

pub check_stays : (it : Purpose) → IsChecking it → IsMoving it → ⊥
check_stays (OfTrial Is) is moves = is
check_stays (OfCheck path) is moves = moves
check_stays (OfMove path) is moves = is
check_stays (OfTask path Is) is moves = is

-- and what fits a check or a move is beside
pub check_beside : (it : Purpose) → IsChecking it → IsBeside it
check_beside (OfTrial Is) is = tt
check_beside (OfCheck path) is = tt
check_beside (OfMove path) is = tt
check_beside (OfTask path Is) is = is

pub move_beside : (it : Purpose) → IsMoving it → IsBeside it
move_beside (OfTrial Is) is = tt
move_beside (OfCheck path) is = tt
move_beside (OfMove path) is = tt
move_beside (OfTask path Is) is = is

-- what a job with this plan asks for
abbrev pub Fits : World → Job → Plan → Type 0
Fits around job p = FitsFor around (saying job).purpose p

module _ (world : World) (moments : Moments) (texts : Texts) (so : TellsOnly world moments texts) where
  abbrev around : World
  around = world_with moments texts

  -- a task at a moment that was told, of a text that was, is one whatever else may be told
  so_moment : (fixed : Option ℕ) (now : ℕ) → IsMomentOf world.tells fixed now
      → IsMomentOf (told_by moments) fixed now
  so_moment fixed now is = (is.0, λ free. so.tells 0 now (is.1 free))

  so_list : {X : Type 0} (names : Naming X) (path : Option (Bor (List ℕ))) (o : Option (ListFile X))
      → IsFollowed names world path o → IsFollowed names around path o
  so_list names None o same = same
  so_list names (Some path) o (it, same, (said, whole, named), moment, of) =
      (it, same, (so.looks path.now 0 _ said, whole, named), so_moment None it.now moment, of)

  so_task : (job : Job) (t : Task) → IsTaskOf world job t → IsTaskOf around job t
  so_task (job.Merchant j) t (name, (now, moment, same)) =
      (name, (now, so_moment j.now now moment, same))
  so_task (job.Grant j) t (names, (right, now, word, moment, same)) =
      (names, (right, now, word, so_moment j.given.now now moment, same))
  so_task (job.Withdraw j) t (names, (right, now, word, moment, same)) =
      (names, (right, now, word, so_moment j.now now moment, same))
  so_task (job.Rights j) t (rows, now, (text, (document, said, is, proper, listed)), moment, same) = (
    rows,
    now,
    (text, (document, so.says j.rights.now text said, is, proper, listed)),
    so_moment j.now now moment,
    same,
  )
  so_task (job.Merchants j) t (rows, now, (text, (said, listed)), moment, same) =
      (rows, now, (text, (so.says j.list.now text said, listed)), so_moment j.now now moment, same)
  so_task (job.Serve j) t (lists, merchants, rights, same) = (
    lists,
    so_list AreListed j.merchants lists.merchants merchants,
    so_list AreRowsIn j.rights lists.rights rights,
    same,
  )
  so_task (job.Sweep j) t (names, (who, now, caller, merchant, moment, same)) =
      (names, (who, now, caller, merchant, so_moment j.now now moment, same))
  so_task job t is = is

  so_trial : (job : Job) (t : Trial) → IsTrialFor (saying job).purpose world t
      → IsTrialFor (saying job).purpose around t
  so_trial (job.Trial j) t is = record {
    caller = is.caller;
    merchant = is.merchant;
    life = is.life;
    made = so_moment j.now t.made is.made;
    moment = is.moment;
    digits = is.digits;
  }
  so_trial job t is = is

  fits_for : (it : Purpose) → ((t : Task) → IsTaskFor it world t → IsTaskFor it around t)
      → ((t : Trial) → IsTrialFor it world t → IsTrialFor it around t)
      → (p : Plan) → IsPlanFor it world p → FitsFor around it p
  fits_for (OfTrial Is) so tried p (t, is, same) =
      subst (FitsFor around (OfTrial Is)) (sym same) (tried t is)
  fits_for (OfCheck path) so tried p same = subst (FitsFor around (OfCheck path)) (sym same) tt
  fits_for (OfMove path) so tried p same = subst (FitsFor around (OfMove path)) (sym same) tt
  fits_for (OfTask path Is) so tried p (t, is, same) =
      subst (FitsFor around (OfTask path Is)) (sym same) (so t is)

  pub fits : (job : Job) (p : Plan) → IsPlanOf world job p → Fits around job p
  fits job = fits_for (saying job).purpose (so_task job) (so_trial job)

-- a refusal before there is a plan, of a text that was told, is one whatever may be told
any_refusal : (world : World) (job : Job) (n : ℕ) → (saying job).refused world n
    → (saying job).refused anything n
any_refusal world (job.Rights j) n (text, fault, said, is, same, other) = (text, fault, tt, is, same, other)
any_refusal world (job.Merchants j) n (text, fault, said, is, same, other) =
    (text, fault, tt, is, same, other)
any_refusal world (job.Serve j) n h = any_list h
  where
    any_fault : (faults : List ℕ → ℕ → Type 0) (o : Option (Bor (List ℕ))) → IsFaultyAt faults world o n
        → IsFaultyAt faults anything o n
    any_fault faults None h = h
    any_fault faults (Some path) (text, said, whole, is) = (text, tt, whole, is)

    any_list : IsFaultyAt HasMerchantsFault world j.merchants n ⊎ IsFaultyAt HasRightsFault world j.rights n
        → IsFaultyAt HasMerchantsFault anything j.merchants n
        ⊎ IsFaultyAt HasRightsFault anything j.rights n
    any_list (inl h) = inl (any_fault HasMerchantsFault j.merchants h)
    any_list (inr h) = inr (any_fault HasRightsFault j.rights h)
any_refusal world job n h = h

-- and so is one of a text that isn't whole
any_unfinished : (world : World) (job : Job) (about : Subject) → (saying job).unfinished world about
    → (saying job).unfinished anything about
any_unfinished world (job.Serve j) about h = any_list h
  where
    any_text : (o : Option (Bor (List ℕ))) → IsUnfinishedAt world o → IsUnfinishedAt anything o
    any_text None h = h
    any_text (Some path) (text, said, cut) = (text, tt, cut)

    any_list : (saying (job.Serve j)).unfinished world about → (saying (job.Serve j)).unfinished anything about
    any_list (inl (is, h)) = inl (is, any_text j.merchants h)
    any_list (inr (is, h)) = inr (is, any_text j.rights h)
any_unfinished world job about h = h

pub any_early : (world : World) (job : Job) (end : Ending) → EndsBefore world job end
    → EndsBefore anything job end
any_early world job (ending.Refused n) h = any_refusal world job n h
any_early world job (ending.Unfinished about) h = any_unfinished world job about h
any_early world job end h = h

-- the bytes that the files of a plan hold
abbrev pub IsAt : World → Image → Plan → Type 0
IsAt world image (plan.Trial t) = Unit {0}
IsAt world image (plan.Check path) = world.holds path.now image
IsAt world image (plan.Migrate path) = world.holds path.now image
IsAt world image (plan.Do path t) = world.holds path.now image

found_for : (world : World) (image : Image) (it : Purpose) (p : Plan) → IsPlanFor it world p
    → ((path : List ℕ) → path_of it ≡ Some path → world.holds path image) → IsAt world image p
found_for world image (OfTrial Is) p (t, is, same) at = subst (IsAt world image) (sym same) tt
found_for world image (OfCheck path) p same at = subst (IsAt world image) (sym same) (at path.now refl)
found_for world image (OfMove path) p same at = subst (IsAt world image) (sym same) (at path.now refl)
found_for world image (OfTask path Is) p (t, is, same) at =
    subst (IsAt world image) (sym same) (at path.now refl)

-- are those at the path of its job
pub found_at : (world : World) (image : Image) (job : Job) (p : Plan) → IsPlanOf world job p
    → ((path : List ℕ) → file_of job ≡ Some path → world.holds path image) → IsAt world image p
found_at world image job = found_for world image (saying job).purpose

-- words that ask for no job
pub unasked : (words : List Text) (end : Ending) (unread unsent quiet : Type 0) → (unsent → quiet)
    → Unasked words end unread unsent → Unasked words end (Unit {0}) quiet
unasked words end unread unsent quiet so (inl (inl (help, is), calm)) = inl (inl (help, is), tt)
unasked words end unread unsent quiet so (inl (inr (version, is, silent), calm)) =
    inl (inr (version, is, so silent), tt)
unasked words end unread unsent quiet so (inr (inl (none, is, calm, silent))) =
    inr (inl (none, is, tt, so silent))
unasked words end unread unsent quiet so (inr (inr (is, calm, silent))) = inr (inr (is, tt, so silent))
