-- The subcommands: the rules of their words in clap's terms, and what their values ask for.
pub mod Batch
pub mod Check
pub mod Listing
pub mod Merchant
pub mod Merchants
pub mod Migrate
pub mod Pipe
pub mod Rights
pub mod RightsFile
pub mod Serve
pub mod Sweep
pub mod Trial
use Rattle.std.specs.Prelude.{◌≡◌, List, [], ◌∷◌, true, codes}
use Rattle.clap.specs.Words.{App, Row, Text, new_app, with_subcommand}
use Rattle.vault_words.specs.Commands.Batch.{AsksBatch, batch_app}
use Rattle.vault_words.specs.Commands.Check.{AsksCheck, check_app}
use Rattle.vault_words.specs.Commands.Listing.{AsksList, list_app}
use Rattle.vault_words.specs.Commands.Merchant.{AsksMerchant, merchant_app}
use Rattle.vault_words.specs.Commands.Merchants.{AsksMerchants, merchants_app}
use Rattle.vault_words.specs.Commands.Migrate.{AsksMigrate, migrate_app}
use Rattle.vault_words.specs.Commands.Pipe.{AsksPipe, pipe_app}
use Rattle.vault_words.specs.Commands.Rights.{AsksGrant, AsksRight, grant_app, withdraw_app}
use Rattle.vault_words.specs.Commands.RightsFile.{AsksRights, rights_app}
use Rattle.vault_words.specs.Commands.Serve.{AsksServe, serve_app}
use Rattle.vault_words.specs.Commands.Sweep.{AsksSweep, sweep_app}
use Rattle.vault_words.specs.Commands.Trial.{AsksTrial, trial_app}
use Rattle.vault_words.specs.declared.jobs.Job.{Job}
use Rattle.vault_words.specs.declared.jobs.Job.TheVariants as job

-- a command with these subcommands, in order
abbrev pub with_subcommands : App → List App → App
with_subcommands a [] = a
with_subcommands a (s ∷ ss) = with_subcommands (with_subcommand a s.top) ss

-- the program without its subcommands, one of which must be named; it tells its version
abbrev pub root_app : App
root_app =
    let named : App = new_app (codes "vault") in
    record named {
      top = record named.top {
        has_version = true;
        subcommand_required = true;
        arg_required_else_help = true;
      };
    }

-- the program
abbrev pub program_app : App
program_app = with_subcommands root_app
    (trial_app ∷ merchant_app ∷ merchants_app ∷ grant_app ∷ withdraw_app ∷ rights_app ∷ pipe_app
    ∷ batch_app ∷ serve_app ∷ sweep_app ∷ list_app ∷ check_app ∷ migrate_app ∷ [])

-- the subcommand of this name, with these values, asks for the job
abbrev pub Asks : Text → List Row → Job → Type 0
Asks name rows (job.Trial j) = (name ≡ codes "trial") × AsksTrial rows j
Asks name rows (job.Merchant j) = (name ≡ codes "merchant") × AsksMerchant rows j
Asks name rows (job.Merchants j) = (name ≡ codes "merchants") × AsksMerchants rows j
Asks name rows (job.Grant j) = (name ≡ codes "grant") × AsksGrant rows j
Asks name rows (job.Withdraw j) = (name ≡ codes "withdraw") × AsksRight rows j
Asks name rows (job.Rights j) = (name ≡ codes "rights") × AsksRights rows j
Asks name rows (job.Pipe j) = (name ≡ codes "pipe") × AsksPipe rows j
Asks name rows (job.Batch j) = (name ≡ codes "batch") × AsksBatch rows j
Asks name rows (job.Serve j) = (name ≡ codes "serve") × AsksServe rows j
Asks name rows (job.Sweep j) = (name ≡ codes "sweep") × AsksSweep rows j
Asks name rows (job.List j) = (name ≡ codes "list") × AsksList rows j
Asks name rows (job.Check j) = (name ≡ codes "check") × AsksCheck rows j
Asks name rows (job.Migrate j) = (name ≡ codes "migrate") × AsksMigrate rows j
