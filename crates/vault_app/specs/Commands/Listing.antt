-- `list`: the merchants and the rights that a file holds.
use Rattle.std.specs.Prelude.{◌≡◌, Bool, true, false}
use Rattle.vault_words.specs.declared.commands.list.ListJob.{ListJob}
use Rattle.vault_jobs.specs.declared.show.Form.{Form}
use Rattle.vault_jobs.specs.declared.show.Form.TheVariants.{Lines, Objects}
use Rattle.vault_jobs.specs.declared.show.Shown.TheVariants as show
use Rattle.vault_jobs.specs.declared.task.Task.TheVariants as task
use Rattle.vault_app.specs.Saying.{OfTask, Saying, quiet}

-- how a vault is listed: in words, or as JSON objects
abbrev pub form_of : Bool → Form
form_of true = Objects
form_of false = Lines

-- they are said in the form that the words ask for
abbrev pub list_says : ListJob → Saying
list_says j = quiet (OfTask j.file (λ world t. t ≡ task.Show (show.Listing (form_of j.json))))
