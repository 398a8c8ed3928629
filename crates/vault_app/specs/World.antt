-- What is told of the world around a run.
use Rattle.std.specs.Prelude.{ℕ, Bool, List}
use Rattle.sqlite_wal.specs.Recovery.{Image}
use Rattle.vault_file.specs.declared.paths.Paths.{Ghosts}
use Rattle.vault_recover.specs.declared.unopened.Unopened.{Unopened}
use Rattle.vault_listen.specs.Live.{Turns}
use Rattle.vault_live.specs.Following.{Looks}
use Rattle.vault_jobs.specs.Outside.{Outside, outside}

-- Which moments are told at which turn; and of each path which text its file had at which look of a service,
-- which bytes its files may hold, that nothing is there, that an open of it may fail so, which text it may have,
-- and whether its file has a log.
pub record World : Type 1 where
  pub tells : Turns
  pub looks : List ℕ → Looks
  pub holds : List ℕ → Image → Type 0
  pub lacks : List ℕ → Type 0
  pub refuses : List ℕ → Unopened → Type 0
  pub says : List ℕ → List ℕ → Type 0
  pub logs : List ℕ → Bool → Type 0

-- what is told of the paths of a host
abbrev pub world_at : {P D : Type 0} → Ghosts P D → Turns → (List ℕ → Looks) → P → World
world_at g tells looks paths = record {
  tells = tells;
  looks = looks;
  holds = g.holds paths;
  lacks = g.lacks paths;
  refuses = g.refuses paths;
  says = g.says paths;
  logs = g.logs paths;
}

-- what of it is told to a task while it is done
abbrev pub outside_in : World → Outside
outside_in world = outside world.tells world.looks

-- nothing is told
abbrev pub untold : World
untold = record {
  tells = λ turn now. ⊥;
  looks = λ path look text. ⊥;
  holds = λ path image. ⊥;
  lacks = λ path. ⊥;
  refuses = λ path cause. ⊥;
  says = λ path text. ⊥;
  logs = λ path log. ⊥;
}

-- only moments are told
abbrev pub told : Turns → World
told tells = record untold { tells = tells }

-- only moments and texts are told
abbrev pub said : Turns → (List ℕ → List ℕ → Type 0) → World
said tells says = record untold { tells = tells; says = says }

-- only moments, and which text a file had at which look, are told
abbrev pub looked : Turns → (List ℕ → Looks) → World
looked tells looks = record untold { tells = tells; looks = looks }

-- anything may be told
abbrev pub anything : World
anything = record {
  tells = λ turn now. Unit {0};
  looks = λ path look text. Unit {0};
  holds = λ path image. Unit {0};
  lacks = λ path. Unit {0};
  refuses = λ path cause. Unit {0};
  says = λ path text. Unit {0};
  logs = λ path log. Unit {0};
}
