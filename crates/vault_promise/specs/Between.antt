-- The files in memory of paths, and those that are kept between two runs.
use Rattle.sqlite_disk.specs.declared.Files.{Files}
use Rattle.sqlite_disk.specs.declared.memory.Memory.{Memory}
use Rattle.vault_promise.specs.declared.kept.KeptFiles.{KeptFiles}

-- the files themselves
abbrev pub files_kept : KeptFiles → Files Memory
files_kept kept = kept.files
