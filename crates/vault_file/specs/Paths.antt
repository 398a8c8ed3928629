-- What stands at the paths of a host.
use Rattle.sqlite_wal.specs.Recovery.{Image}

-- of each of the bytes that the files at a path hold this is true
abbrev pub Each : (Image → Type 0) → (Image → Type 0) → Type 0
Each Holds Is = (image : Image) → Holds image → Is image
