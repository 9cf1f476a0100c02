-- An artifact of any of the three kinds.
use Rattle.mas_world.specs.Worlds.{Used}
use Rattle.mas_artifact.specs.declared.kinds.ArtifactKind.{ArtifactKind}
use Rattle.mas_artifact.specs.declared.kinds.ArtifactKind.TheVariants as kind

-- what it is as an artifact
abbrev pub used_of : ArtifactKind → Used
used_of (kind.Tally tally) = tally
used_of (kind.Slot slot) = slot
used_of (kind.Belt belt) = belt
