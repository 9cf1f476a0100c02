-- the texts of the parts before are there
use Rattle.std.proofs.Common.{◌≡◌, map, take}
use Rattle.look_mind.specs.PartTexts.{part_text}
use Rattle.look_mind.proofs.agent.part_texts.Given as goal

abbrev pub invariant-parts : goal.invariant-parts
invariant-parts l = l.texts ≡ map (part_text l.m) (take l.part-index l.parts)
