use Rattle.env_file.proofs.Bare as bare
use Rattle.env_file.proofs.laws.no_annotations.Goals as goal

pub returns : goal.returns
returns c = bare.no_annotations
