use Rattle.mas_top_files.proofs.Refusals.{one_refusal}
use Rattle.mas_top_files.proofs.laws.one_refusal.Goals as goal

pub returns : goal.returns
returns c = one_refusal
