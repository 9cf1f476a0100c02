use Rattle.mas_top_demo.proofs.Described.{demo_refused}
use Rattle.mas_top_demo.proofs.laws.demo_is_refused.Goals as goal

pub returns : goal.returns
returns c = demo_refused
