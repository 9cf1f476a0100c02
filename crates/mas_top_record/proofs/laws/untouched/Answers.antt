use Rattle.mas_top_record.proofs.Kept.{untouched}
use Rattle.mas_top_record.proofs.laws.untouched.Goals as goal

pub returns : goal.returns
returns g c = untouched g.D.Disk.state g.met.D.Disk.only_now c.args.disk.now
