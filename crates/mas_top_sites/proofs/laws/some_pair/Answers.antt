use Rattle.mas_top_sites.proofs.Total as total
use Rattle.mas_top_sites.proofs.laws.some_pair.Goals as goal

pub returns-clause-some : goal.returns-clause-some
returns-clause-some c = total.some_pair

pub returns-clause-unrefused : goal.returns-clause-unrefused
returns-clause-unrefused c = total.unrefused_describe
