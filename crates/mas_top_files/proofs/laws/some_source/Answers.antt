use Rattle.mas_top_files.proofs.Total as total
use Rattle.mas_top_files.proofs.laws.some_source.Goals as goal

pub returns-clause-some : goal.returns-clause-some
returns-clause-some c = total.some_source

pub returns-clause-unrefused : goal.returns-clause-unrefused
returns-clause-unrefused c = total.unrefused_describe
