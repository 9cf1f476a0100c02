use Rattle.std.proofs.Common.{map, string_bytes}
use Rattle.mas_top_words.proofs.Answers.{answers}
use Rattle.mas_top_words.proofs.Within.{answer_within}
use Rattle.mas_top_words.proofs.reading.read.Goals as goal

pub returns-clause-plain : goal.returns-clause-plain
returns-clause-plain c = answers (map string_bytes c.args.words.now) c.find_asked.result c.find_asked.ensures

pub returns-clause-within : goal.returns-clause-within
returns-clause-within c = answer_within (map string_bytes c.args.words.now) c.find_asked.result c.find_asked.ensures
