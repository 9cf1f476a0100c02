use Rattle.std.proofs.Common.{map, string_bytes}
use Rattle.mas_top_words.proofs.Answers.{answers}
use Rattle.mas_top_words.proofs.Within.{answer_within, read_one}
use Rattle.mas_top_words.proofs.taken.take_apart.Goals as goal

pub returns-in-Ok-clause-plain : goal.returns-in-Ok-clause-plain
returns-in-Ok-clause-plain c = answers (map string_bytes c.args.words.now) c.in-Ok.asked c.in-Ok.ensures.value

pub returns-in-Ok-clause-within : goal.returns-in-Ok-clause-within
returns-in-Ok-clause-within c = answer_within (map string_bytes c.args.words.now) c.in-Ok.asked c.in-Ok.ensures.value

pub returns-in-Err-clause-starved : goal.returns-in-Err-clause-starved
returns-in-Err-clause-starved c = read_one (map string_bytes c.args.words.now) c.in-Err.ensures.starved
