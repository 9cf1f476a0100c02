use Rattle.std.proofs.Common.{◌≡◌, length, map, string_bytes, option_map, Some}
use Rattle.mas_top_words.specs.Words.{words_said, said_of, silence}
use Rattle.mas_top_words.proofs.reading.words_said.Given as goal

abbrev pub invariant-words : goal.invariant-words
invariant-words l = record {
  same : words_said l.command (option_map said_of l.said) (map string_bytes l.rest) ≡ words_said l.command (Some silence) (map string_bytes l.words);
}

abbrev pub decreases-words : goal.decreases-words
decreases-words l = length l.rest
