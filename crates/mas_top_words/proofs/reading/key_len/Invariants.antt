use Rattle.std.proofs.Common.{◌≡◌, ◌+◌, length}
use Rattle.std.specs.List.{prefix_len}
use Rattle.mas_top_words.specs.Words.{is_key}
use Rattle.mas_top_words.proofs.reading.key_len.Given as goal

abbrev pub invariant-bytes : goal.invariant-bytes
invariant-bytes l = record {
  same : l.count + prefix_len is_key l.rest ≡ prefix_len is_key l.word;
  length : l.count + length l.rest ≡ length l.word;
}

abbrev pub decreases-bytes : goal.decreases-bytes
decreases-bytes l = length l.rest
