use Rattle.std.proofs.Common.{◌≡◌, ◌≤◌, length}
use Rattle.mas_top_words.specs.Numbers.{digits_from}
use Rattle.mas_top_words.proofs.numbers.number_in.Given as goal

abbrev pub invariant-digits : goal.invariant-digits
invariant-digits l = record {
  same : digits_from l.sum l.rest ≡ digits_from 0 l.text;
  small : l.sum ≤ 1000000009;
}

abbrev pub decreases-digits : goal.decreases-digits
decreases-digits l = length l.rest
