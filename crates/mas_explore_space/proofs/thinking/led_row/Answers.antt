use Rattle.std.proofs.Common.{Some, ap}
use Rattle.mas_explore_space.proofs.thinking.led_row.Goals as goal

pub returns : goal.returns
returns g c = record {
  grown = c.in_ok-mail.ensures.grown;
  mail = c.in_ok-mail.mail;
  rest = c.in_ok-mail.ensures.rest;
  st = c.stance_after-stance.result;
  does = c.stance_after-stance.ensures;
  next_is = ap Some c.with_seat.ensures;
}
