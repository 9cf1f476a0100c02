use Rattle.std.proofs.Common.{◌≡◌, length}
use Rattle.mas_board.specs.Posts.{AreEmpty}
use Rattle.mas_board.proofs.mail.post.Given as goal

abbrev pub invariant-loop : goal.invariant-loop
invariant-loop l = (length l.boxes ≡ l.counter) × AreEmpty l.boxes
