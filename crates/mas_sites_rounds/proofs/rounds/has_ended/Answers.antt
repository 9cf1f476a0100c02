use Rattle.std.proofs.Common.{sym, ap, ◌∙◌, is_some}
use Rattle.mas_sites_rounds.proofs.Ending.{none_first}
use Rattle.mas_sites_rounds.proofs.Steps.{same_not}
use Rattle.mas_sites_rounds.proofs.rounds.has_ended.Goals as goal

pub returns : goal.returns
returns g c = same_not _ _ (sym c.is_none.ensures ∙ ap is_some c.first_here.ensures ∙ none_first 1 c.args.stage.now.platform.board.seats)
