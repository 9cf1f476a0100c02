use Rattle.mas_top_words.specs.Apps.{app_for}
use Rattle.mas_top_words.proofs.Matched.{matched}
use Rattle.mas_top_words.proofs.Rules.{simple}
use Rattle.mas_top_words.proofs.taken.matches_by.Goals as goal

pub returns-in-Ok : goal.returns-in-Ok
returns-in-Ok c = matched _ (app_for c.args.command) _ _ _ c.in-Ok.is c.requires.app (simple c.args.command) c.try_get_matches_from.ensures.matches
