use Rattle.std.proofs.Common.{◌∙◌, map, string_bytes, sym}
use Rattle.mas_explore_top.proofs.Asks.{permitted}
use Rattle.mas_explore_top.proofs.Claps.{taken, refused}
use Rattle.mas_explore_top.proofs.taken.exploring.Goals as goal

pub returns-in-Ok-clause-value : goal.returns-in-Ok-clause-value
returns-in-Ok-clause-value c =
    c.exploring_among.ensures ∙ taken _ (map string_bytes c.args.words.now) _ _ c.in-Ok.is c.requires
    c.try_get_matches_from.ensures.matches c.try_get_matches_from.ensures.kinds

pub returns-in-Ok-clause-within : goal.returns-in-Ok-clause-within
returns-in-Ok-clause-within c =
    permitted (map string_bytes c.args.words.now) c.exploring_among.result
    (c.exploring_among.ensures ∙ taken _ (map string_bytes c.args.words.now) _ _ c.in-Ok.is c.requires
    c.try_get_matches_from.ensures.matches c.try_get_matches_from.ensures.kinds)

pub returns-clause-value : goal.returns-clause-value
returns-clause-value c =
    sym (refused _ (map string_bytes c.args.words.now) _ _ c.in-Err.is c.requires
    (λ e. c.in_default.not-OutOfMemory (c.kind.ensures ∙ e)) c.try_get_matches_from.ensures.kinds)
