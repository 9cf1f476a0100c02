use Rattle.std.proofs.Common.{map, string_bytes, ap, ◌∙◌}
use Rattle.look_top.specs.Asked.{rows_by}
use Rattle.look_top.proofs.Claps.{command_free, refused, taken}
use Rattle.look_top.proofs.taken.matches_of.Goals as goal

pub returns-in-Ok : goal.returns-in-Ok
returns-in-Ok c =
    taken _ (map string_bytes c.args.words.now) _ _ c.in-Ok.is (command_free c.args.verb _ c.in_ok-app.ensures) c.try_get_matches_from.ensures.matches
    c.try_get_matches_from.ensures.kinds ∙ ap (λ a. rows_by a (map string_bytes c.args.words.now)) c.in_ok-app.ensures

pub returns : goal.returns
returns c =
    refused _ (map string_bytes c.args.words.now) _ _ c.in-Err.is (command_free c.args.verb _ c.in_ok-app.ensures)
    (λ e. c.in_default.not-OutOfMemory (c.kind.ensures ∙ e)) c.try_get_matches_from.ensures.kinds
    ∙ ap (λ a. rows_by a (map string_bytes c.args.words.now)) c.in_ok-app.ensures
