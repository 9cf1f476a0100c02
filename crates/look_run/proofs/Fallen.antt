-- The failures of a run that was made to its last turn.
use Rattle.std.proofs.Common.{ℕ, ◌≡◌, List, map, None, sym, ap, ◌∙◌}
use Rattle.mas_mind.specs.Minds.{Kind}
use Rattle.mas_core.specs.Platform.{Platform, run}
use Rattle.mas_core.specs.Fits.{Played}
use Rattle.look_run.specs.Steps.{HasGone}
use Rattle.look_lines.specs.declared.falls.FallLine.{FallLine}
use Rattle.look_lines.specs.Falls.{falls}
use Rattle.look_run.specs.Falling.{HaveFallen}

pub not_gone : {V : Type 0} (k : Kind V) (p : Platform V) (first : Played V) (turns : List ℕ) → first.platform ≡ p → run k first.platform turns ≡ None →
    run k p turns ≡ None
not_gone k p first turns e n = ap (λ q. run k q turns) (sym e) ∙ n

pub have_fallen : {V : Type 0} (k : Kind V) (p : Platform V) (first after : Played V) (turns : List ℕ) (minds : List V) (found : List (List FallLine)) →
    first.platform ≡ p → HasGone k first turns after → minds ≡ after.platform.minds → found ≡ map (λ m. falls (k.lines m)) minds → HaveFallen k p turns found
have_fallen k p first after turns minds found e g m f = record {
  after = after.platform;
  ran = ap (λ q. run k q turns) (sym e) ∙ g.ran;
  is = f ∙ ap (map (λ m. falls (k.lines m))) m;
}
