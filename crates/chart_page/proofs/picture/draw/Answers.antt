use Rattle.std.proofs.Common.{List, ℕ, map, subst, codes}
use Rattle.kept_text.proofs.Putting.{puts_last}
use Rattle.chart_page.specs.Texts.{HasAll}
use Rattle.chart_page.proofs.Texts.{all_on}
use Rattle.chart_page.proofs.picture.draw.Goals as goal

pub returns-clause-whole : goal.returns-clause-whole
returns-clause-whole c =
    puts_last c.put_pieces.new.out c.put.new.self c.in_ok-into_bytes.field-0.items (codes "</svg>\n") c.in_ok-into_bytes.ensures.whole c.put.ensures

pub returns-clause-texts : goal.returns-clause-texts
returns-clause-texts c =
    let told = c.put_pieces.new.out in
    let whole = c.put.new.self in
    let texts : List (List ℕ) = map (λ p. p.text.now) c.args.pieces.now in
    subst (λ t. HasAll t texts) c.in_ok-into_bytes.ensures.whole (all_on told whole texts (_, c.put.ensures) c.put_pieces.ensures)
