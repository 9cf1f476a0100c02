use Rattle.std.proofs.Common.{List, ℕ, map, subst, codes}
use Rattle.kept_text.proofs.Putting.{puts_last}
use Rattle.chart_page.specs.Minds.{texts_of}
use Rattle.chart_page.specs.Texts.{HasAll}
use Rattle.chart_page.proofs.Texts.{all_on, grew_trans}
use Rattle.chart_page.proofs.page.page.Goals as goal

pub returns-clause-whole : goal.returns-clause-whole
returns-clause-whole c =
    puts_last c.put-4.new.self c.put-5.new.self c.in_ok-into_bytes.field-0.items (codes "</html>\n") c.in_ok-into_bytes.ensures.whole c.put-5.ensures

pub returns-clause-texts : goal.returns-clause-texts
returns-clause-texts c =
    let told = c.put_pieces.new.out in
    let scripted = c.put-4.new.self in
    let whole = c.put-5.new.self in
    let texts : List (List ℕ) = map (λ p. p.text.now) c.args.pieces.now in
    subst (λ t. HasAll t texts) c.in_ok-into_bytes.ensures.whole
    (all_on told whole texts (grew_trans told scripted whole (_, c.put-4.ensures) (_, c.put-5.ensures)) c.put_pieces.ensures.texts)

pub returns-clause-minds : goal.returns-clause-minds
returns-clause-minds c =
    let told = c.put_pieces.new.out in
    let scripted = c.put-4.new.self in
    let whole = c.put-5.new.self in
    let texts = texts_of c.args.minds.now.lines.now in
    subst (λ t. HasAll t texts) c.in_ok-into_bytes.ensures.whole
    (all_on told whole texts (grew_trans told scripted whole (_, c.put-4.ensures) (_, c.put-5.ensures)) c.put_pieces.ensures.minds)
