use Rattle.std.proofs.Common.{◌≡◌, ◌==◌, ◌∙◌, ap, sym, subst, codes, List, ℕ, map, IfOk, if◌then◌else◌}
use Rattle.std.specs.List.{slice_split}
use Rattle.chart_page.specs.Texts.{HoldsAll}
use Rattle.chart_page.specs.Refused.{Ends, ShowsText}
use Rattle.chart_page.proofs.Shows.{if_ok, shows}
use Rattle.chart_page.proofs.made.made.Goals as goal

pub returns-then-choice-clause-shown : goal.returns-then-choice-clause-shown
returns-then-choice-clause-shown c =
    let text = c.args.text.now in
    let lines : List (List ℕ) = map (λ l. l.now) c.as_slice-in-Ok.result.now in
    let texts : List (List ℕ) = map (λ p. p.text.now) c.in_ok-pieces-in-Ok.pieces.items in
    let split : lines ≡ slice_split (λ b. b == 10) text = ap (λ ls. map (λ l. l.now) ls) c.as_slice-in-Ok.ensures.value ∙ c.in_ok-lines.ensures in
    if_ok (λ made. HoldsAll made.items (map (λ p. p.text.now) c.as_slice-then-choice.result.now)) (λ made. ShowsText c.args.choice text made.items) c.page.result
    (λ made h. shows c.args.choice text lines texts made.items split c.in_ok-pieces-in-Ok.ensures
    (subst (λ ps. HoldsAll made.items (map (λ p. p.text.now) ps)) c.as_slice-then-choice.ensures.value h))
    c.page.ensures.texts

pub returns-in-Ok-clause-shown : goal.returns-in-Ok-clause-shown
returns-in-Ok-clause-shown c =
    let text = c.args.text.now in
    let lines : List (List ℕ) = map (λ l. l.now) c.as_slice-in-Ok.result.now in
    let texts : List (List ℕ) = map (λ p. p.text.now) c.in_ok-pieces-in-Ok.pieces.items in
    let split : lines ≡ slice_split (λ b. b == 10) text = ap (λ ls. map (λ l. l.now) ls) c.as_slice-in-Ok.ensures.value ∙ c.in_ok-lines.ensures in
    if_ok (λ made. HoldsAll made.items (map (λ p. p.text.now) c.as_slice-else-choice.result.now)) (λ made. ShowsText c.args.choice text made.items) c.draw.result
    (λ made h. shows c.args.choice text lines texts made.items split c.in_ok-pieces-in-Ok.ensures
    (subst (λ ps. HoldsAll made.items (map (λ p. p.text.now) ps)) c.as_slice-else-choice.ensures.value h))
    c.draw.ensures.texts

pub returns-then-choice-clause-whole : goal.returns-then-choice-clause-whole
returns-then-choice-clause-whole c =
    subst (λ b. IfOk c.page.result (λ made. Ends made.items (if b then codes "</html>" else codes "</svg>"))) (sym c.if-choice.true) c.page.ensures.whole

pub returns-then-choice-clause-minds : goal.returns-then-choice-clause-minds
returns-then-choice-clause-minds c = λ is_page. c.page.ensures.minds

pub returns-in-Ok-clause-whole : goal.returns-in-Ok-clause-whole
returns-in-Ok-clause-whole c =
    subst (λ b. IfOk c.draw.result (λ made. Ends made.items (if b then codes "</html>" else codes "</svg>"))) (sym c.if-choice.false) c.draw.ensures.whole
