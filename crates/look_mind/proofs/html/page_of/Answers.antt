use Rattle.std.proofs.Common.{subst}
use Rattle.chart_page.specs.Minds.{texts_of}
use Rattle.chart_page.specs.Texts.{HoldsAll}
use Rattle.look_mind.proofs.Paged.{changes_held, is_page}
use Rattle.look_mind.proofs.html.page_of.Goals as goal

pub returns : goal.returns
returns c =
    let choice = c.whole_page-choice in
    let made = c.in_ok-made.field-0.items in
    let held = subst (λ lines. HoldsAll made (texts_of lines)) c.as_slice.ensures.value (c.in_ok-made.ensures.minds choice.ensures.page) in
    is_page choice.result c.args.bytes.now made _ c.args.told.now choice.ensures.page choice.ensures.names choice.ensures.turns c.from_vec.ensures
    c.in_ok-made.ensures.whole c.in_ok-made.ensures.shown (changes_held c.args.told.now c.in_ok-lines.lines.items made c.in_ok-lines.ensures held)
