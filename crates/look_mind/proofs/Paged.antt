-- The page of a report.
use Rattle.std.proofs.Common.{◌≡◌, ◌∙◌, ◌+◌, ◌-◌, ◌<◌, ℕ, Bool, true, List, [], ◌∷◌, None, map, get_or, cond, refl, ap, subst, sym}
use Rattle.std.specs.Prelude.{codes, slice_index}
use Rattle.std.specs.List.{Contains}
use Rattle.std.proofs.lemmas.List.{get_or-map, length-map}
use Rattle.chart_page.specs.Texts.{Holds, HoldsAll}
use Rattle.chart_page.specs.Minds.{texts_of}
use Rattle.chart_page.specs.declared.minds.MindLine.{MindLine}
use Rattle.look_mind.specs.Rows.{Row, row_in, rows_of, change_at, TellsRows}
use Rattle.look_mind.specs.declared.changes.MindChanges.{MindChanges}
use Rattle.chart_page.specs.Refused.{Ends, IsMade, IsPage, ShowsText}
use Rattle.chart_page.specs.declared.choice.Choice.{Choice}
use Rattle.look_mind.specs.Page.{HoldsChanges, IsPageOf}

whole : (c : Choice) (made : List ℕ) → c.is_page ≡ true → IsMade c made → IsPage made
whole c made p m = subst (λ (b : Bool). Ends made (cond b (codes "</html>") (codes "</svg>"))) p m

-- ---- the lines of changes

texts_are : (lines : List MindLine) → texts_of lines ≡ map (λ (r : Row). r.text) (rows_of lines)
texts_are [] = refl
texts_are (l ∷ ls) = ap (λ texts. l.text.now ∷ texts) (texts_are ls)

row_held : (made : List ℕ) (rows : List Row) (r : Row) → HoldsAll made (map (λ (x : Row). x.text) rows) → Contains rows r → Holds made r.text
row_held made rows r h (k, below, e) =
    let at : get_or (map (λ (x : Row). x.text) rows) k r.text ≡ r.text = get_or-map (λ (x : Row). x.text) rows k r r.text below ∙ ap (λ (x : Row). x.text) e in
    subst (λ text. Holds made text) at (h k r.text (subst (λ n. k < n) (sym (length-map rows (λ (x : Row). x.text))) below))

pub changes_held : (told : MindChanges) (lines : List MindLine) (made : List ℕ) → TellsRows told (rows_of lines) → HoldsAll made (texts_of lines) → HoldsChanges told made
changes_held told lines made h held t below k d within =
    let rows = rows_of lines in
    let l = get_or (change_at told t) k d in
    row_held made rows (row_in (slice_index told.turns t - 1) (t + 1) l) (subst (λ texts. HoldsAll made texts) (texts_are lines) held) (h t below k d within)

-- ---- the page

pub is_page : (c : Choice) (bytes made text : List ℕ) (told : MindChanges) → c.is_page ≡ true → c.names.now ≡ [] → c.turns ≡ None → text ≡ made → IsMade c made →
    ShowsText c bytes made → HoldsChanges told made →
    IsPageOf bytes told text
is_page c bytes made text told p n t e m s h = record {
  choice = c;
  all_agents = n;
  all_turns = t;
  whole = subst (λ (x : List ℕ). IsPage x) (sym e) (whole c made p m);
  shown = subst (λ (x : List ℕ). ShowsText c bytes x) (sym e) s;
  changed = subst (λ (x : List ℕ). HoldsChanges told x) (sym e) h;
}
