-- From what is picked of a text's lines, and what holds it, to what is shown of the text.
use Rattle.std.proofs.Common.{◌≡◌, ◌==◌, ◌∙◌, ℕ, List, subst, Option, Some, None, IfSome, Result, Ok, Err, IfOk}
use Rattle.std.specs.Io.KnownBytes.{Appends}
use Rattle.std.specs.Str.Lossy.{utf8_lossy}
use Rattle.std.specs.List.{slice_split}
use Rattle.chart_page.specs.declared.choice.Choice.{Choice}
use Rattle.chart_page.specs.Shown.{AreShown}
use Rattle.chart_page.specs.Texts.{HoldsAll}
use Rattle.chart_page.specs.Refused.{IsMade, IsShownIn, ShowsText}

pub if_ok : {T E : Type 0} (P Q : T → Type 0) (r : Result T E) → ((x : T) → P x → Q x) → IfOk r P → IfOk r Q
if_ok P Q (Ok x) f p = f x p
if_ok P Q (Err e) f p = p

pub shows : (c : Choice) (text : List ℕ) (lines texts : List (List ℕ)) (made : List ℕ) → lines ≡ slice_split (λ b. b == 10) text →
    AreShown c lines texts → HoldsAll made texts → ShowsText c text made
shows c text lines texts made e s h = (texts, subst (λ ls. AreShown c ls texts) e s, h)

-- of what is read, where that is known, and written
pub shown_in : (c : Choice) (old new left : Option (List ℕ)) (text read made wrote : List ℕ) → read ≡ text → wrote ≡ made → IsMade c made →
    ShowsText c read made → Appends old new wrote → IfSome left (λ bytes. text ≡ utf8_lossy bytes) → IfSome left (IsShownIn c old new)
shown_in c old new None text read made wrote e w m s a p = p
shown_in c old new (Some bytes) text read made wrote e w m s a p = (made, m, subst (λ x. ShowsText c x made) (e ∙ p) s, subst (λ x. Appends old new x) w a)
