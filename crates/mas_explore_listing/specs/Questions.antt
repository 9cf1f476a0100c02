-- Questions about the outcomes of all runs, which are put to a list of them.
use Rattle.std.specs.Prelude.{ℕ, ◌≡◌, nat_eq, Bool, true, false, not, ◌+◌, ◌&&◌, ◌||◌, if◌then◌else◌, List, [], ◌∷◌, slice_get, Option, None, Some}
use Rattle.std.specs.List.{starts_with}
use Rattle.mas_mind.specs.Minds.{Kind}
use Rattle.mas_core.specs.Platform.{Platform}
use Rattle.mas_free.specs.declared.view.View.{View}
use Rattle.mas_free.specs.Lines.{is_line_feed}
use Rattle.mas_free.specs.Outcome.{outcome}
use Rattle.mas_free.specs.Covers.{Start, RunsTo}
use Rattle.mas_explore.specs.declared.listing.Shown.{Shown}
use Rattle.mas_explore.specs.declared.listing.Listing.{Listing}
use Rattle.mas_explore.specs.declared.listing.Extent.{Extent}
use Rattle.mas_explore.specs.declared.listing.Extent.TheVariants.{All, Bound, Unshown}
use Rattle.mas_explore.specs.Listings.{IsShown, AreShown, Reaches}
use Rattle.mas_explore_listing.specs.declared.answers.Question.{Question}
use Rattle.mas_explore_listing.specs.declared.answers.Claim.{Claim}
use Rattle.mas_explore_listing.specs.declared.answers.Claim.TheVariants.{Never, Always}
use Rattle.mas_explore_listing.specs.declared.answers.Answer.{Answer}
use Rattle.mas_explore_listing.specs.declared.answers.Answer.TheVariants.{Holds, Fails, Unknown}

-- ---- lines

-- the line, which ends in a line feed, is at the front of the text
abbrev pub begins : List ℕ → List ℕ → Bool
begins line text = starts_with nat_eq text line

-- whether one of the lines that begin in a text is this one, where it is known whether one begins at its front
abbrev pub has_line_from : List ℕ → Bool → List ℕ → Bool
has_line_from line front [] = false
has_line_from line front (c ∷ text) = (front && begins line (c ∷ text)) || has_line_from line (is_line_feed c) text

-- whether one of the lines of a text is this one
abbrev pub has_line : List ℕ → List ℕ → Bool
has_line line text = has_line_from line true text

-- ---- claims

abbrev pub against_by : Claim → Bool → Bool
against_by Never has = has
against_by Always has = not has

-- whether an outcome speaks against a claim
abbrev pub is_against : Question → List ℕ → Bool
is_against q text = against_by q.claim (has_line q.line text)

-- the first place of a list, counted from this number, whose outcome speaks against a claim
abbrev pub first_from : Question → ℕ → List Shown → Option ℕ
first_from q n [] = None
first_from q n (e ∷ list) = if is_against q e.text then Some n else first_from q (n + 1) list

abbrev pub answer_by : Option ℕ → Extent → Answer
answer_by (Some place) extent = Fails place
answer_by None All = Holds
answer_by None Bound = Unknown
answer_by None Unshown = Unknown

-- what a list answers: by the first outcome that speaks against the claim, or by how far the list goes
abbrev pub answer : Question → Listing → Answer
answer q f = answer_by (first_from q 0 f.list) f.extent

-- ---- what answers say

-- the outcome of no run speaks against the claim: whatever the limits and the schedule, where all agents leave, none of them for the limit of cycles
abbrev pub HoldsOf : {V : Type 0} → Kind V → View → Start V → Question → Type 0
HoldsOf {V} k v s q = (cycles lead : ℕ) (schedule : List ℕ) (p : Platform V) → RunsTo k s cycles lead schedule p → is_against q (outcome k v p) ≡ false

abbrev pub HoldsOfRuns : {V : Type 0} → Kind V → Type 0
HoldsOfRuns {V} k = (v : View) (s : Start V) (most : ℕ) (q : Question) (f : Listing) → Reaches k v s most f f.extent → answer q f ≡ Holds → HoldsOf k v s q

-- the entry at this place of the list has a run, and its outcome speaks against the claim
pub record SpeaksAgainst {V : Type 0} (k : Kind V) (v : View) (s : Start V) (q : Question) (list : List Shown) (place : ℕ) : Type 0 where
  pub entry : Shown
  pub at : slice_get list place ≡ Some entry
  pub shown : IsShown k v s entry
  pub against : is_against q entry.text ≡ true

abbrev pub FailsInRun : {V : Type 0} → Kind V → Type 0
FailsInRun {V} k = (v : View) (s : Start V) (q : Question) (f : Listing) (place : ℕ) → AreShown k v s f.list → answer q f ≡ Fails place →
    SpeaksAgainst k v s q f.list place
