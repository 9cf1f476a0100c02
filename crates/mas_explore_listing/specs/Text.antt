-- The text of a list of outcomes, and that of an answer. Every line ends in a line feed.
use Rattle.std.specs.Prelude.{ℕ, ◌+◌, List, [], ◌∷◌, ◌++◌, length, slice_get, codes, Option, None, Some}
use Rattle.std.specs.Ordering.{nat_cmp}
use Rattle.std.specs.declared.cmp.Ordering.{Ordering}
use Rattle.std.specs.Cmp.Lexicographic.{slice_cmp}
use Rattle.mas_report.specs.declared.options.Options.{Options}
use Rattle.mas_report.specs.Report.{field, options_line, latest}
use Rattle.mas_report_schedule.specs.Schedule.{line_feed, schedule_text}
use Rattle.mas_explore.specs.declared.listing.Plan.{Plan}
use Rattle.mas_explore.specs.declared.listing.Shown.{Shown}
use Rattle.mas_explore.specs.declared.listing.Listing.{Listing}
use Rattle.mas_explore.specs.declared.listing.Extent.{Extent}
use Rattle.mas_explore.specs.declared.listing.Extent.TheVariants.{All, Bound, Unshown}
use Rattle.mas_explore_listing.specs.declared.answers.Question.{Question}
use Rattle.mas_explore_listing.specs.declared.answers.Claim.{Claim}
use Rattle.mas_explore_listing.specs.declared.answers.Claim.TheVariants.{Never, Always}
use Rattle.mas_explore_listing.specs.declared.answers.Answer.{Answer}
use Rattle.mas_explore_listing.specs.declared.answers.Answer.TheVariants.{Holds, Fails, Unknown}

-- the order of texts: the first byte that differs decides, or else the length
abbrev pub text_order : List ℕ → List ℕ → Ordering
text_order = slice_cmp nat_cmp

-- ---- the head

abbrev pub extent_word : Extent → List ℕ
extent_word All = codes "all"
extent_word Bound = codes "bound"
extent_word Unshown = codes "unshown"

-- `all outcomes N states N`
unfoldable pub counts_line : Listing → List ℕ
counts_line f = extent_word f.extent ++ (field (codes " outcomes ") (length f.list) ++ (field (codes " states ") f.states ++ line_feed))

unfoldable pub head_text : Listing → List ℕ
head_text f = codes "explore 1\n" ++ counts_line f

-- ---- outcomes

-- the options of the run along a plan
abbrev pub options_of : Options → Plan → Options
options_of o plan = record { cycles = plan.cycles; lead = plan.lead; depth = o.depth; tries = o.tries; level = o.level }

-- `outcome N`, the options of its run, the outcome, and the schedule of the run
unfoldable pub entry_text : Options → ℕ → Shown → List ℕ
entry_text o n e = field (codes "outcome ") n ++ (line_feed ++ (options_line (options_of o e.plan) ++ (e.text ++ schedule_text latest e.plan.schedule)))

-- with their numbers from this one on
abbrev pub entries_text : Options → ℕ → List Shown → List ℕ
entries_text o n [] = []
entries_text o n (e ∷ list) = entry_text o n e ++ entries_text o (n + 1) list

abbrev pub listing_text : Options → Listing → List ℕ
listing_text o f = head_text f ++ entries_text o 1 f.list

-- ---- an answer

abbrev pub claim_word : Claim → List ℕ
claim_word Never = codes "never "
claim_word Always = codes "always "

abbrev pub answer_line : Answer → List ℕ
answer_line Holds = codes "yes\n"
answer_line (Fails place) = codes "no\n"
answer_line Unknown = codes "unknown\n"

-- `never LINE`, and then `yes`, `no` or `unknown`
unfoldable pub claim_text : Question → Answer → List ℕ
claim_text q a = claim_word q.claim ++ (q.line ++ answer_line a)

abbrev pub entry_or_none : Options → ℕ → Option Shown → List ℕ
entry_or_none o n None = []
entry_or_none o n (Some e) = entry_text o n e

-- the outcome that speaks against the claim
abbrev pub against_text : Options → Listing → Answer → List ℕ
against_text o f Holds = []
against_text o f (Fails place) = entry_or_none o (place + 1) (slice_get f.list place)
against_text o f Unknown = []

abbrev pub answered_text : Options → Listing → Question → Answer → List ℕ
answered_text o f q a = head_text f ++ (claim_text q a ++ against_text o f a)
