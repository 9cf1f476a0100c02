-- What is said of a failure in words, by the row that made its line, and where the stack of that row stood.
use Rattle.std.specs.Prelude.{ℕ, Bool, List, codes, if◌then◌else◌, ◌||◌}
use Rattle.std.specs.Str.{bytes_eq}
use Rattle.look_lines.specs.Falls.{begins}
use Rattle.look_mind.specs.declared.reasons.StackPlace.{StackPlace}
use Rattle.look_mind.specs.declared.reasons.StackPlace.TheVariants.{Event, Running, Acting, Ask, Nowhere}

-- ---- why it failed

abbrev pub irrelevant : List ℕ → List ℕ
irrelevant w =
    if bytes_eq w (codes "drops test_failed") then codes "nothing believed matches, and no plan is relevant for the question"
    else codes "no plan is relevant for the goal"

abbrev pub untested : List ℕ → List ℕ
untested w =
    if bytes_eq w (codes "drops arith") then codes "arithmetic in the search has no value"
    else codes "a term in the search passes its limits"

abbrev pub is_limit : List ℕ → Bool
is_limit row = bytes_eq row (codes "rule ExecLimit") || (bytes_eq row (codes "rule ClrLimit") || bytes_eq row (codes "rule IaBig"))

-- an internal action that was done
abbrev pub is_done : List ℕ → Bool
is_done row = bytes_eq row (codes "rule IaOk") || bytes_eq row (codes "rule IaGone")

abbrev pub in_row : List ℕ → List ℕ
in_row row =
    if is_limit row then codes "a term passes its limits"
    else if bytes_eq row (codes "rule RelNo") then codes "the relation does not hold"
    else if is_done row then codes "the internal action ends a goal of this or of another stack"
    else codes "the internal action fails"

abbrev pub in_body : List ℕ → List ℕ → List ℕ
in_body row w =
    if bytes_eq row (codes "rule ExecFree") then codes "a variable has no value"
    else if bytes_eq row (codes "rule ExecArith") then codes "arithmetic has no value"
    else if bytes_eq row (codes "rule TestErr") then untested w
    else in_row row

abbrev pub failing : List ℕ → List ℕ → List ℕ
failing row w =
    if bytes_eq row (codes "rule FeedFail") then codes "the world does not do the action"
    else if bytes_eq row (codes "rule ReplyFail") then codes "the answer does not match what takes it"
    else if bytes_eq row (codes "rule Rel3") then irrelevant w
    else if bytes_eq row (codes "rule Appl3") then codes "no context of a relevant plan holds"
    else in_body row w

-- what was searched that used up its budget
abbrev pub searched : List ℕ → List ℕ
searched row =
    if bytes_eq row (codes "rule AskSpent") then codes "the search for what an agent asks used up its budget"
    else if bytes_eq row (codes "rule ApplSpent") then codes "the search for a plan whose context holds used up its budget"
    else if bytes_eq row (codes "rule TestSpent") then codes "the search for the test used up its budget"
    else codes "the search for the internal action used up its budget"

-- of a line with these words
unfoldable pub why : List ℕ → List ℕ → List ℕ
why row w = if begins w (codes "spent ") then searched row else failing row w

-- ---- where the stack of a row stood before its cycle

abbrev pub is_event : List ℕ → Bool
is_event row = bytes_eq row (codes "rule Rel3") || (bytes_eq row (codes "rule Appl3") || bytes_eq row (codes "rule ApplSpent"))

abbrev pub place_of : List ℕ → StackPlace
place_of row =
    if bytes_eq row (codes "rule FeedFail") then Acting
    else if bytes_eq row (codes "rule ReplyFail") then Ask
    else if is_event row then Event
    else if bytes_eq row (codes "rule AskSpent") then Nowhere
    else Running
