-- The entries of the failures of a run: who, when and what, the row, why, and what stack the agent had in mind before the cycle.
use Rattle.std.specs.Prelude.{ℕ, ◌+◌, ◌-◌, ◌^◌, ◌==◌, min, nat_lt, Bool, true, false, not, ◌&&◌, ◌||◌, if◌then◌else◌}
use Rattle.std.specs.Prelude.{List, [], ◌∷◌, ◌++◌, slice_get, unwrap_or, codes, decimal, Option, Some, None}
use Rattle.std.specs.List.{flat_map}
use Rattle.std.specs.Str.{bytes_eq}
use Rattle.mas_report.specs.declared.options.Options.{Options}
use Rattle.look_lines.specs.declared.falls.FallLine.{FallLine}
use Rattle.look_lines.specs.Falls.{begins, words}
use Rattle.look_mind.specs.declared.fallen.RunFalls.{RunFalls}
use Rattle.look_mind.specs.declared.reasons.StackPlace.{StackPlace}
use Rattle.look_mind.specs.declared.reasons.StackPlace.TheVariants.{Event, Running, Acting, Ask, Nowhere}
use Rattle.look_mind.specs.Marks.{cycle_of, turn_of, turns_at}
use Rattle.look_mind.specs.Reasons.{place_of, why}

-- ---- who, when and what

unfoldable pub turn_text : ℕ → FallLine → List ℕ
turn_text turn f = codes " turn " ++ (decimal turn ++ (codes ": " ++ (words f.line ++ codes "\n")))

unfoldable pub heading : List ℕ → ℕ → FallLine → List ℕ
heading name turn f = name ++ (codes " cycle " ++ (decimal (cycle_of f) ++ turn_text turn f))

-- the row, and why it failed
unfoldable pub row_text : FallLine → List ℕ
row_text f = codes "  " ++ (f.row ++ (codes "\n  why  " ++ (why f.row (words f.line) ++ codes "\n")))

-- ---- what became of the stack of an action, or the option that a search used up

unfoldable pub past_text : List ℕ → ℕ → List ℕ
past_text option number = codes "  past " ++ (option ++ (decimal number ++ codes "\n"))

abbrev pub then_text : Bool → List ℕ
then_text taken_up = if taken_up then codes "  then a failure plan\n" else codes "  then dropped\n"

abbrev pub action_text : List ℕ → Bool → List ℕ
action_text w taken_up = if begins w (codes "failed ") then then_text taken_up else []

abbrev pub outcome_text : Options → FallLine → List ℕ
outcome_text o f =
    let w = words f.line in
    if bytes_eq w (codes "spent depth") then past_text (codes "--depth ") o.depth
    else if bytes_eq w (codes "spent tries") then past_text (codes "--tries ") o.tries
    else action_text w f.taken_up

-- ---- what the agent had in mind before: the texts are those of its oldest event, of the stack that runs next, of the one that waits for its
-- action, and of those that wait for an answer

abbrev pub text_at : List (List ℕ) → ℕ → List ℕ
text_at texts at = unwrap_or (slice_get texts at) []

-- what stands behind the first line feed
abbrev pub below_head : List ℕ → List ℕ
below_head [] = []
below_head (b ∷ rest) = if b == 10 then rest else below_head rest

abbrev pub is_nothing : List ℕ → Bool
is_nothing [] = true
is_nothing (b ∷ rest) = false

-- a text below its name, and nothing where there is none
abbrev pub named : List ℕ → List ℕ → List ℕ
named name text = if is_nothing text then [] else name ++ text

abbrev pub asks_text : List (List ℕ) → List ℕ
asks_text texts = below_head (text_at texts 3)

-- the stack that was to run: the first that ran, else the one that waited for its action, else that of the oldest event
abbrev pub running_text : List (List ℕ) → List ℕ
running_text texts =
    if not (is_nothing (text_at texts 1)) then codes "  stack\n" ++ text_at texts 1
    else if not (is_nothing (text_at texts 2)) then codes "  acting\n" ++ text_at texts 2
    else if not (is_nothing (text_at texts 0)) then codes "  event\n" ++ text_at texts 0
    else asks_text texts

abbrev pub placed_text : StackPlace → List (List ℕ) → List ℕ
placed_text Nowhere texts = []
placed_text Running texts = running_text texts
placed_text Ask texts = asks_text texts
placed_text Event texts = named (codes "  event\n") (text_at texts 0)
placed_text Acting texts = named (codes "  acting\n") (text_at texts 2)

-- of the stack of a row, before the turn of this number, from 1
abbrev pub mind_or_none : List ℕ → Option (List (List ℕ)) → List ℕ
mind_or_none row None = []
mind_or_none row (Some texts) = placed_text (place_of row) texts

abbrev pub mind_text : List (List (List ℕ)) → ℕ → List ℕ → List ℕ
mind_text before turn row = mind_or_none row (slice_get before (turn - 1))

-- ---- the entries

unfoldable pub entry_text : Options → List (List (List ℕ)) → List ℕ → ℕ → FallLine → List ℕ
entry_text o before name turn f =
    heading name turn f ++ (row_text f ++ (outcome_text o f ++ (mind_text before turn f.row ++ codes "\n")))

-- it is told; of those that a failure plan takes up only where all are
abbrev pub is_told : Bool → FallLine → Bool
is_told unhandled f = not (unhandled && f.taken_up)

abbrev pub told_text : Bool → Options → List (List (List ℕ)) → List ℕ → List ℕ → FallLine → List ℕ
told_text unhandled o before name own f = if is_told unhandled f then entry_text o before name (turn_of own f) f else []

-- those of an agent, of which these are the turns
abbrev pub agent_text : Bool → Options → List (List (List ℕ)) → List ℕ → List ℕ → List FallLine → List ℕ
agent_text unhandled o before name own falls = flat_map (told_text unhandled o before name own) falls

-- those of the agents from a place on
abbrev pub agents_text : Bool → RunFalls → List (List (List ℕ)) → List (List ℕ) → ℕ → List (List FallLine) → List ℕ
agents_text unhandled fallen before own k [] = []
agents_text unhandled fallen before own k (falls ∷ rest) =
    agent_text unhandled fallen.options before (text_at fallen.names k) (turns_at own k) falls
    ++ agents_text unhandled fallen before own (k + 1) rest

-- ---- how many

abbrev pub is_counted : Bool → List ℕ → FallLine → Bool
is_counted unhandled word f = is_told unhandled f && begins (words f.line) word

abbrev pub one_if : Bool → ℕ
one_if b = if b then 1 else 0

abbrev pub count : Bool → List ℕ → List FallLine → ℕ
count unhandled word [] = 0
count unhandled word (f ∷ falls) = one_if (is_counted unhandled word f) + count unhandled word falls

-- of all agents
abbrev pub count_all : Bool → List ℕ → List (List FallLine) → ℕ
count_all unhandled word [] = 0
count_all unhandled word (falls ∷ rest) = count unhandled word falls + count_all unhandled word rest

-- a count is written up to 2^64 - 1
abbrev pub written : ℕ → ℕ
written n = min n (2 ^ 64 - 1)

abbrev pub numbers_text : ℕ → ℕ → ℕ → List ℕ
numbers_text dropped failed spent =
    decimal dropped ++ (codes " dropped, " ++ (decimal failed ++ (codes " failed, " ++ (decimal spent ++ codes " spent\n"))))

abbrev pub counts_text : Bool → List (List FallLine) → List ℕ
counts_text unhandled falls = numbers_text
    (written (count_all unhandled (codes "drops ") falls))
    (written (count_all unhandled (codes "failed ") falls))
    (written (count_all unhandled (codes "spent ") falls))

abbrev pub some_number : ℕ → ℕ → ℕ → Bool
some_number dropped failed spent = nat_lt 0 dropped || (nat_lt 0 failed || nat_lt 0 spent)

-- some line is told
abbrev pub is_some_told : Bool → List (List FallLine) → Bool
is_some_told unhandled falls = some_number
    (count_all unhandled (codes "drops ") falls)
    (count_all unhandled (codes "failed ") falls)
    (count_all unhandled (codes "spent ") falls)

-- by agent, and behind them how many
abbrev pub entries_text : Bool → RunFalls → List (List (List ℕ)) → List (List ℕ) → List ℕ
entries_text unhandled fallen before own = agents_text unhandled fallen before own 0 fallen.falls ++ counts_text unhandled fallen.falls
