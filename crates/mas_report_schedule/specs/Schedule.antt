-- The two lines of a schedule, in each version, and the numbers for which the last line of a text stands.
use Rattle.std.specs.Prelude.{ℕ, ◌≡◌, ◌<◌, ◌≤◌, ◌≢◌, ◌+◌, ◌⊎◌, nat_eq, Bool, if◌then◌else◌, List, [], ◌∷◌, ◌++◌, length, map, replicate, codes, decimal}
use Rattle.std.specs.List.{flat_map, join_with_byte, list_any, slice_split, before_first, after_first}
use Rattle.std.specs.Str.Parse.{digits_value}
use Rattle.mas_report_schedule.specs.declared.entry.ScheduleEntry.{ScheduleEntry}

-- ---- entries

-- an agent's number so many times, one after the other
abbrev pub entry : ℕ → ℕ → ScheduleEntry
entry agent times = record { agent = agent; times = times }

abbrev pub once : ℕ → ScheduleEntry
once agent = entry agent 1

-- the numbers for which entries stand
abbrev pub spread : List ScheduleEntry → List ℕ
spread entries = flat_map (λ e. replicate e.times e.agent) entries

-- how often, where it is not once
abbrev pub times_text : ℕ → List ℕ
times_text times = if nat_eq times 1 then [] else codes "x" ++ decimal times

-- `A`, or `AxK`
abbrev pub entry_text : ScheduleEntry → List ℕ
entry_text e = decimal e.agent ++ times_text e.times

-- entries separated by one space (32)
abbrev pub entries_text : List ScheduleEntry → List ℕ
entries_text entries = join_with_byte 32 (map entry_text entries)

-- ---- the entries of numbers

-- one for each number
abbrev pub singles : List ℕ → List ScheduleEntry
singles names = map once names

-- one for each maximal run of equal numbers, the first of which has begun as told
abbrev pub runs_on : ScheduleEntry → List ℕ → List ScheduleEntry
runs_on run [] = run ∷ []
runs_on run (n ∷ ns) = if nat_eq n run.agent then runs_on (entry run.agent (run.times + 1)) ns else run ∷ runs_on (once n) ns

abbrev pub runs : List ℕ → List ScheduleEntry
runs [] = []
runs (n ∷ ns) = runs_on (once n) ns

-- what is written has one of these versions
abbrev pub IsVersion : ℕ → Type 0
IsVersion version = (version ≡ 1) ⊎ (version ≡ 2)

-- rule: the entries of numbers: in version 1 one for each, later one for each maximal run
abbrev pub entries_of : ℕ → List ℕ → List ScheduleEntry
entries_of version names = if nat_eq version 1 then singles names else runs names

-- ---- the two lines

abbrev pub line_feed : List ℕ
line_feed = 10 ∷ []

abbrev pub count_line : ℕ → List ℕ
count_line n = codes "schedule " ++ (decimal n ++ line_feed)

-- `schedule N`, and then entries
abbrev pub lines_text : ℕ → List ScheduleEntry → List ℕ
lines_text n entries = count_line n ++ (entries_text entries ++ line_feed)

-- rule: the two lines of these numbers
abbrev pub schedule_text : ℕ → List ℕ → List ℕ
schedule_text version names = lines_text (length names) (entries_of version names)

-- ---- the numbers of a text

-- the last line that ends in a line feed: the last one so far, and the bytes since
abbrev pub last_line : List ℕ → List ℕ → List ℕ → List ℕ
last_line last line [] = last
last_line last line (b ∷ bs) = if nat_eq b 10 then last_line line [] bs else last_line last (line ++ b ∷ []) bs

abbrev pub is_space : ℕ → Bool
is_space b = nat_eq b 32

abbrev pub is_times : ℕ → Bool
is_times b = nat_eq b 120

-- the entry of a word `A` or `AxK`
abbrev pub entry_told : List ℕ → ScheduleEntry
entry_told word =
    if list_any is_times word then entry (digits_value 10 (before_first is_times word)) (digits_value 10 (after_first is_times word))
    else once (digits_value 10 word)

-- the entries of a line, which has none where it is empty
abbrev pub entries_told : List ℕ → List ScheduleEntry
entries_told [] = []
entries_told (b ∷ bs) = map entry_told (slice_split is_space (b ∷ bs))

-- rule: the numbers for which the entries in the last line of a text stand
abbrev pub printed : List ℕ → List ℕ
printed text = spread (entries_told (last_line [] [] text))

-- ---- numbers of agents

-- all of them are from 1 to the most
abbrev pub AllFromOne : ℕ → List ℕ → Type 0
AllFromOne most [] = Unit {0}
AllFromOne most (n ∷ ns) = ((0 < n) × (n ≤ most)) × AllFromOne most ns
