-- Which bytes are a schedule, and which line of other bytes is the first that is not as it has to be.
use Rattle.std.specs.Prelude.{ℕ, ◌≡◌, ◌≢◌, ◌⊎◌, ◌<◌, ◌≤◌, ◌^◌, List, [], ◌∷◌, ◌++◌, length, Result, Ok, Err}
use Rattle.mas_report_schedule.specs.declared.entry.ScheduleEntry.{ScheduleEntry}
use Rattle.mas_report_schedule.specs.declared.reading.LineFault.{LineFault}
use Rattle.mas_report_schedule.specs.declared.reading.LineFault.TheVariants.{Memory, BadLine}
use Rattle.mas_report_schedule.specs.Schedule.{IsVersion, spread, entries_text, entries_of, runs, line_feed, count_line}
use Rattle.mas_report_schedule.specs.Schedule.{lines_text, schedule_text, printed, AllFromOne}

-- how many numbers a schedule may have, and one entry
abbrev pub IsCount : ℕ → Type 0
IsCount n = (0 < n) × (n ≤ 5000000)

-- the number of an agent
abbrev pub IsAgent : ℕ → Type 0
IsAgent n = (0 < n) × (n ≤ 65535)

-- each of an agent, once or more often
abbrev pub AreEntries : List ScheduleEntry → Type 0
AreEntries [] = Unit {0}
AreEntries (e ∷ es) = (IsAgent e.agent × IsCount e.times) × AreEntries es

-- rule: the bytes are the line of how many numbers these are and a line of entries that stand for them, and nothing else
pub record IsSchedule (bytes names : List ℕ) : Type 0 where
  pub count : IsCount (length names)
  pub entries : List ScheduleEntry
  pub each : AreEntries entries
  pub stand : spread entries ≡ names
  pub is : bytes ≡ lines_text (length names) entries

-- the bytes begin with the line `schedule N`, and this is behind it
pub record BeginsCounted (bytes : List ℕ) (n : ℕ) (rest : List ℕ) : Type 0 where
  pub count : IsCount n
  pub is : bytes ≡ count_line n ++ rest

-- the bytes begin with a line of entries that stand for so many numbers, and this is behind it
pub record BeginsEntered (bytes : List ℕ) (n : ℕ) (entries : List ScheduleEntry) (more : List ℕ) : Type 0 where
  pub each : AreEntries entries
  pub as_many : length (spread entries) ≡ n
  pub is : bytes ≡ entries_text entries ++ (line_feed ++ more)

-- no such line is at the front
abbrev pub BeginsUnentered : List ℕ → ℕ → Type 0
BeginsUnentered bytes n = (entries : List ScheduleEntry) (more : List ℕ) → BeginsEntered bytes n entries more → ⊥

-- rule: the number of the first line that is not as it has to be.
pub data IsBadLine (bytes : List ℕ) : ℕ → Type 0 where
  -- no line `schedule N` is at the front
  first : ((n : ℕ) (rest : List ℕ) → BeginsCounted bytes n rest → ⊥) → IsBadLine bytes 1
  -- such a line is, but no line of entries that stand for N numbers is behind it
  second : (n : ℕ) (rest : List ℕ) → BeginsCounted bytes n rest → BeginsUnentered rest n → IsBadLine bytes 2
  -- something is behind the two lines
  third : (n : ℕ) (rest : List ℕ) (entries : List ScheduleEntry) (b : ℕ) (more : List ℕ)
      → BeginsCounted bytes n rest → BeginsEntered rest n entries (b ∷ more) → IsBadLine bytes 3

-- why bytes gave no schedule; memory may lack anywhere
abbrev pub IsFaultAt : List ℕ → LineFault → Type 0
IsFaultAt bytes Memory = Unit {0}
IsFaultAt bytes (BadLine n) = IsBadLine bytes n

-- what bytes are: the schedule of these numbers, or none because of this line
abbrev pub Answers : List ℕ → Result (List ℕ) ℕ → Type 0
Answers bytes (Ok names) = IsSchedule bytes names
Answers bytes (Err n) = IsBadLine bytes n

-- ---- the end of a text

-- nothing, or lines the last of which a line feed ends
abbrev pub AreLines : List ℕ → Type 0
AreLines bytes = (bytes ≡ []) ⊎ ((before : List ℕ) × (bytes ≡ before ++ line_feed))

-- the last two lines of the bytes are the schedule of these numbers
pub record EndsIn (bytes names : List ℕ) : Type 0 where
  pub front : List ℕ
  pub lines : AreLines front
  pub last : List ℕ
  pub schedule : IsSchedule last names
  pub is : bytes ≡ front ++ last

-- they are no schedule
abbrev pub EndsInNone : List ℕ → Type 0
EndsInNone bytes = (names : List ℕ) → EndsIn bytes names → ⊥

-- ---- laws

-- bytes are the schedule of one list of numbers or have one bad line, and not both
abbrev pub OneAnswer : Type 0
OneAnswer = (bytes : List ℕ) (r s : Result (List ℕ) ℕ) → Answers bytes r → Answers bytes s → r ≡ s

-- and they are one of these
abbrev pub SomeAnswer : Type 0
SomeAnswer = (bytes : List ℕ) → (r : Result (List ℕ) ℕ) × Answers bytes r

-- what the last two lines of a text tell is one list of numbers
abbrev pub OneEnd : Type 0
OneEnd = (bytes names others : List ℕ) → EndsIn bytes names → EndsIn bytes others → names ≡ others

-- those are the numbers for which the entries in its last line stand
abbrev pub EndPrinted : Type 0
EndPrinted = (bytes names : List ℕ) → EndsIn bytes names → printed bytes ≡ names

-- the text of numbers is a schedule, of these numbers alone, in both versions
abbrev pub ReadAgain : Type 0
ReadAgain = (version : ℕ) (names : List ℕ) → IsCount (length names) → AllFromOne 65535 names → (r : Result (List ℕ) ℕ) →
    Answers (schedule_text version names) r → r ≡ Ok names

-- they are the numbers in the last line of each text that ends in it
abbrev pub PrintedLast : Type 0
PrintedLast = (version : ℕ) (before names : List ℕ) → AllFromOne 65535 names → length names < 2 ^ 64 → printed (before ++ schedule_text version names) ≡ names

-- ---- the entries of numbers

-- the entries that numbers have stand for these numbers
abbrev pub EntriesStand : Type 0
EntriesStand = (version : ℕ) (names : List ℕ) → spread (entries_of version names) ≡ names

-- each stands for a number, and no two neighbours for the same
abbrev pub AreMaximal : List ScheduleEntry → Type 0
AreMaximal [] = Unit {0}
AreMaximal (e ∷ []) = 0 < e.times
AreMaximal (e ∷ f ∷ es) = (0 < e.times) × (e.agent ≢ f.agent) × AreMaximal (f ∷ es)

-- runs are maximal
abbrev pub RunsMaximal : Type 0
RunsMaximal = (names : List ℕ) → AreMaximal (runs names)

-- and the only entries for their numbers that are
abbrev pub RunsAlone : Type 0
RunsAlone = (entries : List ScheduleEntry) → AreMaximal entries → runs (spread entries) ≡ entries
