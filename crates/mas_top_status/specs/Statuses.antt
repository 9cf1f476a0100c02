-- The code and the line of each status.
use Rattle.std.specs.Prelude.{ℕ, Bool, true, false, List, [], ◌∷◌, ◌++◌, codes, decimal}
use Rattle.mas_top_status.specs.declared.status.Reason.{Reason}
use Rattle.mas_top_status.specs.declared.status.Reason.TheVariants as reason
use Rattle.mas_top_status.specs.declared.status.What.{What}
use Rattle.mas_top_status.specs.declared.status.What.TheVariants as what
use Rattle.mas_top_status.specs.declared.status.Status.{Status}
use Rattle.mas_top_status.specs.declared.status.Status.TheVariants as status

abbrev pub status_code : Status → ℕ
status_code status.Ok = 0
status_code status.No = 1
status_code status.Usage = 2
status_code (status.Missing name) = 3
status_code status.ReadFault = 4
status_code status.WriteFault = 5
status_code (status.Refused file place why) = 6
status_code (status.Limit quantity count) = 7
status_code status.Budget = 8
status_code status.Memory = 9
status_code status.DiskFault = 11

-- where the report was written whole: whether an end in it is `budget`
abbrev pub whole : Bool → Status
whole false = status.Ok
whole true = status.Budget

-- where an answer was written whole: whether it is yes
abbrev pub verdict : Bool → Status
verdict true = status.Ok
verdict false = status.No

-- a text and a line feed
abbrev pub line : List ℕ → List ℕ
line text = text ++ 10 ∷ []

abbrev pub reason_word : Reason → List ℕ
reason_word reason.Byte = codes "byte"
reason_word reason.String = codes "string"
reason_word reason.Comment = codes "comment"
reason_word reason.Number = codes "number"
reason_word reason.Clause = codes "clause"
reason_word (reason.Name name) = codes "name " ++ name
reason_word (reason.Option word) = codes "option " ++ word
reason_word (reason.Unbound name) = codes "unbound " ++ name
reason_word (reason.Artifact name) = codes "artifact " ++ name
reason_word reason.Line = codes "line"
reason_word reason.Illegal = codes "illegal"
reason_word reason.Unended = codes "unended"

abbrev pub what_word : What → List ℕ
what_word what.File = codes "file"
what_word what.Clause = codes "clause"
what_word what.Agents = codes "agents"
what_word what.Cycles = codes "cycles"

-- the commands, with what each of them names
abbrev pub usage : List ℕ
usage = codes "usage: jasonrun run PROJECT | replay PROJECT SCHEDULE | check PROJECT REPORT | demo K | renew PROJECT REPORT"
    ++ codes " | record PROJECT FILE | resume PROJECT FILE | sites P Q | lint PROJECT"

-- nothing where the report was written whole and no end in it is `budget`, or it is that of a run, else one line
abbrev pub fault_text : Status → List ℕ
fault_text status.Ok = []
fault_text status.No = line (codes "no")
fault_text status.Usage = line usage
fault_text (status.Missing name) = line (codes "missing " ++ name)
fault_text status.ReadFault = line (codes "read fault")
fault_text status.WriteFault = line (codes "write fault")
fault_text (status.Refused file place why) = line (codes "refused " ++ file ++ codes " " ++ decimal place ++ codes " " ++ reason_word why)
fault_text (status.Limit quantity count) = line (codes "limit " ++ what_word quantity ++ codes " " ++ decimal count)
fault_text status.Budget = line (codes "budget")
fault_text status.Memory = line (codes "memory")
fault_text status.DiskFault = line (codes "disk fault")
