-- The lines of a trace as text, and which of them a level shows.
use Rattle.std.specs.Prelude.{ℕ, Bool, true, false, if◌then◌else◌, List, [], ◌++◌, codes}
use Rattle.std.specs.List.{flat_map}
use Rattle.std.specs.Fmt.{decimal}
use Rattle.asl_term.specs.Texts.{text}
use Rattle.asl_term.specs.Exprs.{literal_text}
use Rattle.mas_mind.specs.declared.mind.Level.{Level}
use Rattle.mas_mind.specs.declared.mind.Level.TheVariants as level
use Rattle.asl_exec_circumstance.specs.declared.rows.Row.{Row}
use Rattle.asl_exec_circumstance.specs.declared.rows.Row.TheVariants as row
use Rattle.asl_fail.specs.Fails.{error_name}
use Rattle.asl_resolve.specs.declared.answers.Spent.{Spent}
use Rattle.asl_resolve.specs.declared.answers.Spent.TheVariants as spent
use Rattle.asl_cycle.specs.declared.rows.Mail.{Mail}
use Rattle.asl_cycle.specs.declared.rows.TraceLine.{TraceLine}
use Rattle.asl_cycle.specs.declared.rows.TraceLine.TheVariants as line
use Rattle.mas_mind.specs.Minds.{verb_text}

abbrev pub row_name : Row → List ℕ
row_name row.Percept0 = codes "Percept0"
row_name row.Percept1 = codes "Percept1"
row_name row.Feed0 = codes "Feed0"
row_name row.FeedDone = codes "FeedDone"
row_name row.FeedFail = codes "FeedFail"
row_name row.Msg0 = codes "Msg0"
row_name row.Tell = codes "Tell"
row_name row.Untell = codes "Untell"
row_name row.Achieve = codes "Achieve"
row_name row.Unachieve = codes "Unachieve"
row_name row.AskOne = codes "AskOne"
row_name row.AskAll = codes "AskAll"
row_name row.AskSpent = codes "AskSpent"
row_name row.Reply = codes "Reply"
row_name row.ReplyFail = codes "ReplyFail"
row_name row.TellHow = codes "TellHow"
row_name row.UntellHow = codes "UntellHow"
row_name row.AskHow = codes "AskHow"
row_name row.Ignore = codes "Ignore"
row_name row.SelEv1 = codes "SelEv1"
row_name row.SelEv2 = codes "SelEv2"
row_name row.Rel1 = codes "Rel1"
row_name row.Rel2 = codes "Rel2"
row_name row.Rel3 = codes "Rel3"
row_name row.Appl1 = codes "Appl1"
row_name row.Appl2 = codes "Appl2"
row_name row.Appl3 = codes "Appl3"
row_name row.ApplSpent = codes "ApplSpent"
row_name row.SelAppl = codes "SelAppl"
row_name row.ExtEv = codes "ExtEv"
row_name row.IntEv = codes "IntEv"
row_name row.SelInt1 = codes "SelInt1"
row_name row.SelInt2 = codes "SelInt2"
row_name row.Exec0 = codes "Exec0"
row_name row.ExecLimit = codes "ExecLimit"
row_name row.ExecArith = codes "ExecArith"
row_name row.Action = codes "Action"
row_name row.ExecFree = codes "ExecFree"
row_name row.AchvGl = codes "AchvGl"
row_name row.AchvNew = codes "AchvNew"
row_name row.TestGl1 = codes "TestGl1"
row_name row.TestGl2 = codes "TestGl2"
row_name row.TestErr = codes "TestErr"
row_name row.TestSpent = codes "TestSpent"
row_name row.AddBel = codes "AddBel"
row_name row.DelBel = codes "DelBel"
row_name row.RepBel = codes "RepBel"
row_name row.RelYes = codes "RelYes"
row_name row.RelNo = codes "RelNo"
row_name row.IaOk = codes "IaOk"
row_name row.IaFail = codes "IaFail"
row_name row.IaBig = codes "IaBig"
row_name row.IaSpent = codes "IaSpent"
row_name row.IaGone = codes "IaGone"
row_name row.AskOut = codes "AskOut"
row_name row.ClrInt1 = codes "ClrInt1"
row_name row.ClrInt2 = codes "ClrInt2"
row_name row.ClrInt3 = codes "ClrInt3"
row_name row.ClrLimit = codes "ClrLimit"
row_name row.Fail1 = codes "Fail1"
row_name row.Fail2 = codes "Fail2"
row_name row.Fail3 = codes "Fail3"

abbrev pub spent_name : Spent → List ℕ
spent_name spent.Depth = codes "depth"
spent_name spent.Tries = codes "tries"

-- the other agent, the verb and the content
abbrev pub mail_text : Mail → List ℕ
mail_text m = m.who ++ codes " " ++ verb_text m.verb ++ codes " " ++ text m.content

-- rule: the text of a line
abbrev pub line_text : TraceLine → List ℕ
line_text (line.Rule r) = codes "rule " ++ row_name r
line_text (line.Say t) = codes "say " ++ t
line_text (line.Took m) = codes "took " ++ mail_text m
line_text (line.Does l) = codes "does " ++ literal_text l
line_text (line.Done l) = codes "done " ++ literal_text l
line_text (line.Failed l) = codes "failed " ++ literal_text l
line_text (line.Sends m) = codes "sends " ++ mail_text m
line_text (line.Drops e) = codes "drops " ++ error_name e
line_text (line.Spent s) = codes "spent " ++ spent_name s
line_text line.Stops = codes "stops"

-- only the level of rules shows the names of rows
abbrev pub shows_rules : Level → Bool
shows_rules level.Rules = true
shows_rules other = false

-- the level of acts shows all other lines, and the level of what is said none of them but that
abbrev pub shows_acts : Level → Bool
shows_acts level.Say = false
shows_acts other = true

-- rule: which lines a level shows
abbrev pub shows : Level → TraceLine → Bool
shows v (line.Rule r) = shows_rules v
shows v (line.Say t) = true
shows v other = shows_acts v

-- a line of a trace: the number of the cycle, a space, the text and a line feed
abbrev pub line_shown : Level → ℕ → TraceLine → List ℕ
line_shown v n l = if shows v l then decimal n ++ codes " " ++ line_text l ++ codes "\n" else []

abbrev pub shown : Level → ℕ → List TraceLine → List ℕ
shown v n ls = flat_map (line_shown v n) ls
