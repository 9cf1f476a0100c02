-- What is written of messages, and of what a cycle has thought that is not yet handed over.
use Rattle.std.specs.Prelude.{ℕ, ◌+◌, Bool, true, false, List, [], ◌++◌, length, Option, Some, None, codes}
use Rattle.std.specs.List.{flat_map}
use Rattle.asl_term.specs.declared.syntax.LiteralOf.{LiteralOf}
use Rattle.asl_term.specs.declared.syntax.Term.{Term}
use Rattle.asl_term.specs.Exprs.{literal_text}
use Rattle.asl_term.specs.Texts.{text}
use Rattle.mas_mind.specs.declared.mind.Message.{Message}
use Rattle.mas_mind.specs.declared.mind.Outs.{Outs}
use Rattle.mas_mind.specs.declared.mind.Thought.{Thought}
use Rattle.mas_mind.specs.declared.mind.Thought.TheVariants as thought
use Rattle.mas_mind.specs.Minds.{verb_text}
use Rattle.look_lines.specs.Lines.{head, line, name_of}

-- `WAY AGENT VERB CONTENT`, where the way is `from` or `to`

unfoldable pub route_text : List (List ℕ) → List ℕ → ℕ → List ℕ
route_text names way a = way ++ (codes " " ++ (name_of names a ++ codes " "))

unfoldable pub content_text : Message → List ℕ
content_text m = verb_text m.verb ++ (codes " " ++ text m.content)

abbrev pub mail_line : List (List ℕ) → List ℕ → ℕ → Message → List ℕ
mail_line names way a m = line (route_text names way a ++ content_text m)

abbrev pub sent_line : List (List ℕ) → Message → List ℕ
sent_line names m = mail_line names (codes "to") m.to m

abbrev pub unread_line : List (List ℕ) → Message → List ℕ
unread_line names m = mail_line names (codes "from") m.from m

abbrev pub action_text : Option (LiteralOf Term) → List ℕ
action_text None = []
action_text (Some action) = line (codes "action " ++ literal_text action)

abbrev pub stop_text : Bool → List ℕ
stop_text true = line (codes "stop")
stop_text false = []

-- one line for the action, for each message, and for the stop

abbrev pub one_if : Bool → ℕ
one_if true = 1
one_if false = 0

abbrev pub one_for : {A : Type 0} → Option A → ℕ
one_for None = 0
one_for (Some x) = 1

abbrev pub count : Outs → ℕ
count outs = one_for outs.action + length outs.messages + one_if outs.stop

unfoldable pub outs_text : List (List ℕ) → Outs → List ℕ
outs_text names outs =
    head (codes "out") (count outs) ++ (action_text outs.action ++ (flat_map (sent_line names) outs.messages ++ stop_text outs.stop))

abbrev pub thought_text : List (List ℕ) → Option Thought → List ℕ
thought_text names None = head (codes "out") 0
thought_text names (Some thought.Spent) = head (codes "out") 1 ++ line (codes "spent")
thought_text names (Some (thought.Outs outs)) = outs_text names outs
