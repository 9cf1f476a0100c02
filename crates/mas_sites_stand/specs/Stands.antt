-- A stand: the mind in the place of an agent that lives elsewhere. It sends what its script says, and keeps what it is given.
use Rattle.std.specs.Prelude.{ℕ, ◌+◌, false, List, [], ◌∷◌, ◌++◌, drop, length, All, IfSome, Option, None, Some, codes}
use Rattle.std.specs.Option.{option_to_list}
use Rattle.std.specs.Fmt.{decimal}
use Rattle.asl_term.specs.Names.{name_at}
use Rattle.asl_term.specs.Texts.{text}
use Rattle.mas_mind.specs.declared.mind.Message.{Message}
use Rattle.mas_mind.specs.declared.mind.Input.{Input}
use Rattle.mas_mind.specs.declared.mind.Feedback.{Feedback}
use Rattle.mas_mind.specs.declared.mind.Outs.{Outs}
use Rattle.mas_mind.specs.declared.mind.Thought.TheVariants as thought
use Rattle.mas_mind.specs.Minds.{Cycled, Kind, IsAgent, IsFrom, verb_text}

-- its number and the names of all agents, how many cycles it has made, its lines, what it will send, cycle by cycle, and
-- the messages that it has taken, in order
pub record Standing : Type 0 where
  pub me : ℕ
  pub names : List (List ℕ)
  pub made : ℕ
  pub lines : List ℕ
  pub script : List (Option Message)
  pub taken : List Message

-- before its first cycle
abbrev pub opening_stand : ℕ → List (List ℕ) → Standing
opening_stand me names = record { me = me; names = names; made = 0; lines = []; script = []; taken = [] }

-- ---- its lines

abbrev pub name_or_none : Option (List ℕ) → List ℕ
name_or_none None = []
name_or_none (Some name) = name

abbrev pub name_of : List (List ℕ) → ℕ → List ℕ
name_of names a = name_or_none (name_at names a)

-- the other agent, the verb and the content
abbrev pub mail_text : List ℕ → Message → List ℕ
mail_text who m = who ++ codes " " ++ verb_text m.verb ++ codes " " ++ text m.content

-- the number of the cycle, and what was done
abbrev pub mail_line : ℕ → List ℕ → List ℕ → Message → List ℕ
mail_line cycle word who m = decimal cycle ++ codes " " ++ word ++ mail_text who m ++ codes "\n"

abbrev pub took_line : List (List ℕ) → ℕ → Option Message → List ℕ
took_line names cycle None = []
took_line names cycle (Some m) = mail_line cycle (codes "took ") (name_of names m.from) m

abbrev pub sent_line : List (List ℕ) → ℕ → Option Message → List ℕ
sent_line names cycle None = []
sent_line names cycle (Some m) = mail_line cycle (codes "sends ") (name_of names m.to) m

-- ---- its cycles

-- the first entry of a script, which may be empty; none after the script's end
abbrev pub entry : List (Option Message) → Option Message
entry [] = None
entry (e ∷ script) = e

-- no action, no stop, and never quiet
abbrev pub sending : Option Message → Outs
sending m = record { action = None; messages = option_to_list m; stop = false; quiet = false }

-- rule: a stand takes the message of the input, and the first of its script, which it sends
abbrev pub stand_cycle : Standing → Input → Cycled Standing
stand_cycle s i = record {
  mind = record s {
    made = s.made + 1;
    lines = s.lines ++ (took_line s.names (s.made + 1) i.message ++ sent_line s.names (s.made + 1) (entry s.script));
    script = drop 1 s.script;
    taken = s.taken ++ option_to_list i.message;
  };
  thought = thought.Outs (sending (entry s.script));
}

-- it never acts
abbrev pub stand_told : Standing → Feedback → Standing
stand_told s f = s

abbrev pub stand_kind : Kind Standing
stand_kind = record {
  cycle = stand_cycle;
  took = stand_told;
  awaits = λ s. false;
  made = λ s. s.made;
  lines = λ s. s.lines;
  me = λ s. s.me;
  agents = λ s. length s.names;
}

-- ---- its script

-- an entry more, behind the others
abbrev pub with_entry : Option Message → Standing → Standing
with_entry e s = record s { script = s.script ++ e ∷ [] }

-- a message of the agent `me` to one of so many agents, or none
abbrev pub IsEntry : ℕ → ℕ → Option Message → Type 0
IsEntry me agents e = IfSome e (IsFrom me agents)

-- its number is that of an agent, and its script sends that agent's messages
pub record IsStand (s : Standing) : Type 0 where
  pub agent : IsAgent (length s.names) s.me
  pub entries : All (IsEntry s.me (length s.names)) s.script
