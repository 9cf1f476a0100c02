-- What a cycle of a mind gives, over any meaning V of minds.
use Rattle.std.specs.Prelude.{ℕ, ◌≡◌, ◌≤◌, ◌+◌, Bool, true, false, List, [], ◌++◌, Option, None, is_some, All, IfSome, codes}
use Rattle.std.specs.List.{list_all}
use Rattle.asl_term.specs.declared.syntax.LiteralOf.{LiteralOf}
use Rattle.asl_term.specs.declared.syntax.Term.{Term}
use Rattle.asl_term.specs.Exprs.{is_ground_literal}
use Rattle.mas_mind.specs.declared.mind.Input.{Input}
use Rattle.mas_mind.specs.declared.mind.Message.{Message}
use Rattle.mas_mind.specs.declared.mind.Outs.{Outs}
use Rattle.mas_mind.specs.declared.mind.Feedback.{Feedback}
use Rattle.mas_mind.specs.declared.mind.Thought.{Thought}
use Rattle.mas_mind.specs.declared.mind.Thought.TheVariants as thought
use Rattle.mas_mind.specs.declared.mind.Verb.{Verb}
use Rattle.mas_mind.specs.declared.mind.Verb.TheVariants as verb

-- the mind after a cycle, and its thought
pub record Cycled (V : Type 0) : Type 0 where
  pub mind : V
  pub thought : Thought

-- the meaning of a type of minds: what a cycle and what feedback make of a mind; whether it awaits feedback; how many
-- cycles it has made; the lines that it has shown; its number, and that of all agents
pub record Kind (V : Type 0) : Type 0 where
  pub cycle : V → Input → Cycled V
  pub took : V → Feedback → V
  pub awaits : V → Bool
  pub made : V → ℕ
  pub lines : V → List ℕ
  pub me : V → ℕ
  pub agents : V → ℕ

-- ---- what goes in

abbrev pub are_ground : List (LiteralOf Term) → Bool
are_ground percepts = list_all is_ground_literal percepts

-- the number is that of an agent
pub record IsAgent (agents n : ℕ) : Type 0 where
  pub from_one : 1 ≤ n
  pub named : n ≤ agents

-- rule: what may go in: a message to the agent `me` from one of the agents
pub record IsFor (me agents : ℕ) (m : Message) : Type 0 where
  pub to_me : m.to ≡ me
  pub sender : IsAgent agents m.from

-- ---- what comes out

-- a message of the agent `me` to one of the agents
pub record IsFrom (me agents : ℕ) (m : Message) : Type 0 where
  pub from_me : m.from ≡ me
  pub receiver : IsAgent agents m.to

-- rule: what comes out: an action without variables, and messages of the agent `me`
pub record AreOuts (me agents : ℕ) (outs : Outs) : Type 0 where
  pub action : IfSome outs.action (λ l. is_ground_literal l ≡ true)
  pub messages : All (IsFrom me agents) outs.messages

abbrev pub AreLawful : ℕ → ℕ → Thought → Type 0
AreLawful me agents (thought.Outs outs) = AreOuts me agents outs
AreLawful me agents thought.Spent = Unit {0}

-- ---- thoughts

abbrev pub is_quiet : Thought → Bool
is_quiet (thought.Outs outs) = outs.quiet
is_quiet thought.Spent = false

-- outs with nothing in them
pub record AreEmpty (outs : Outs) : Type 0 where
  pub action : outs.action ≡ None
  pub messages : outs.messages ≡ []
  pub stop : outs.stop ≡ false

abbrev pub SendsNothing : Thought → Type 0
SendsNothing (thought.Outs outs) = AreEmpty outs
SendsNothing thought.Spent = Unit {0}

-- whether feedback is due
abbrev pub asks_feedback : Thought → Bool
asks_feedback (thought.Outs outs) = is_some outs.action
asks_feedback thought.Spent = false

-- ---- what a platform sees of a mind, before and after a call that makes so many cycles

pub record Grows {V : Type 0} (k : Kind V) (before after : V) (cycles : ℕ) : Type 0 where
  pub made : k.made after ≡ k.made before + cycles
  pub new_lines : List ℕ
  pub lines : k.lines after ≡ k.lines before ++ new_lines
  pub me : k.me after ≡ k.me before
  pub agents : k.agents after ≡ k.agents before

-- ---- words

-- the word of a verb, as a source and a trace write it
abbrev pub verb_text : Verb → List ℕ
verb_text verb.Tell = codes "tell"
verb_text verb.Untell = codes "untell"
verb_text verb.Achieve = codes "achieve"
verb_text verb.Unachieve = codes "unachieve"
verb_text verb.AskOne = codes "askOne"
verb_text verb.AskAll = codes "askAll"
verb_text verb.TellHow = codes "tellHow"
verb_text verb.UntellHow = codes "untellHow"
verb_text verb.AskHow = codes "askHow"
