-- The clauses of an agent's text, in the order in which they are printed.
use Rattle.std.proofs.Common.{◌≡◌, List, [], ◌∷◌, ◌++◌, map, refl, ap, sym, ◌∙◌, subst, append_assoc}
use Rattle.std.proofs.lemmas.List.{map-append, append-nil}
use Rattle.asl_lexer.specs.Bare.{Bare}
use Rattle.asl_term.specs.declared.syntax.LiteralOf.{LiteralOf}
use Rattle.asl_term.specs.declared.syntax.Term.{Term}
use Rattle.asl_term.specs.declared.syntax.Clause.{Clause}
use Rattle.asl_term.specs.declared.syntax.Plan.{Plan}
use Rattle.asl_term.specs.declared.syntax.AgentText.{AgentText}
use Rattle.asl_parser.specs.declared.sentence.Sentence.{Sentence}
use Rattle.asl_parser.specs.declared.sentence.Sentence.TheVariants as sentence
use Rattle.asl_parser.specs.Agents.{nothing, added, all_added}
use Rattle.asl_print.specs.Tokens.{belief_tokens, rule_tokens, goal_tokens, plan_tokens, clause_tokens}
use Rattle.asl_print_reread.proofs.Clauses.{sentence_tokens}

-- the clauses as they are printed
abbrev pub sentences_of : AgentText → List Sentence
sentences_of a = map sentence.Belief a.beliefs ++ (map sentence.Rule a.rules ++ (map sentence.Goal a.goals ++ map sentence.Plan a.plans))

-- ---- they are gathered to the same agent

abbrev agent : List (LiteralOf Term) → List Clause → List (LiteralOf Term) → List Plan → AgentText
agent bs rs gs ps = record { beliefs = bs; rules = rs; goals = gs; plans = ps }

beliefs_added : (a : AgentText) (ls : List (LiteralOf Term)) (ss : List Sentence)
    → all_added a (map sentence.Belief ls ++ ss) ≡ all_added (agent (a.beliefs ++ ls) a.rules a.goals a.plans) ss
beliefs_added a [] ss = ap (λ (ls : List (LiteralOf Term)). all_added (agent ls a.rules a.goals a.plans) ss) (sym (append-nil a.beliefs))
beliefs_added a (l ∷ ls) ss =
    beliefs_added (added a (sentence.Belief l)) ls ss
    ∙ ap (λ (bs : List (LiteralOf Term)). all_added (agent bs a.rules a.goals a.plans) ss) (append_assoc a.beliefs (l ∷ []) ls)

rules_added : (a : AgentText) (ls : List Clause) (ss : List Sentence)
    → all_added a (map sentence.Rule ls ++ ss) ≡ all_added (agent a.beliefs (a.rules ++ ls) a.goals a.plans) ss
rules_added a [] ss = ap (λ (ls : List Clause). all_added (agent a.beliefs ls a.goals a.plans) ss) (sym (append-nil a.rules))
rules_added a (l ∷ ls) ss =
    rules_added (added a (sentence.Rule l)) ls ss
    ∙ ap (λ (bs : List Clause). all_added (agent a.beliefs bs a.goals a.plans) ss) (append_assoc a.rules (l ∷ []) ls)

goals_added : (a : AgentText) (ls : List (LiteralOf Term)) (ss : List Sentence)
    → all_added a (map sentence.Goal ls ++ ss) ≡ all_added (agent a.beliefs a.rules (a.goals ++ ls) a.plans) ss
goals_added a [] ss = ap (λ (ls : List (LiteralOf Term)). all_added (agent a.beliefs a.rules ls a.plans) ss) (sym (append-nil a.goals))
goals_added a (l ∷ ls) ss =
    goals_added (added a (sentence.Goal l)) ls ss
    ∙ ap (λ (bs : List (LiteralOf Term)). all_added (agent a.beliefs a.rules bs a.plans) ss) (append_assoc a.goals (l ∷ []) ls)

plans_added : (a : AgentText) (ls : List Plan) → all_added a (map sentence.Plan ls) ≡ agent a.beliefs a.rules a.goals (a.plans ++ ls)
plans_added a [] = ap (λ (ls : List Plan). agent a.beliefs a.rules a.goals ls) (sym (append-nil a.plans))
plans_added a (l ∷ ls) =
    plans_added (added a (sentence.Plan l)) ls
    ∙ ap (λ (bs : List Plan). agent a.beliefs a.rules a.goals bs) (append_assoc a.plans (l ∷ []) ls)

pub gathered : (a : AgentText) → all_added nothing (sentences_of a) ≡ a
gathered a =
    beliefs_added nothing a.beliefs _
    ∙ rules_added (agent a.beliefs [] [] []) a.rules _
    ∙ goals_added (agent a.beliefs a.rules [] []) a.goals _
    ∙ plans_added (agent a.beliefs a.rules a.goals []) a.plans

-- ---- their tokens

mapped : {A : Type 0} (f : A → Sentence) (g : A → List Bare) → ((x : A) → sentence_tokens (f x) ≡ g x) → (xs : List A)
    → map sentence_tokens (map f xs) ≡ map g xs
mapped f g h [] = refl
mapped f g h (x ∷ xs) = λ i. h x i ∷ mapped f g h xs i

pub their_tokens : (a : AgentText) → map sentence_tokens (sentences_of a) ≡ clause_tokens a
their_tokens a =
    map-append sentence_tokens (map sentence.Belief a.beliefs) _
    ∙ (λ i. mapped sentence.Belief belief_tokens (λ x. refl) a.beliefs i ++ behind i)
  where
    last : map sentence_tokens (map sentence.Goal a.goals ++ map sentence.Plan a.plans) ≡ map goal_tokens a.goals ++ map plan_tokens a.plans
    last =
        map-append sentence_tokens (map sentence.Goal a.goals) _
        ∙ (λ i. mapped sentence.Goal goal_tokens (λ x. refl) a.goals i ++ mapped sentence.Plan plan_tokens (λ x. refl) a.plans i)

    behind : map sentence_tokens (map sentence.Rule a.rules ++ (map sentence.Goal a.goals ++ map sentence.Plan a.plans))
        ≡ map rule_tokens a.rules ++ (map goal_tokens a.goals ++ map plan_tokens a.plans)
    behind =
        map-append sentence_tokens (map sentence.Rule a.rules) _
        ∙ (λ i. mapped sentence.Rule rule_tokens (λ x. refl) a.rules i ++ last i)

-- ---- what is known of each is known of all

module _ (P : Sentence → Type 0) where
  pub data Every : List Sentence → Type 0 where
    every_none : Every []
    every_next : {s : Sentence} {ss : List Sentence} → P s → Every ss → Every (s ∷ ss)

  every_then : {ss ts : List Sentence} → Every ss → Every ts → Every (ss ++ ts)
  every_then every_none h = h
  every_then (every_next p g) h = every_next p (every_then g h)

  -- by the kinds of clauses
  record ByKinds (a : AgentText) : Type 0 where
    beliefs : Every (map sentence.Belief a.beliefs)
    rules : Every (map sentence.Rule a.rules)
    goals : Every (map sentence.Goal a.goals)
    plans : Every (map sentence.Plan a.plans)

  one_more : {A : Type 0} (f : A → Sentence) (xs : List A) (x : A) → Every (map f xs) → P (f x) → Every (map f (xs ++ x ∷ []))
  one_more f xs x h p = subst Every (sym (map-append f xs (x ∷ []))) (every_then h (every_next p every_none))

  kinds_added : (a : AgentText) (s : Sentence) → ByKinds a → P s → ByKinds (added a s)
  kinds_added a (sentence.Belief l) h p =
      record { beliefs = one_more sentence.Belief a.beliefs l h.beliefs p; rules = h.rules; goals = h.goals; plans = h.plans }
  kinds_added a (sentence.Rule c) h p =
      record { beliefs = h.beliefs; rules = one_more sentence.Rule a.rules c h.rules p; goals = h.goals; plans = h.plans }
  kinds_added a (sentence.Goal l) h p =
      record { beliefs = h.beliefs; rules = h.rules; goals = one_more sentence.Goal a.goals l h.goals p; plans = h.plans }
  kinds_added a (sentence.Plan l) h p =
      record { beliefs = h.beliefs; rules = h.rules; goals = h.goals; plans = one_more sentence.Plan a.plans l h.plans p }

  all_kinds : (a : AgentText) {ss : List Sentence} → ByKinds a → Every ss → ByKinds (all_added a ss)
  all_kinds a h every_none = h
  all_kinds a h (every_next {s = s} p g) = all_kinds (added a s) (kinds_added a s h p) g

  pub in_order : {ss : List Sentence} → Every ss → Every (sentences_of (all_added nothing ss))
  in_order {ss} g =
      let k = all_kinds nothing (record { beliefs = every_none; rules = every_none; goals = every_none; plans = every_none }) g in
      every_then k.beliefs (every_then k.rules (every_then k.goals k.plans))
