-- The beliefs of a source have no variables.
use Rattle.std.proofs.Common.{◌≡◌, ℕ, suc, Bool, true, false, ◌&&◌, cond, List, [], ◌∷◌, ◌++◌, Result, Ok, Err, refl, sym, ap, subst, ◌∙◌}
use Rattle.std.specs.List.{list_all}
use Rattle.asl_lexer.specs.declared.token.Tok.{Tok}
use Rattle.asl_term.specs.declared.syntax.LiteralOf.{LiteralOf}
use Rattle.asl_term.specs.declared.syntax.Term.{Term}
use Rattle.asl_term.specs.declared.syntax.AgentText.{AgentText}
use Rattle.asl_term.specs.declared.syntax.Expr.TheVariants as expr
use Rattle.asl_term.specs.Exprs.{is_ground_literal}
use Rattle.asl_parser_tree.specs.declared.lexeme.Lexeme.{Lexeme}
use Rattle.asl_parser_expr.specs.declared.fault.TextFault.{TextFault}
use Rattle.asl_parser.specs.declared.sentence.Sentence.{Sentence}
use Rattle.asl_parser.specs.declared.sentence.Sentence.TheVariants as sentence
use Rattle.asl_parser.specs.Sentences.{Says, says_fact, says_rule, says_goal, says_plan, fact, kept_once}
use Rattle.asl_parser.specs.Agents.{IsAgent, nothing, added, all_added, Answers, is_read, all_read}

-- a sentence that is a belief has no variable
Ground : Sentence → Type 0
Ground (sentence.Belief l) = is_ground_literal l ≡ true
Ground (sentence.Rule c) = Unit {0}
Ground (sentence.Goal l) = Unit {0}
Ground (sentence.Plan p) = Unit {0}

data AllGround : List Sentence → Type 0 where
  none_left : AllGround []
  one_more : {s : Sentence} {ss : List Sentence} → Ground s → AllGround ss → AllGround (s ∷ ss)

fact_ground : (l : LiteralOf Term) → Ground (fact l)
unfolding Ground
fact_ground l = go (kept_once l) (is_ground_literal (kept_once l)) refl
  where
    go : (m : LiteralOf Term) (b : Bool) → is_ground_literal m ≡ b → Ground (cond b (sentence.Belief m) (sentence.Rule (record { head = m; body = expr.True })))
    go m true e = e
    go m false e = tt

says_ground : {n : ℕ} {xs : List Lexeme} {s : Sentence} → Says n xs s → Ground s
unfolding Ground
says_ground (says_fact {l = l} h e) = subst Ground e (fact_ground l)
says_ground (says_rule h r) = tt
says_ground (says_goal h) = tt
says_ground (says_plan l t c b) = tt

read_ground : {k : ℕ} {ps : List (List Tok)} {ss : List Sentence} → Answers k ps (Ok ss) → AllGround ss
read_ground all_read = none_left
read_ground (is_read d h w a) = one_more (says_ground h) (read_ground a)

all_append : (ls : List (LiteralOf Term)) (l : LiteralOf Term) → list_all is_ground_literal ls ≡ true → is_ground_literal l ≡ true → list_all is_ground_literal (ls ++ l ∷ []) ≡ true
all_append [] l h e = ap (λ b. b && true) e
all_append (m ∷ ls) l h e = go (is_ground_literal m) refl h (λ g. all_append ls l g e)
  where
    go : (b : Bool) → is_ground_literal m ≡ b → (b && list_all is_ground_literal ls) ≡ true
        → (list_all is_ground_literal ls ≡ true → list_all is_ground_literal (ls ++ l ∷ []) ≡ true) → (is_ground_literal m && list_all is_ground_literal (ls ++ l ∷ [])) ≡ true
    go true f g more = ap (λ c. c && list_all is_ground_literal (ls ++ l ∷ [])) f ∙ more g
    go false f g more = absurd cc

added_ground : (text : AgentText) (s : Sentence) → list_all is_ground_literal text.beliefs ≡ true → Ground s → list_all is_ground_literal (added text s).beliefs ≡ true
unfolding Ground
added_ground text (sentence.Belief l) h e = all_append text.beliefs l h e
added_ground text (sentence.Rule c) h e = h
added_ground text (sentence.Goal l) h e = h
added_ground text (sentence.Plan p) h e = h

all_added_ground : (text : AgentText) (ss : List Sentence) → list_all is_ground_literal text.beliefs ≡ true → AllGround ss → list_all is_ground_literal (all_added text ss).beliefs ≡ true
all_added_ground text [] h none_left = h
all_added_ground text (s ∷ ss) h (one_more g gs) = all_added_ground (added text s) ss (added_ground text s h g) gs

pub ground_beliefs : (bytes : List ℕ) (text : AgentText) → IsAgent bytes text → list_all is_ground_literal text.beliefs ≡ true
ground_beliefs bytes text a = ap (λ (x : AgentText). list_all is_ground_literal x.beliefs) a.together ∙ all_added_ground nothing a.sentences refl (read_ground a.said.read)
