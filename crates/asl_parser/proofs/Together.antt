-- Sentences together, from the last of a list that is turned round.
use Rattle.std.proofs.Common.{◌≡◌, List, [], ◌∷◌, ◌++◌, reverse, Option, None, Some, refl, sym, ap, ◌∙◌}
use Rattle.std.specs.Prelude.{option_to_list}
use Rattle.std.proofs.lemmas.List.{reverse-append}
use Rattle.asl_term.specs.declared.syntax.AgentText.{AgentText}
use Rattle.asl_parser.specs.declared.sentence.Sentence.{Sentence}
use Rattle.asl_parser.specs.Agents.{nothing, added, all_added}

reverse-twice : (ss : List Sentence) → reverse (reverse ss) ≡ ss
reverse-twice [] = refl
reverse-twice (s ∷ ss) = ap reverse (reverse-append (s ∷ []) ss) ∙ reverse-append (reverse ss) (s ∷ []) ∙ ap (λ x. s ∷ x) (reverse-twice ss)

-- the loop begins
pub opens : (ss : List Sentence) → all_added nothing (reverse (reverse ss)) ≡ all_added nothing ss
opens ss = ap (all_added nothing) (reverse-twice ss)

-- one more
pub more : (text : AgentText) (left rest : List Sentence) (s : Sentence) (total : AgentText) → all_added text (reverse left) ≡ total → left ≡ rest ++ option_to_list (Some s)
    → all_added (added text s) (reverse rest) ≡ total
more text left rest s total h e = sym (ap (λ x. all_added text (reverse x)) e ∙ ap (all_added text) (reverse-append rest (s ∷ []))) ∙ h

-- the loop ends
pub ends : (text : AgentText) (left rest : List Sentence) (total : AgentText) → all_added text (reverse left) ≡ total → left ≡ [] → text ≡ total
ends text left rest total h e = sym (ap (λ x. all_added text (reverse x)) e) ∙ h
