-- What printed parts with commas between them read as.
use Rattle.std.proofs.Common.{◌≡◌, ◌≤◌, ℕ, zero, suc, ◌+◌, List, [], ◌∷◌, ◌++◌, ap, sym, subst, append_assoc, arith}
use Rattle.asl_lexer.specs.declared.token.Sign as signs
use Rattle.asl_lexer.specs.declared.token.Sign.TheVariants as sign
use Rattle.asl_lexer.specs.Bare as bares
use Rattle.asl_lexer.specs.Bare.{Bare}
use Rattle.asl_parser_tree.specs.declared.lexeme.Lexeme.{Lexeme}
use Rattle.asl_parser_tree.specs.declared.meaning.Meaning.{Meaning}
use Rattle.asl_parser_tree.specs.declared.leaves.BracketShape.{BracketShape}
use Rattle.asl_parser_tree.specs.declared.leaves.BracketShape.TheVariants as shape
use Rattle.asl_parser_expr.specs.Grammar.{Rule, ReadsItems, last_item, next_item, ReadsParts, no_parts, round_parts, square_parts}
use Rattle.asl_print.specs.Tokens.{comma_tokens, between_tokens}
use Rattle.asl_print_reread.specs.Shown.{mark, commas_shown, between_shown}
use Rattle.asl_print_reread.proofs.Turns.{Turns, turn_none, turn_next, turns_then, turn_mark}
use Rattle.asl_print_reread.proofs.Back.{Back}

-- each part reads as its meaning
pub data Each (rule : Rule) : List (List Bare) → List (List Lexeme) → List Meaning → Type 0 where
  each_none : Each rule [] [] []
  each_next : {xs : List Bare} {ls : List Lexeme} {m : Meaning} {xss : List (List Bare)} {lss : List (List Lexeme)} {ms : List Meaning}
      → Back rule xs ls m → Each rule xss lss ms → Each rule (xs ∷ xss) (ls ∷ lss) (m ∷ ms)

-- parts with commas between them
pub record Items (rule : Rule) (xss : List (List Bare)) (lss : List (List Lexeme)) (ms : List Meaning) : Type 0 where
  pub need : ℕ
  pub reads : (n : ℕ) (rest : List Lexeme) → need ≤ n → ReadsItems n rule (commas_shown lss ++ rest) rest ms
  pub turns : Turns (comma_tokens xss) (commas_shown lss)

pub items : {rule : Rule} {xs : List Bare} {ls : List Lexeme} {m : Meaning} {xss : List (List Bare)} {lss : List (List Lexeme)} {ms : List Meaning}
    → Back rule xs ls m → Each rule xss lss ms → Items rule (xs ∷ xss) (ls ∷ lss) (m ∷ ms)
items {rule} {xs} {ls} {m} f each_none = record {
  need = f.need;
  reads = λ n rest le. subst (λ (zs : List Lexeme). ReadsItems n rule zs rest (m ∷ [])) (sym (append_assoc ls [] rest)) (last_item (f.reads n rest le));
  turns = turns_then f.turns turn_none;
}
items {rule} {xs} {ls} {m} f (each_next {ls = ks} {m = k} {xss = yss} {lss = kss} {ms = ns} g h) =
    let more = items g h in
    let behind : List Lexeme = commas_shown (ks ∷ kss) in
    record {
      need = f.need + more.need;
      reads = λ n rest le. subst (λ (zs : List Lexeme). ReadsItems n rule zs rest (m ∷ k ∷ ns)) (sym (append_assoc ls (mark sign.Comma ∷ behind) rest))
          (next_item (f.reads n (mark sign.Comma ∷ (behind ++ rest)) (omega arith)) (more.reads n rest (omega arith)));
      turns = turns_then f.turns (turn_next (turn_mark sign.Comma) more.turns);
    }

-- the same in brackets, or nothing
pub record Parts (rule : Rule) (s : BracketShape) (xs : List Bare) (ls : List Lexeme) (ms : List Meaning) : Type 0 where
  pub need : ℕ
  pub reads : (n : ℕ) (rest : List Lexeme) → need ≤ n → ReadsParts n rule s (ls ++ rest) rest ms
  pub turns : Turns xs ls

closed : (first last : Lexeme) (ls rest : List Lexeme) → (first ∷ (ls ++ last ∷ [])) ++ rest ≡ first ∷ (ls ++ last ∷ rest)
closed first last ls rest = ap (λ zs. first ∷ zs) (append_assoc ls (last ∷ []) rest)

round_reads : (rule : Rule) (ls : List Lexeme) (ms : List Meaning) (need : ℕ) → ((n : ℕ) (zs : List Lexeme) → need ≤ n → ReadsItems n rule (ls ++ zs) zs ms)
    → (n : ℕ) (rest : List Lexeme) → suc need ≤ n → ReadsParts n rule shape.Round ((mark sign.Open ∷ (ls ++ mark sign.Close ∷ [])) ++ rest) rest ms
round_reads rule ls ms need h zero rest le = absurd (omega arith)
round_reads rule ls ms need h (suc n) rest le =
    subst (λ (zs : List Lexeme). ReadsParts (suc n) rule shape.Round zs rest ms) (sym (closed (mark sign.Open) (mark sign.Close) ls rest))
    (round_parts (h n (mark sign.Close ∷ rest) (omega arith)))

square_reads : (rule : Rule) (ls : List Lexeme) (ms : List Meaning) (need : ℕ) → ((n : ℕ) (zs : List Lexeme) → need ≤ n → ReadsItems n rule (ls ++ zs) zs ms)
    → (n : ℕ) (rest : List Lexeme) → suc need ≤ n
    → ReadsParts n rule shape.Square ((mark sign.OpenSquare ∷ (ls ++ mark sign.CloseSquare ∷ [])) ++ rest) rest ms
square_reads rule ls ms need h zero rest le = absurd (omega arith)
square_reads rule ls ms need h (suc n) rest le =
    subst (λ (zs : List Lexeme). ReadsParts (suc n) rule shape.Square zs rest ms) (sym (closed (mark sign.OpenSquare) (mark sign.CloseSquare) ls rest))
    (square_parts (h n (mark sign.CloseSquare ∷ rest) (omega arith)))

between_turns : {xs : List Bare} {ls : List Lexeme} (first last : signs.Sign) → Turns xs ls
    → Turns (bares.mark first ∷ (xs ++ bares.mark last ∷ [])) (mark first ∷ (ls ++ mark last ∷ []))
between_turns first last f = turn_next (turn_mark first) (turns_then f (turn_next (turn_mark last) turn_none))

pub round : {rule : Rule} {xss : List (List Bare)} {lss : List (List Lexeme)} {ms : List Meaning} → Each rule xss lss ms
    → Parts rule shape.Round (between_tokens sign.Open sign.Close xss) (between_shown sign.Open sign.Close lss) ms
round each_none = record { need = 0; reads = λ n rest le. no_parts; turns = turn_none }
round {rule} (each_next {ls = ls} {m = m} {lss = lss} {ms = ms} f h) =
    let i = items f h in
    record {
      need = suc i.need;
      reads = round_reads rule (commas_shown (ls ∷ lss)) (m ∷ ms) i.need i.reads;
      turns = between_turns sign.Open sign.Close i.turns;
    }

pub square : {rule : Rule} {xss : List (List Bare)} {lss : List (List Lexeme)} {ms : List Meaning} → Each rule xss lss ms
    → Parts rule shape.Square (between_tokens sign.OpenSquare sign.CloseSquare xss) (between_shown sign.OpenSquare sign.CloseSquare lss) ms
square each_none = record { need = 0; reads = λ n rest le. no_parts; turns = turn_none }
square {rule} (each_next {ls = ls} {m = m} {lss = lss} {ms = ms} f h) =
    let i = items f h in
    record {
      need = suc i.need;
      reads = square_reads rule (commas_shown (ls ∷ lss)) (m ∷ ms) i.need i.reads;
      turns = between_turns sign.OpenSquare sign.CloseSquare i.turns;
    }
