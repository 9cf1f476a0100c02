-- What a printed part reads as, and how parts are put together.
use Rattle.std.proofs.Common.{◌≡◌, ◌≤◌, ℕ, zero, suc, ◌+◌, List, [], ◌∷◌, ◌++◌, Some, ap, sym, ◌∙◌, subst, append_assoc, arith}
use Rattle.asl_lexer.specs.declared.token.Sign.TheVariants as sign
use Rattle.asl_lexer.specs.Bare as bares
use Rattle.asl_lexer.specs.Bare.{Bare}
use Rattle.asl_term.specs.declared.syntax.RelOp.{RelOp}
use Rattle.asl_parser_tree.specs.declared.lexeme.Lexeme.{Lexeme}
use Rattle.asl_parser_tree.specs.declared.meaning.Meaning.{Meaning}
use Rattle.asl_parser_tree.specs.declared.meaning.Joint.{Joint}
use Rattle.asl_parser_tree.specs.Meanings.{joined, compared}
use Rattle.asl_parser_expr.specs.Grammar.{Rule, disjunction, conjunction, negation, relation, sum, product, signed, primary, operand, Joins, Relates}
use Rattle.asl_parser_expr.specs.Grammar.{Reads, just_or, just_and, just_negation, just_relation, just_sum, just_product, just_signed, chained, related, in_brackets}
use Rattle.asl_print_reread.specs.Shown.{mark}
use Rattle.asl_print_reread.proofs.Turns.{Turn, Turns, turn_none, turn_next, turns_then, turn_mark}

-- ---- from rule to rule

pub lift : {n : ℕ} {xs ys : List Lexeme} {m : Meaning} (rule : Rule) → Reads n primary xs ys m → Reads n rule xs ys m
lift disjunction r = just_or (just_and (just_negation (just_relation (just_sum (just_product (just_signed r))))))
lift conjunction r = just_and (just_negation (just_relation (just_sum (just_product (just_signed r)))))
lift negation r = just_negation (just_relation (just_sum (just_product (just_signed r))))
lift relation r = just_relation (just_sum (just_product (just_signed r)))
lift sum r = just_sum (just_product (just_signed r))
lift product r = just_product (just_signed r)
lift signed r = just_signed r
lift primary r = r

pub up : {n : ℕ} {xs ys : List Lexeme} {m : Meaning} (rule : Rule) → Reads n rule xs ys m → Reads n disjunction xs ys m
up disjunction r = r
up conjunction r = just_or r
up negation r = just_or (just_and r)
up relation r = just_or (just_and (just_negation r))
up sum r = just_or (just_and (just_negation (just_relation r)))
up product r = just_or (just_and (just_negation (just_relation (just_sum r))))
up signed r = just_or (just_and (just_negation (just_relation (just_sum (just_product r)))))
up primary r = lift disjunction r

-- ---- parts

-- tokens of a text, and how they read before anything else, with enough brackets
pub record Back (rule : Rule) (xs : List Bare) (ls : List Lexeme) (m : Meaning) : Type 0 where
  pub need : ℕ
  pub reads : (n : ℕ) (rest : List Lexeme) → need ≤ n → Reads n rule (ls ++ rest) rest m
  pub turns : Turns xs ls

pub same_back : {rule : Rule} {xs ys : List Bare} {ls ms : List Lexeme} {m : Meaning} → xs ≡ ys → ls ≡ ms → Back rule ys ms m → Back rule xs ls m
same_back {rule} {xs} {ys} {ls} {ms} {m} e f b =
    subst (λ (zs : List Bare). Back rule zs ls m) (sym e) (subst (λ (ks : List Lexeme). Back rule ys ks m) (sym f) b)

pub back_lifted : {xs : List Bare} {ls : List Lexeme} {m : Meaning} (rule : Rule) → Back primary xs ls m → Back rule xs ls m
back_lifted rule b = record { need = b.need; reads = λ n rest le. lift rule (b.reads n rest le); turns = b.turns }

-- by a rule above the negation
pub negation_up : {xs : List Bare} {ls : List Lexeme} {m : Meaning} → Back negation xs ls m → Back conjunction xs ls m
negation_up b = record { need = b.need; reads = λ n rest le. just_and (b.reads n rest le); turns = b.turns }

pub negation_or : {xs : List Bare} {ls : List Lexeme} {m : Meaning} → Back negation xs ls m → Back disjunction xs ls m
negation_or b = record { need = b.need; reads = λ n rest le. just_or (just_and (b.reads n rest le)); turns = b.turns }

-- ---- two parts in round brackets

-- a token between two parts, and behind them the closing bracket
abbrev pub bracketed : List Lexeme → Lexeme → List Lexeme → List Lexeme
bracketed ls x ms = mark sign.Open ∷ (ls ++ x ∷ (ms ++ mark sign.Close ∷ []))

behind_both : (ls ms rest : List Lexeme) (x : Lexeme) → (ls ++ x ∷ (ms ++ mark sign.Close ∷ [])) ++ rest ≡ ls ++ x ∷ (ms ++ mark sign.Close ∷ rest)
behind_both ls ms rest x =
    append_assoc ls (x ∷ (ms ++ mark sign.Close ∷ [])) rest
    ∙ ap (λ zs. ls ++ x ∷ zs) (append_assoc ms (mark sign.Close ∷ []) rest)

bracketed_reads : (ls ms : List Lexeme) (x : Lexeme) (m : Meaning) (need : ℕ)
    → ((n : ℕ) (zs : List Lexeme) → need ≤ n → Reads n disjunction (ls ++ x ∷ (ms ++ zs)) zs m)
    → (n : ℕ) (rest : List Lexeme) → suc need ≤ n → Reads n primary (bracketed ls x ms ++ rest) rest m
bracketed_reads ls ms x m need h zero rest le = absurd (omega arith)
bracketed_reads ls ms x m need h (suc n) rest le =
    subst (λ (zs : List Lexeme). Reads (suc n) primary (mark sign.Open ∷ zs) rest m) (sym (behind_both ls ms rest x))
    (in_brackets (h n (mark sign.Close ∷ rest) (omega arith)))

bracketed_turns : {xs ys : List Bare} {y : Bare} {ls ms : List Lexeme} {x : Lexeme} → Turns xs ls → Turn y x → Turns ys ms
    → Turns (bares.mark sign.Open ∷ (xs ++ y ∷ (ys ++ bares.mark sign.Close ∷ []))) (bracketed ls x ms)
bracketed_turns f t g = turn_next (turn_mark sign.Open) (turns_then f (turn_next t (turns_then g (turn_next (turn_mark sign.Close) turn_none))))

pub back_joined : {rule : Rule} {x : Lexeme} {o : Joint} {xs ys : List Bare} {y : Bare} {ls ms : List Lexeme} {l r m : Meaning} → Joins rule x o
    → joined o l r ≡ Some m → Turn y x → Back rule xs ls l → Back (operand rule) ys ms r
    → Back primary (bares.mark sign.Open ∷ (xs ++ y ∷ (ys ++ bares.mark sign.Close ∷ []))) (bracketed ls x ms) m
back_joined {rule} {x} {o} {xs} {ys} {y} {ls} {ms} {l} {r} {m} j e t f g = record {
  need = suc (f.need + g.need);
  reads = bracketed_reads ls ms x m (f.need + g.need)
      (λ n zs le. up rule (chained j (f.reads n (x ∷ (ms ++ zs)) (omega arith)) (g.reads n zs (omega arith)) e));
  turns = bracketed_turns f.turns t g.turns;
}

pub back_related : {x : Lexeme} {o : RelOp} {xs ys : List Bare} {y : Bare} {ls ms : List Lexeme} {l r m : Meaning} → Relates x o
    → compared o l r ≡ Some m → Turn y x → Back sum xs ls l → Back sum ys ms r
    → Back primary (bares.mark sign.Open ∷ (xs ++ y ∷ (ys ++ bares.mark sign.Close ∷ []))) (bracketed ls x ms) m
back_related {x} {o} {xs} {ys} {y} {ls} {ms} {l} {r} {m} j e t f g = record {
  need = suc (f.need + g.need);
  reads = bracketed_reads ls ms x m (f.need + g.need)
      (λ n zs le. up relation (related j (f.reads n (x ∷ (ms ++ zs)) (omega arith)) (g.reads n zs (omega arith)) e));
  turns = bracketed_turns f.turns t g.turns;
}
