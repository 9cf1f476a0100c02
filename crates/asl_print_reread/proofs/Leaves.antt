-- Numbers, strings, variables and truths read as themselves.
use Rattle.std.proofs.Common.{◌≡◌, ◌≤◌, ℕ, zero, suc, ℤ, pos, negsuc, ◌-◌, ltb, Bool, true, false, cond, List, Some, None, refl, ap, sym, ◌∙◌, subst, arith}
use Rattle.std.specs.Prelude.{nat_le, ◌-ℤ◌, codes}
use Rattle.std.specs.List.{list_all}
use Rattle.std.proofs.lemmas.Bool.{le-leb, leb-true, lt-ltb}
use Rattle.asl_lexer.specs.declared.token.Sign.TheVariants as sign
use Rattle.asl_lexer.specs.Bare as bares
use Rattle.asl_lexer.specs.Bare.{Bare, is_written_number, is_written_byte, num_tokens}
use Rattle.asl_lexer.specs.Words.{atom_word}
use Rattle.asl_term.specs.declared.syntax.Var.{Var}
use Rattle.asl_term.specs.declared.syntax.Term.TheVariants as term
use Rattle.asl_term.proofs.Terms.{fold_num, fold_str, fold_var}
use Rattle.asl_parser_tree.specs.declared.lexeme.Lexeme.{Lexeme}
use Rattle.asl_parser_tree.specs.declared.lexeme.Lexeme.TheVariants as lexeme
use Rattle.asl_parser_tree.specs.Lexemes.{lexeme_of}
use Rattle.asl_parser_tree.specs.declared.meaning.Meaning.TheVariants as meaning
use Rattle.asl_parser_tree.specs.Meanings.{truth, truth_name}
use Rattle.asl_parser_tree.specs.Leaves.{positive, negative, variable}
use Rattle.asl_parser_expr.specs.Grammar.{primary, a_number, a_negative, a_string, a_variable, a_truth}
use Rattle.asl_parser_tree.proofs.Options.{some_is}
use Rattle.asl_print.specs.Tokens as tokens
use Rattle.asl_print.specs.Spelled.{spelled_step, is_written_var}
use Rattle.asl_print_reread.specs.Shown.{num_shown, term_step}
use Rattle.asl_print_reread.proofs.Turns.{Turn, turn_one, turn_next, turn_mark, turn_number, turn_string, turn_var, turn_word}
use Rattle.asl_print_reread.proofs.Back.{Back, same_back}
use Rattle.asl_print_reread.proofs.Meant.{Good}

-- ---- numbers

below_zero : (k : ℕ) → (pos 0 -ℤ pos (suc k)) ≡ negsuc k
below_zero k =
    let less : ltb 0 (suc k) ≡ true = lt-ltb 0 (suc k) (omega arith) in
    let same : suc k - 1 ≡ k = omega arith in
    ap (λ (b : Bool). cond b (negsuc (suc k - 1)) (pos (0 - suc k))) less ∙ ap negsuc same

num_back : (z : ℤ) → is_written_number z ≡ true → Back primary (num_tokens z) (num_shown z) (meaning.Term (term.Num z))
num_back (pos n) w = record {
  need = 0;
  reads = λ k rest le. a_number (ap (λ (b : Bool). cond b (Some (pos n)) None) w);
  turns = turn_one (turn_number n (leb-true n 9223372036854775807 w));
}
num_back (negsuc n) w =
    let le : suc n ≤ 9223372036854775807 = omega (arith, leb-true n 9223372036854775806 w) in
    record {
      need = 0;
      reads = λ k rest le'. a_negative (ap (λ (b : Bool). cond b (Some (pos 0 -ℤ pos (suc n))) None) (le-leb (suc n) 9223372036854775807 le)
          ∙ ap Some (below_zero n));
      turns = turn_next (turn_mark sign.Minus) (turn_one (turn_number (suc n) le));
    }

pub good_number : (z : ℤ) → is_written_number z ≡ true → Good (meaning.Term (term.Num z))
good_number z w = record {
  back = same_back (fold_num (List Bare) tokens.term_step z) (fold_num (List Lexeme) term_step z) (num_back z w);
  spelled = fold_num Bool spelled_step z ∙ w;
  a_word = tt;
}

pub good_positive : (k : ℕ) (z : ℤ) → positive k ≡ Some z → Good (meaning.Term (term.Num z))
good_positive k z e = go (nat_le k 9223372036854775807) refl e
  where
    go : (b : Bool) → nat_le k 9223372036854775807 ≡ b → cond b (Some (pos k)) None ≡ Some z → Good (meaning.Term (term.Num z))
    go true w f = subst (λ (y : ℤ). Good (meaning.Term (term.Num y))) (some_is (pos k) z f) (good_number (pos k) w)
    go false w f = absurd cc

pub good_negative : (k : ℕ) (z : ℤ) → negative k ≡ Some z → Good (meaning.Term (term.Num z))
good_negative zero z e = subst (λ (y : ℤ). Good (meaning.Term (term.Num y))) (some_is (pos 0) z e) (good_number (pos 0) refl)
good_negative (suc k) z e = go (nat_le (suc k) 9223372036854775807) refl e
  where
    go : (b : Bool) → nat_le (suc k) 9223372036854775807 ≡ b → cond b (Some (pos 0 -ℤ pos (suc k))) None ≡ Some z → Good (meaning.Term (term.Num z))
    go true w f = subst (λ (y : ℤ). Good (meaning.Term (term.Num y))) (sym (below_zero k) ∙ some_is (pos 0 -ℤ pos (suc k)) z f)
        (good_number (negsuc k) (le-leb k 9223372036854775806 (omega (arith, leb-true (suc k) 9223372036854775807 w))))
    go false w f = absurd cc

-- ---- strings and variables

pub good_string : (s : List ℕ) → list_all is_written_byte s ≡ true → Good (meaning.Term (term.Str s))
good_string s w = record {
  back = same_back (fold_str (List Bare) tokens.term_step s) (fold_str (List Lexeme) term_step s)
      (record { need = 0; reads = λ k rest le. a_string; turns = turn_one (turn_string s) });
  spelled = fold_str Bool spelled_step s ∙ w;
  a_word = tt;
}

abbrev pub var_of : List ℕ → Var
var_of name = record { name = name; number = 0 }

pub good_variable : (name : List ℕ) → is_written_var (var_of name) ≡ true → Good (meaning.Term (variable name))
good_variable name w = record {
  back = same_back (fold_var (List Bare) tokens.term_step (var_of name)) (fold_var (List Lexeme) term_step (var_of name))
      (record { need = 0; reads = λ k rest le. a_variable; turns = turn_one (turn_var (var_of name) w) });
  spelled = fold_var Bool spelled_step (var_of name) ∙ w;
  a_word = tt;
}

-- ---- truths

truth_turn : (b : Bool) → Turn (bares.atom (truth_name b)) (lexeme.Truth b)
unfolding lexeme_of atom_word
truth_turn true = turn_word (codes "true")
truth_turn false = turn_word (codes "false")

pub good_truth : (b : Bool) → Good (truth b)
good_truth b = record {
  back = record { need = 0; reads = λ k rest le. a_truth; turns = turn_one (truth_turn b) };
  spelled = refl;
  a_word = refl;
}
