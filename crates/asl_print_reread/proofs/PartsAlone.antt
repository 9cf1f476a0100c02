-- The texts of literals, terms and formulas alone are read again.
use Rattle.std.proofs.Common.{◌≡◌, ℕ, true, List, [], map, ap, sym, ◌∙◌, subst, arith}
use Rattle.std.specs.List.{list_all}
use Rattle.std.proofs.lemmas.List.{append-nil}
use Rattle.asl_lexer.specs.declared.token.Tok.{Tok}
use Rattle.asl_lexer.specs.Lexing.{AreTokens}
use Rattle.asl_lexer.specs.Seams.{HasTokens}
use Rattle.asl_lexer.specs.Bare.{Bare, bare}
use Rattle.asl_lexer.proofs.Seams.{whole}
use Rattle.asl_lexer.proofs.SpelledTokens.{tokens_spelled}
use Rattle.asl_term.specs.Texts as texts
use Rattle.asl_term.specs.Exprs.{text}
use Rattle.asl_parser_tree.specs.declared.lexeme.Lexeme.{Lexeme}
use Rattle.asl_parser_tree.specs.declared.meaning.Meaning.{Meaning}
use Rattle.asl_parser_tree.specs.Lexemes.{lexemes}
use Rattle.asl_parser_expr.specs.Grammar.{Reads, disjunction, ReadsLiteral}
use Rattle.asl_print.proofs.Terms.{term_gives}
use Rattle.asl_print.proofs.Exprs.{literal_gives, expr_gives}
use Rattle.asl_print_reread.specs.Laws.{LiteralsAreRead, IsMeant, TermsAreRead, FormulasAreRead}
use Rattle.asl_print_reread.specs.Shown.{literal_shown, term_shown, expr_shown}
use Rattle.asl_print_reread.proofs.Turns.{Turns, bare_lexemes, by_bares, turned}
use Rattle.asl_print_reread.proofs.Back.{Back, back_lifted, negation_or}
use Rattle.asl_print_reread.proofs.Meant.{good_term, good_expr}
use Rattle.asl_print_reread.proofs.Literals.{made_literal}
use Rattle.asl_print_reread.proofs.Rereads as rereads
use Rattle.asl_print_reread.proofs.Rereads.{AllFine, good}
use Rattle.asl_print_reread.proofs.FineTokens.{spelled_tok, all_spelled, fine_tokens}
use Rattle.asl_print_reread.proofs.Names.{names, counted_again, tokens_counted, AreCounted}
use Rattle.asl_print_reread.proofs.NamesRead.{meant_names}
use Rattle.asl_print_reread.proofs.Named.{named, literal}

spelled : (bytes : List ℕ) (ts : List Tok) → AreTokens bytes ts → list_all spelled_tok ts ≡ true
spelled bytes ts l = all_spelled ts (tokens_spelled bytes ts l)

-- the tokens of a text are these, where they have the names of tokens that were read
shown_is : (ts us : List Tok) (xs : List Bare) (ls : List Lexeme) → list_all spelled_tok ts ≡ true → names (lexemes ts) ≡ names ls → Turns xs ls
    → map bare us ≡ xs → lexemes us ≡ ls
shown_is ts us xs ls w e t b =
    by_bares 1 us ∙ ap (bare_lexemes 1) b ∙ turned t 1 ∙ counted_again ls 1 (subst (AreCounted 1) e (tokens_counted 1 ts w))

pub literals_are_read : LiteralsAreRead
literals_are_read bytes l is =
    let w = spelled bytes is.tokens is.lexed in
    let g = made_literal l (rereads.literal is.read (fine_tokens 1 is.tokens w)).0 in
    let t = whole (literal_gives l g.spelled) in
    let same = shown_is is.tokens t.toks _ (literal_shown l) w (literal is.read (fine_tokens 1 is.tokens w) ∙ append-nil (names (literal_shown l))) g.turns t.same in
    record {
      tokens = t.toks;
      lexed = t.lexed;
      brackets = g.need;
      read = subst (λ (ks : List Lexeme). ReadsLiteral g.need ks [] l) (append-nil (literal_shown l) ∙ sym same) (g.reads g.need [] (omega arith));
    }

meant_again : (bytes : List ℕ) (xs : List Bare) (ls : List Lexeme) (m : Meaning) → HasTokens bytes xs → Back disjunction xs ls m → (ts : List Tok)
    → list_all spelled_tok ts ≡ true → names (lexemes ts) ≡ names ls → IsMeant bytes m
meant_again bytes xs ls m t b ts w e =
    let same = shown_is ts t.toks xs ls w e b.turns t.same in
    record {
      tokens = t.toks;
      lexed = t.lexed;
      brackets = b.need;
      read = subst (λ (ks : List Lexeme). Reads b.need disjunction ks [] m) (append-nil ls ∙ sym same) (b.reads b.need [] (omega arith));
    }

pub terms_are_read : TermsAreRead
terms_are_read bytes m t is e =
    let w = spelled bytes is.tokens is.lexed in
    let f = fine_tokens 1 is.tokens w in
    let g = good_term m t (good is.read f).0 e in
    meant_again (texts.text t) _ (term_shown t) m (whole (term_gives t g.spelled)) (back_lifted disjunction g.back) is.tokens w
    (named is.read f ∙ append-nil (meant_names m) ∙ sym (ap names g.shown))

pub formulas_are_read : FormulasAreRead
formulas_are_read bytes m e is h =
    let w = spelled bytes is.tokens is.lexed in
    let f = fine_tokens 1 is.tokens w in
    let g = good_expr m e (good is.read f).0 h in
    meant_again (text e) _ (expr_shown e) m (whole (expr_gives e g.spelled)) (negation_or g.back) is.tokens w
    (named is.read f ∙ append-nil (meant_names m) ∙ sym (ap names g.shown))
