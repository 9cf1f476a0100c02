-- Lists read as themselves.
use Rattle.std.proofs.Common.{◌≡◌, ◌≤◌, ℕ, zero, suc, Bool, true, List, [], ◌∷◌, ◌++◌, map, Option, Some, None, refl, ap, sym, ◌∙◌, subst, append_assoc, arith}
use Rattle.std.specs.Option.{option_map}
use Rattle.std.proofs.lemmas.Bool.{and_from}
use Rattle.std.proofs.lemmas.List.{append-nil}
use Rattle.asl_lexer.specs.declared.token.Sign.TheVariants as sign
use Rattle.asl_lexer.specs.Bare as bares
use Rattle.asl_lexer.specs.Bare.{Bare}
use Rattle.asl_term.specs.declared.syntax.ListingOf.{ListingOf}
use Rattle.asl_term.specs.declared.syntax.Term.{Term}
use Rattle.asl_term.specs.declared.syntax.Term.TheVariants as term
use Rattle.asl_term.specs.Trees.{all, or_true}
use Rattle.asl_term.proofs.Terms.{fold_var, fold_list}
use Rattle.asl_parser_tree.specs.declared.lexeme.Lexeme.{Lexeme}
use Rattle.asl_parser_tree.specs.declared.lexeme.Lexeme.TheVariants as lexeme
use Rattle.asl_parser_tree.specs.declared.meaning.Meaning.{Meaning}
use Rattle.asl_parser_tree.specs.declared.meaning.Meaning.TheVariants as meaning
use Rattle.asl_parser_tree.specs.Leaves.{variable}
use Rattle.asl_parser_expr.specs.Grammar.{sum, listing, ReadsItems, ReadsList, empty_list, some_list, ReadsTail, no_tail, variable_tail, a_list}
use Rattle.asl_print.specs.Tokens as tokens
use Rattle.asl_print.specs.Tokens.{term_tokens, comma_tokens, tail_tokens}
use Rattle.asl_print.specs.Spelled.{is_spelled, spelled_step, is_written_var}
use Rattle.asl_print_reread.specs.Shown.{mark, commas_shown, tail_shown, term_step, term_shown}
use Rattle.asl_print_reread.proofs.Turns.{Turns, turn_none, turn_next, turn_one, turns_then, turn_mark, turn_var}
use Rattle.asl_print_reread.proofs.Back.{same_back, back_lifted}
use Rattle.asl_print_reread.proofs.Listed.{items}
use Rattle.asl_print_reread.proofs.Meant.{Good}
use Rattle.asl_print_reread.proofs.Leaves.{var_of}
use Rattle.asl_print_reread.proofs.Literals.{GoodTerms, terms_none, terms_next, terms_are, each_term, terms_spelled, same_turns}

-- a tail is a variable of a source
pub data GoodTail : Option Term → Type 0 where
  closed : GoodTail None
  ends_in : (name : List ℕ) → is_written_var (var_of name) ≡ true → GoodTail (Some (variable name))

pub record GoodListing (l : ListingOf Term) : Type 0 where
  pub meant : List Meaning
  pub parts : GoodTerms meant l.items
  pub tail : GoodTail l.tail

-- only behind items a list has a tail
pub Starts : List Term → Option Term → Type 0
Starts [] None = Unit {0}
Starts [] (Some t) = ⊥
Starts (i ∷ others) tail = Unit {0}

-- ---- lists that are put together

pub terms_then : {ms ns : List Meaning} {ts us : List Term} → GoodTerms ms ts → GoodTerms ns us → GoodTerms (ms ++ ns) (ts ++ us)
terms_then terms_none h = h
terms_then (terms_next g gs) h = terms_next g (terms_then gs h)

pub listing_then : {ms : List Meaning} {ts : List Term} {l : ListingOf Term} → GoodTerms ms ts → GoodListing l → GoodListing (listing (ts ++ l.items) l.tail)
listing_then {ms} gs g = record { meant = ms ++ g.meant; parts = terms_then gs g.parts; tail = g.tail }

pub starts_then : {m : Meaning} {ms : List Meaning} {ts : List Term} (us : List Term) (tail : Option Term) → GoodTerms (m ∷ ms) ts → Starts (ts ++ us) tail
unfolding Starts
starts_then us tail (terms_next g gs) = tt

pub empty_listing : GoodListing (listing [] None)
empty_listing = record { meant = []; parts = terms_none; tail = closed }

pub empty_starts : Starts [] None
unfolding Starts
empty_starts = tt

pub tail_listing : (name : List ℕ) → is_written_var (var_of name) ≡ true → GoodListing (listing [] (Some (variable name)))
tail_listing name w = record { meant = []; parts = terms_none; tail = ends_in name w }

-- ---- tails

abbrev tail_of : Option Term → List Lexeme
tail_of tail = tail_shown (option_map term_shown tail)

var_shown : (name : List ℕ) → term_shown (variable name) ≡ lexeme.Var name ∷ []
var_shown name = fold_var (List Lexeme) term_step (var_of name)

tail_reads : {tail : Option Term} → GoodTail tail → (n : ℕ) (rest : List Lexeme)
    → ReadsTail n (tail_of tail ++ mark sign.CloseSquare ∷ rest) (mark sign.CloseSquare ∷ rest) (listing [] tail)
tail_reads closed n rest = no_tail
tail_reads (ends_in name w) n rest =
    subst (λ (zs : List Lexeme). ReadsTail n (mark sign.Bar ∷ (zs ++ mark sign.CloseSquare ∷ rest)) (mark sign.CloseSquare ∷ rest) (listing [] (Some (variable name))))
    (sym (var_shown name)) variable_tail

var_turns : (name : List ℕ) → is_written_var (var_of name) ≡ true → Turns (term_tokens (variable name)) (term_shown (variable name))
var_turns name w = same_turns (fold_var (List Bare) tokens.term_step (var_of name)) (var_shown name) (turn_one (turn_var (var_of name) w))

tail_turns : {tail : Option Term} → GoodTail tail → Turns (tail_tokens (option_map term_tokens tail)) (tail_of tail)
tail_turns closed = turn_none
tail_turns (ends_in name w) = turn_next (turn_mark sign.Bar) (var_turns name w)

tail_spelled : {tail : Option Term} → GoodTail tail → or_true (option_map is_spelled tail) ≡ true
tail_spelled closed = refl
tail_spelled (ends_in name w) = fold_var Bool spelled_step (var_of name) ∙ w

-- ---- lists

abbrev list_shown : List Term → Option Term → List Lexeme
list_shown ts tail = mark sign.OpenSquare ∷ (commas_shown (map term_shown ts) ++ (tail_of tail ++ mark sign.CloseSquare ∷ []))

abbrev list_tokens : List Term → Option Term → List Bare
list_tokens ts tail =
    bares.mark sign.OpenSquare ∷ (comma_tokens (map term_tokens ts) ++ (tail_tokens (option_map term_tokens tail) ++ bares.mark sign.CloseSquare ∷ []))

-- what stands between the square brackets
record Inside (ts : List Term) (tail : Option Term) : Type 0 where
  need : ℕ
  reads : (n : ℕ) (rest : List Lexeme) → need ≤ n → ReadsList n (list_shown ts tail ++ rest) rest (listing ts tail)
  turns : Turns (list_tokens ts tail) (list_shown ts tail)

empty_reads : (n : ℕ) (rest : List Lexeme) → 1 ≤ n → ReadsList n (list_shown [] None ++ rest) rest (listing [] None)
empty_reads zero rest le = absurd (omega arith)
empty_reads (suc n) rest le = empty_list

behind_items : (ls ms rest : List Lexeme) → (ls ++ (ms ++ mark sign.CloseSquare ∷ [])) ++ rest ≡ ls ++ (ms ++ mark sign.CloseSquare ∷ rest)
behind_items ls ms rest =
    append_assoc ls (ms ++ mark sign.CloseSquare ∷ []) rest ∙ ap (λ zs. ls ++ zs) (append_assoc ms (mark sign.CloseSquare ∷ []) rest)

some_reads : (ts : List Term) (tail : Option Term) {ms : List Meaning} → GoodTerms ms ts → GoodTail tail → (need : ℕ)
    → ((n : ℕ) (rest : List Lexeme) → need ≤ n → ReadsItems n sum (commas_shown (map term_shown ts) ++ rest) rest ms)
    → (n : ℕ) (rest : List Lexeme) → suc need ≤ n → ReadsList n (list_shown ts tail ++ rest) rest (listing ts tail)
some_reads ts tail gs g need h zero rest le = absurd (omega arith)
some_reads ts tail gs g need h (suc n) rest le =
    let read = some_list (h n (tail_of tail ++ mark sign.CloseSquare ∷ rest) (omega arith)) (terms_are gs) (tail_reads g n rest) in
    subst (λ (zs : List Lexeme). ReadsList (suc n) (mark sign.OpenSquare ∷ zs) rest (listing ts tail))
    (sym (behind_items (commas_shown (map term_shown ts)) (tail_of tail) rest))
    (subst (λ (us : List Term). ReadsList (suc n) (mark sign.OpenSquare ∷ (commas_shown (map term_shown ts) ++ (tail_of tail ++ mark sign.CloseSquare ∷ rest)))
    rest (listing us tail)) (append-nil ts) read)

inside : {ms : List Meaning} {ts : List Term} {tail : Option Term} → GoodTerms ms ts → GoodTail tail → Starts ts tail → Inside ts tail
unfolding Starts
inside terms_none closed s = record {
  need = 1;
  reads = empty_reads;
  turns = turn_next (turn_mark sign.OpenSquare) (turn_one (turn_mark sign.CloseSquare));
}
inside terms_none (ends_in name w) s = absurd s
inside {tail = tail} (terms_next {t = t} {ts = ts} f gs) g s =
    let i = items (back_lifted sum f.back) (each_term gs) in
    record {
      need = suc i.need;
      reads = some_reads (t ∷ ts) tail (terms_next f gs) g i.need i.reads;
      turns = turn_next (turn_mark sign.OpenSquare) (turns_then i.turns (turns_then (tail_turns g) (turn_one (turn_mark sign.CloseSquare))));
    }

pub good_listing : (l : ListingOf Term) → GoodListing l → Starts l.items l.tail → Good (meaning.Term (term.List l))
good_listing l g s =
    let i = inside g.parts g.tail s in
    record {
      back = same_back (fold_list (List Bare) tokens.term_step l) (fold_list (List Lexeme) term_step l)
          (record { need = i.need; reads = λ n rest le. a_list (i.reads n rest le); turns = i.turns });
      spelled = fold_list Bool spelled_step l
          ∙ and_from (all (map is_spelled l.items)) (or_true (option_map is_spelled l.tail)) (terms_spelled g.parts) (tail_spelled g.tail);
      a_word = tt;
    }
