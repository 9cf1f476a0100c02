-- The names of the unnamed variables in printed terms, and that there are no more than nodes.
use Rattle.std.proofs.Common.{◌≡◌, ◌≤◌, ℕ, ℤ, pos, negsuc, ◌+◌, Bool, true, false, cond, List, [], ◌∷◌, ◌++◌, map, length, Option, Some, None, refl, ap, ◌∙◌, arith}
use Rattle.std.specs.Prelude.{sum}
use Rattle.std.specs.List.{flat_map, AllByRecursion}
use Rattle.std.specs.Option.{option_map}
use Rattle.std.proofs.lemmas.Grind.{flat_map-append}
use Rattle.std.proofs.lemmas.List.{append-nil, length-append}
use Rattle.std.proofs.lemmas.List.Sums.{sum_by-cons}
use Rattle.asl_lexer.specs.declared.token.Sign as signs
use Rattle.asl_lexer.specs.declared.token.Sign.TheVariants as sign
use Rattle.asl_term.specs.declared.syntax.Op.{Op}
use Rattle.asl_term.specs.declared.syntax.Op.TheVariants.{Add, Sub, Mul, Div, Mod}
use Rattle.asl_term.specs.declared.syntax.LiteralOf.{LiteralOf}
use Rattle.asl_term.specs.declared.syntax.ListingOf.{ListingOf}
use Rattle.asl_term.specs.declared.syntax.ArithOf.{ArithOf}
use Rattle.asl_term.specs.declared.syntax.Term.{Term}
use Rattle.asl_term.specs.declared.syntax.Term.TheVariants as term
use Rattle.asl_term.specs.Texts.{is_unnamed}
use Rattle.asl_term.specs.Trees.{size, size_step, or_zero}
use Rattle.asl_term.proofs.Terms.{OfTail, by_cases, fold_num, fold_str, fold_var, fold_lit, fold_list, fold_op}
use Rattle.asl_parser_tree.specs.declared.lexeme.Lexeme.{Lexeme}
use Rattle.asl_parser_tree.specs.declared.lexeme.Lexeme.TheVariants as lexeme
use Rattle.asl_print_reread.specs.Shown.{mark, word, op_shown, sign_shown, commas_shown, between_shown, tail_shown, num_shown, term_step, term_shown, literal_shown}
use Rattle.asl_print_reread.proofs.Back.{bracketed}
use Rattle.asl_print_reread.proofs.Names.{names_in, names, no_name}

pub names_then : (ls ms : List Lexeme) → names (ls ++ ms) ≡ names ls ++ names ms
names_then = flat_map-append names_in

-- of one behind the other
abbrev pub terms_names : List Term → List (List ℕ)
terms_names = flat_map (λ t. names (term_shown t))

abbrev pub tail_names : Option Term → List (List ℕ)
tail_names None = []
tail_names (Some t) = names (term_shown t)

-- ---- signs and words have none

commas_behind : (lss : List (List Lexeme)) → names (flat_map (λ u. mark sign.Comma ∷ u) lss) ≡ flat_map names lss
commas_behind [] = refl
commas_behind (ls ∷ lss) = names_then ls (flat_map (λ u. mark sign.Comma ∷ u) lss) ∙ ap (λ ns. names ls ++ ns) (commas_behind lss)

commas_names : (lss : List (List Lexeme)) → names (commas_shown lss) ≡ flat_map names lss
commas_names [] = refl
commas_names (ls ∷ lss) = names_then ls (flat_map (λ u. mark sign.Comma ∷ u) lss) ∙ ap (λ ns. names ls ++ ns) (commas_behind lss)

pub between_names : (first last : signs.Sign) (lss : List (List Lexeme)) → names (between_shown first last lss) ≡ flat_map names lss
between_names first last [] = refl
between_names first last (ls ∷ lss) =
    names_then (commas_shown (ls ∷ lss)) (mark last ∷ []) ∙ append-nil (names (commas_shown (ls ∷ lss))) ∙ commas_names (ls ∷ lss)

terms_shown : (ts : List Term) → flat_map names (map term_shown ts) ≡ terms_names ts
terms_shown [] = refl
terms_shown (t ∷ ts) = ap (λ ns. names (term_shown t) ++ ns) (terms_shown ts)

pub bracketed_names : (ls ms : List Lexeme) (x : Lexeme) → names_in x ≡ [] → names (bracketed ls x ms) ≡ names ls ++ names ms
bracketed_names ls ms x e =
    names_then ls (x ∷ (ms ++ mark sign.Close ∷ []))
    ∙ ap (λ ns. names ls ++ (ns ++ names (ms ++ mark sign.Close ∷ []))) e
    ∙ ap (λ ns. names ls ++ ns) (names_then ms (mark sign.Close ∷ []) ∙ append-nil (names ms))

-- ---- terms

num_names : (z : ℤ) → names (num_shown z) ≡ []
num_names (pos n) = refl
num_names (negsuc n) = refl

pub number_names : (z : ℤ) → names (term_shown (term.Num z)) ≡ []
number_names z = ap names (fold_num (List Lexeme) term_step z) ∙ num_names z

behind_sign : (neg : Bool) (ls : List Lexeme) → names (sign_shown neg ++ ls) ≡ names ls
behind_sign true ls = refl
behind_sign false ls = refl

pub literal_names : (l : LiteralOf Term) → names (literal_shown l) ≡ terms_names l.args ++ terms_names l.annots
literal_names l =
    let args = between_shown sign.Open sign.Close (map term_shown l.args) in
    let annots = between_shown sign.OpenSquare sign.CloseSquare (map term_shown l.annots) in
    ap names (fold_lit (List Lexeme) term_step l)
    ∙ behind_sign l.neg (word l.functor ∷ (args ++ annots))
    ∙ ap (λ ns. ns ++ names (args ++ annots)) (no_name 0 l.functor).0
    ∙ names_then args annots
    ∙ (λ i. (between_names sign.Open sign.Close (map term_shown l.args) ∙ terms_shown l.args) i
    ++ (between_names sign.OpenSquare sign.CloseSquare (map term_shown l.annots) ∙ terms_shown l.annots) i)

tail_is : (t : Option Term) → names (tail_shown (option_map term_shown t) ++ mark sign.CloseSquare ∷ []) ≡ tail_names t
tail_is None = refl
tail_is (Some t) = names_then (term_shown t) (mark sign.CloseSquare ∷ []) ∙ append-nil (names (term_shown t))

pub list_names : (l : ListingOf Term) → names (term_shown (term.List l)) ≡ terms_names l.items ++ tail_names l.tail
list_names l =
    let items = commas_shown (map term_shown l.items) in
    ap names (fold_list (List Lexeme) term_step l)
    ∙ names_then items (tail_shown (option_map term_shown l.tail) ++ mark sign.CloseSquare ∷ [])
    ∙ (λ i. (commas_names (map term_shown l.items) ∙ terms_shown l.items) i ++ tail_is l.tail i)

op_name : (o : Op) → names_in (op_shown o) ≡ []
op_name Add = refl
op_name Sub = refl
op_name Mul = refl
op_name Div = refl
op_name Mod = refl

pub op_names : (a : ArithOf Term) → names (term_shown (term.Op a)) ≡ names (term_shown a.left) ++ names (term_shown a.right)
op_names a =
    ap names (fold_op (List Lexeme) term_step a)
    ∙ bracketed_names (term_shown a.left) (term_shown a.right) (op_shown a.op) (op_name a.op)

-- ---- no more than nodes

abbrev Few : Term → Type 0
Few t = length (names (term_shown t)) ≤ size t

few_terms : (ts : List Term) → AllByRecursion Few ts → length (terms_names ts) ≤ sum (map size ts)
few_terms [] a = omega arith
few_terms (t ∷ ts) a =
    let whole : sum (map size (t ∷ ts)) ≡ size t + sum (map size ts) = sum_by-cons (λ x. x) (size t) (map size ts) in
    let parts : length (terms_names (t ∷ ts)) ≡ length (names (term_shown t)) + length (terms_names ts) =
    length-append (names (term_shown t)) (terms_names ts) in
    omega (arith, a.0, few_terms ts a.1, whole, parts)

few_tail : (t : Option Term) → OfTail Few t → length (tail_names t) ≤ or_zero (option_map size t)
few_tail None a = omega arith
few_tail (Some t) a = a

few_var : (name : List ℕ) → length (names (lexeme.Var name ∷ [])) ≤ 1
few_var name = go (is_unnamed name)
  where
    go : (u : Bool) → length (cond u (name ∷ []) [] ++ []) ≤ 1
    go true = omega arith
    go false = omega arith

pub few : (t : Term) → Few t
few = by_cases Few (record {
  at_num = λ n. omega (arith, ap length (number_names n));
  at_str = λ b. omega (arith, ap (λ ls. length (names ls)) (fold_str (List Lexeme) term_step b), fold_str ℕ size_step b);
  at_var = λ v. omega (arith, ap (λ ls. length (names ls)) (fold_var (List Lexeme) term_step v), fold_var ℕ size_step v, few_var v.name);
  at_lit = λ l args annots. omega (
    arith,
    ap length (literal_names l),
    length-append (terms_names l.args) (terms_names l.annots),
    few_terms l.args args,
    few_terms l.annots annots,
    fold_lit ℕ size_step l,
  );
  at_list = λ l items tail. omega (
    arith,
    ap length (list_names l),
    length-append (terms_names l.items) (tail_names l.tail),
    few_terms l.items items,
    few_tail l.tail tail,
    fold_list ℕ size_step l,
  );
  at_op = λ a left right. omega (
    arith,
    ap length (op_names a),
    length-append (names (term_shown a.left)) (names (term_shown a.right)),
    left,
    right,
    fold_op ℕ size_step a,
  );
})
