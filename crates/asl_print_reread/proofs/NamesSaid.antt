-- The parts of a clause that was read keep the names of their unnamed variables.
use Rattle.std.proofs.Common.{◌≡◌, ℕ, Bool, true, false, cond, List, [], ◌∷◌, ◌++◌, Option, Some, None, refl, ap, sym, ◌∙◌, append_assoc}
use Rattle.std.specs.List.{flat_map}
use Rattle.std.proofs.lemmas.List.{append-nil}
use Rattle.asl_lexer.specs.declared.token.Sign.TheVariants as sign
use Rattle.asl_term.specs.declared.syntax.LiteralOf.{LiteralOf}
use Rattle.asl_term.specs.declared.syntax.Term.{Term}
use Rattle.asl_term.specs.declared.syntax.Expr.{Expr}
use Rattle.asl_term.specs.declared.syntax.Formula.{Formula}
use Rattle.asl_term.specs.declared.syntax.Formula.TheVariants as formula
use Rattle.asl_term.specs.declared.syntax.Kind.{Kind}
use Rattle.asl_term.specs.declared.syntax.Kind.TheVariants as kind
use Rattle.asl_term.specs.declared.syntax.Trigger.{Trigger}
use Rattle.asl_term.proofs.Exprs.{by_cases, fold_true, fold_rel}
use Rattle.asl_parser_tree.specs.declared.lexeme.Lexeme.{Lexeme}
use Rattle.asl_parser_tree.specs.declared.lexeme.Lexeme.TheVariants as lexeme
use Rattle.asl_parser_tree.specs.Plain.{is_action}
use Rattle.asl_parser_tree.specs.declared.meaning.Meaning.{Meaning}
use Rattle.asl_parser_tree.specs.declared.meaning.Meaning.TheVariants as meaning
use Rattle.asl_parser_tree.proofs.Options.{some_is}
use Rattle.asl_parser.specs.declared.sentence.ItemSign.{ItemSign}
use Rattle.asl_parser.specs.declared.sentence.ItemSign.TheVariants as deed
use Rattle.asl_parser.specs.Sentences.{label_of, adds_of, deed_of, done, item_of, before}
use Rattle.asl_parser.specs.Sentences.{ReadsFormula, a_formula, ReadsHead, a_head, ReadsLabel, no_label, a_label, ReadsKind, a_belief, an_achievement, a_test, ReadsTrigger, a_trigger, ReadsContext, no_context, a_context}
use Rattle.asl_parser.specs.Sentences.{ReadsItem, with_sign, without_sign, ReadsItemList, only_item, more_items, ReadsBody, no_body, a_body}
use Rattle.asl_print_reread.specs.Shown.{mark, literal_shown, expr_shown, expr_step, formula_shown, body_shown, label_shown, change_shown, kind_shown, trigger_shown, context_shown}
use Rattle.asl_print_reread.proofs.Meant.{good_expr}
use Rattle.asl_print_reread.proofs.Rereads.{AllFine, fine_behind, good}
use Rattle.asl_print_reread.proofs.Bodies.{good_item}
use Rattle.asl_print_reread.proofs.Parts.{kind_fine}
use Rattle.asl_print_reread.proofs.Names.{names_in, names, no_name}
use Rattle.asl_print_reread.proofs.NamesOf.{names_then}
use Rattle.asl_print_reread.proofs.NamesRead.{meant_names}
use Rattle.asl_print_reread.proofs.Named.{named, literal}

abbrev Lists : Type 0
Lists = List (List ℕ)

-- what was read is what is printed, and the rest
pub then_same : (xs l m z : Lists) → xs ≡ l ++ z → m ≡ l → xs ≡ m ++ z
then_same xs l m z p q = p ∙ ap (λ w. w ++ z) (sym q)

-- the end of a clause has no name
pub last : (xs l : Lists) → xs ≡ l ++ [] → xs ≡ l
last xs l p = p ∙ append-nil l

pub one_after : (xs l y r : Lists) → xs ≡ l ++ y → y ≡ r → xs ≡ l ++ r
one_after xs l y r p q = p ∙ ap (λ w. l ++ w) q

-- ---- parts of clauses

pub condition_named : {n : ℕ} {xs ys : List Lexeme} {e : Expr} → ReadsFormula n xs ys e → AllFine xs → names xs ≡ names (expr_shown e) ++ names ys
condition_named {xs = xs} {ys = ys} (a_formula {m = m} {e = e} r h) f =
    then_same (names xs) (meant_names m) (names (expr_shown e)) (names ys) (named r f) (ap names (good_expr m e (good r f).0 h).shown)

pub head_named : {n : ℕ} {xs ys : List Lexeme} {l : LiteralOf Term} → ReadsHead n xs ys l → AllFine xs → names xs ≡ names (literal_shown l) ++ names ys
head_named (a_head r e) f = literal r f

label_name : (x : Lexeme) (name : List ℕ) → label_of x ≡ Some name → names_in x ≡ []
label_name (lexeme.Var v) name e = absurd cc
label_name _ name e = refl

pub label_named : {xs ys : List Lexeme} {o : Option (List ℕ)} → ReadsLabel xs ys o → names xs ≡ names (label_shown o) ++ names ys
label_named no_label = refl
label_named (a_label {x = x} {xs = xs} {name = name} e) =
    ap (λ (ns : Lists). ns ++ names xs) (label_name x name e)
    ∙ ap (λ (ns : Lists). (ns ++ []) ++ names xs) (sym (no_name 0 name).0)

adds_name : (x : Lexeme) (add : Bool) → adds_of x ≡ Some add → names_in x ≡ []
adds_name (lexeme.Var v) add e = absurd cc
adds_name _ add e = refl

change_name : (add : Bool) → names_in (change_shown add) ≡ []
change_name true = refl
change_name false = refl

kind_named : {xs ys : List Lexeme} {k : Kind} → ReadsKind xs ys k → names xs ≡ names ys
kind_named a_belief = refl
kind_named an_achievement = refl
kind_named a_test = refl

kind_names : (k : Kind) (ls : List Lexeme) → names (kind_shown k ++ ls) ≡ names ls
kind_names kind.Belief ls = refl
kind_names kind.Achieve ls = refl
kind_names kind.Test ls = refl

trigger_names : (t : Trigger) → names (trigger_shown t) ≡ names (literal_shown t.lit)
trigger_names t = ap (λ ns. ns ++ names (kind_shown t.kind ++ literal_shown t.lit)) (change_name t.add) ∙ kind_names t.kind (literal_shown t.lit)

pub trigger_named : {n : ℕ} {xs ys : List Lexeme} {t : Trigger} → ReadsTrigger n xs ys t → AllFine xs → names xs ≡ names (trigger_shown t) ++ names ys
trigger_named (a_trigger {x = x} {add = add} {k = k} {xs = xs} {ys = ys} {zs = zs} {l = l} e r h) f =
    then_same (names (x ∷ xs)) (names (literal_shown l)) (names (trigger_shown (record { add = add; kind = k; lit = l }))) (names zs)
    (ap (λ ns. ns ++ names xs) (adds_name x add e) ∙ kind_named r ∙ head_named h (kind_fine r (fine_behind x xs f)))
    (trigger_names (record { add = add; kind = k; lit = l }))

abbrev ContextNames : Expr → Type 0
ContextNames e = names (context_shown e) ≡ names (expr_shown e)

context_names : (e : Expr) → ContextNames e
context_names = by_cases ContextNames (record {
  at_true = sym (ap names (fold_true (List Lexeme) expr_step));
  at_false = refl;
  at_holds = λ l. refl;
  at_rel = λ r. refl;
  at_inner = λ c args. refl;
  at_not = λ a f. refl;
  at_and = λ a b f g. refl;
  at_or = λ a b f g. refl;
})

pub context_named : {n : ℕ} {xs ys : List Lexeme} {e : Expr} → ReadsContext n xs ys e → AllFine xs → names xs ≡ names (context_shown e) ++ names ys
context_named no_context f = refl
context_named (a_context {xs = xs} {ys = ys} {e = e} r) f =
    then_same (names xs) (names (expr_shown e)) (names (context_shown e)) (names ys) (condition_named r f) (context_names e)

-- ---- bodies

item_names : Option Formula → Lists
item_names None = []
item_names (Some f) = names (formula_shown f)

abbrev body_names : List Formula → Lists
body_names = flat_map (λ f. names (formula_shown f))

before_names : (o : Option Formula) (fs : List Formula) → body_names (before o fs) ≡ item_names o ++ body_names fs
unfolding item_names
before_names None fs = refl
before_names (Some f) fs = refl

deed_name : (x : Lexeme) (d : ItemSign) → deed_of x ≡ Some d → names_in x ≡ []
deed_name (lexeme.Var v) d e = absurd cc
deed_name _ d e = refl

done_names : (d : ItemSign) (l : LiteralOf Term) → names (formula_shown (done d l)) ≡ names (literal_shown l)
done_names deed.Achieve l = refl
done_names deed.Spawn l = refl
done_names deed.Test l = refl
done_names deed.Add l = refl
done_names deed.Del l = refl
done_names deed.Replace l = refl

unsigned_names : (m : Meaning) (o : Option Formula) → item_of m ≡ Some o → item_names o ≡ meant_names m
unfolding item_names
unsigned_names (meaning.Truth true l) o e = ap item_names (sym (some_is None o e))
unsigned_names (meaning.Truth false l) o e = absurd cc
unsigned_names (meaning.Literal l) o e = go (is_action l) e
  where
    go : (b : Bool) → cond b (Some (Some (formula.Act l))) None ≡ Some o → item_names o ≡ names (literal_shown l)
    go true f = ap item_names (sym (some_is (Some (formula.Act l)) o f))
    go false f = absurd cc
unsigned_names (meaning.Term t) o e = absurd cc
unsigned_names (meaning.Relation r) o e =
    ap item_names (sym (some_is (Some (formula.Rel r)) o e)) ∙ sym (ap names (fold_rel (List Lexeme) expr_step r))
unsigned_names (meaning.Call c) o e = ap item_names (sym (some_is (Some (formula.Inner c)) o e))
unsigned_names (meaning.Formula f) o e = absurd cc

item_named : {n : ℕ} {xs ys : List Lexeme} {o : Option Formula} → ReadsItem n xs ys o → AllFine xs → names xs ≡ item_names o ++ names ys
unfolding item_names
item_named (with_sign {x = x} {d = d} {xs = xs} {ys = ys} {l = l} {f = g} h r e) f =
    then_same (names (x ∷ xs)) (names (literal_shown l)) (names (formula_shown g)) (names ys)
    (ap (λ ns. ns ++ names xs) (deed_name x d h) ∙ literal r (fine_behind x xs f))
    (ap (λ (k : Formula). names (formula_shown k)) (sym e) ∙ done_names d l)
item_named (without_sign {x = x} {xs = xs} {ys = ys} {m = m} {o = o} h r e) f =
    then_same (names (x ∷ xs)) (meant_names m) (item_names o) (names ys) (named r f) (unsigned_names m o e)

items_named : {n : ℕ} {xs ys : List Lexeme} {fs : List Formula} → ReadsItemList n xs ys fs → AllFine xs → names xs ≡ body_names fs ++ names ys
items_named (only_item {xs = xs} {ys = ys} {o = o} {fs = fs} r e) f =
    then_same (names xs) (item_names o) (body_names fs) (names ys) (item_named r f)
    (ap body_names (sym e) ∙ before_names o [] ∙ append-nil (item_names o))
items_named (more_items {xs = xs} {ys = ys} {zs = zs} {o = o} {fs = fs} {gs = gs} r s e) f =
    let g = good_item r f in
    then_same (names xs) (item_names o ++ body_names fs) (body_names gs) (names zs)
    (one_after (names xs) (item_names o) (names ys) (body_names fs ++ names zs) (item_named r f) (items_named s (fine_behind (mark sign.Semicolon) ys g.1))
    ∙ sym (append_assoc (item_names o) (body_names fs) (names zs)))
    (ap body_names (sym e) ∙ before_names o fs)

behind_semicolons : (fs : List Formula) → names (flat_map (λ g. mark sign.Semicolon ∷ formula_shown g) fs) ≡ body_names fs
behind_semicolons [] = refl
behind_semicolons (f ∷ fs) =
    names_then (formula_shown f) (flat_map (λ g. mark sign.Semicolon ∷ formula_shown g) fs) ∙ ap (λ ns. names (formula_shown f) ++ ns) (behind_semicolons fs)

body_is : (fs : List Formula) → names (body_shown fs) ≡ body_names fs
body_is [] = refl
body_is (f ∷ fs) =
    names_then (formula_shown f) (flat_map (λ g. mark sign.Semicolon ∷ formula_shown g) fs) ∙ ap (λ ns. names (formula_shown f) ++ ns) (behind_semicolons fs)

pub body_named : {n : ℕ} {xs ys : List Lexeme} {fs : List Formula} → ReadsBody n xs ys fs → AllFine xs → names xs ≡ names (body_shown fs) ++ names ys
body_named no_body f = refl
body_named (a_body {xs = xs} {ys = ys} {fs = fs} r) f =
    then_same (names xs) (body_names fs) (names (body_shown fs)) (names ys) (items_named r f) (body_is fs)
