-- A clause whose brackets are within the limit is a clause within it.
use Rattle.std.proofs.Common.{◌≡◌, ℕ, suc, ◌+◌, Bool, true, false, List, [], ◌∷◌, Option, Some, None, refl, sym, ap, ◌∙◌}
use Rattle.asl_lexer.specs.declared.token.Sign.TheVariants as sign
use Rattle.asl_term.specs.declared.syntax.LiteralOf.{LiteralOf}
use Rattle.asl_term.specs.declared.syntax.Term.{Term}
use Rattle.asl_term.specs.declared.syntax.Expr.{Expr}
use Rattle.asl_term.specs.declared.syntax.Expr.TheVariants as expr
use Rattle.asl_term.specs.declared.syntax.Formula.{Formula}
use Rattle.asl_term.specs.declared.syntax.Kind.{Kind}
use Rattle.asl_term.specs.declared.syntax.Kind.TheVariants as kind
use Rattle.asl_term.specs.declared.syntax.Trigger.{Trigger}
use Rattle.asl_parser_tree.specs.declared.lexeme.Lexeme.{Lexeme}
use Rattle.asl_parser_tree.specs.declared.lexeme.Lexeme.TheVariants.{Sign, End}
use Rattle.asl_parser_tree.specs.declared.meaning.Meaning.{Meaning}
use Rattle.asl_parser.specs.declared.sentence.ItemSign.{ItemSign}
use Rattle.asl_parser.specs.declared.sentence.Sentence.{Sentence}
use Rattle.asl_parser.specs.declared.sentence.Sentence.TheVariants as sentence
use Rattle.asl_parser_expr.specs.Grammar.{Reads, disjunction, ReadsLiteral}
use Rattle.asl_parser.specs.Sentences.{label_of, adds_of, deed_of, ReadsFormula, a_formula, ReadsHead, a_head, ReadsLabel, no_label, a_label, ReadsKind, a_belief, an_achievement, a_test, ReadsTrigger, a_trigger, ReadsContext, no_context, a_context, ReadsItem, with_sign, without_sign, ReadsItemList, only_item, more_items, ReadsBody, no_body, a_body, Says, says_fact, says_rule, says_goal, says_plan}
use Rattle.asl_parser_tree.specs.declared.lexeme.Lexeme.TheVariants.{Atom, Truth, Not}
use Rattle.asl_parser_tree.specs.declared.lexeme.Lexeme.TheVariants as lexeme
use Rattle.asl_parser_tree.specs.Limits.{too_deep}
use Rattle.asl_parser_expr.proofs.Within.{Fits, within, within_literal}

formula_within : {m : ℕ} {xs ys : List Lexeme} {f : Expr} → ReadsFormula m xs ys f → (limit count room : ℕ) → limit ≡ count + room → too_deep limit count xs ≡ false → Fits limit count room (λ k. ReadsFormula k xs ys f) ys
formula_within (a_formula r f) limit count room e h = let w = within r limit count room e h in (a_formula w.0 f, w.1)

head_within : {m : ℕ} {xs ys : List Lexeme} {l : LiteralOf Term} → ReadsHead m xs ys l → (limit count room : ℕ) → limit ≡ count + room → too_deep limit count xs ≡ false → Fits limit count room (λ k. ReadsHead k xs ys l) ys
head_within (a_head r f) limit count room e h = let w = within_literal r limit count room e h in (a_head w.0 f, w.1)

label_within : {xs ys : List Lexeme} {o : Option (List ℕ)} → ReadsLabel xs ys o → (limit count : ℕ) → too_deep limit count xs ≡ false → too_deep limit count ys ≡ false
unfolding too_deep
label_within no_label limit count h = h
label_within (a_label {x = x} {xs = xs} f) limit count h = go x f h
  where
    go : (x : Lexeme) {name : List ℕ} → label_of x ≡ Some name → too_deep limit count (x ∷ xs) ≡ false → too_deep limit count xs ≡ false
    go (Atom name) f h = h
    go Not f h = h
    go lexeme.Div f h = h
    go lexeme.Mod f h = h
    go (Truth b) f h = h
    go _ f h = absurd cc

kind_within : {xs ys : List Lexeme} {k : Kind} → ReadsKind xs ys k → (limit count : ℕ) → too_deep limit count xs ≡ false → too_deep limit count ys ≡ false
unfolding too_deep
kind_within a_belief limit count h = h
kind_within an_achievement limit count h = h
kind_within a_test limit count h = h

adds_within : (x : Lexeme) (xs : List Lexeme) (b : Bool) → adds_of x ≡ Some b → (limit count : ℕ) → too_deep limit count (x ∷ xs) ≡ false → too_deep limit count xs ≡ false
unfolding too_deep
adds_within (Sign sign.Plus) xs b f limit count h = h
adds_within (Sign sign.Minus) xs b f limit count h = h
adds_within _ xs b f limit count h = absurd cc

deed_within : (x : Lexeme) (xs : List Lexeme) (d : ItemSign) → deed_of x ≡ Some d → (limit count : ℕ) → too_deep limit count (x ∷ xs) ≡ false → too_deep limit count xs ≡ false
unfolding too_deep
deed_within (Sign sign.Bang) xs d f limit count h = h
deed_within (Sign sign.Bangs) xs d f limit count h = h
deed_within (Sign sign.Question) xs d f limit count h = h
deed_within (Sign sign.Plus) xs d f limit count h = h
deed_within (Sign sign.Minus) xs d f limit count h = h
deed_within (Sign sign.MinusPlus) xs d f limit count h = h
deed_within _ xs d f limit count h = absurd cc

trigger_within : {m : ℕ} {xs ys : List Lexeme} {t : Trigger} → ReadsTrigger m xs ys t → (limit count room : ℕ) → limit ≡ count + room → too_deep limit count xs ≡ false → Fits limit count room (λ k. ReadsTrigger k xs ys t) ys
trigger_within (a_trigger {x = x} {add = add} {xs = xs} f k r) limit count room e h = let w = head_within r limit count room e (kind_within k limit count (adds_within x xs add f limit count h)) in (a_trigger f k w.0, w.1)

context_within : {m : ℕ} {xs ys : List Lexeme} {f : Expr} → ReadsContext m xs ys f → (limit count room : ℕ) → limit ≡ count + room → too_deep limit count xs ≡ false → Fits limit count room (λ k. ReadsContext k xs ys f) ys
unfolding too_deep
context_within no_context limit count room e h = (no_context, h)
context_within (a_context r) limit count room e h = let w = formula_within r limit count room e h in (a_context w.0, w.1)

item_within : {m : ℕ} {xs ys : List Lexeme} {o : Option Formula} → ReadsItem m xs ys o → (limit count room : ℕ) → limit ≡ count + room → too_deep limit count xs ≡ false → Fits limit count room (λ k. ReadsItem k xs ys o) ys
item_within (with_sign {x = x} {d = d} {xs = xs} f r g) limit count room e h = let w = within_literal r limit count room e (deed_within x xs d f limit count h) in (with_sign f w.0 g, w.1)
item_within (without_sign f r g) limit count room e h = let w = within r limit count room e h in (without_sign f w.0 g, w.1)

list_within : {m : ℕ} {xs ys : List Lexeme} {fs : List Formula} → ReadsItemList m xs ys fs → (limit count room : ℕ) → limit ≡ count + room → too_deep limit count xs ≡ false → Fits limit count room (λ k. ReadsItemList k xs ys fs) ys
unfolding too_deep
list_within (only_item r g) limit count room e h = let w = item_within r limit count room e h in (only_item w.0 g, w.1)
list_within (more_items r s g) limit count room e h = let w = item_within r limit count room e h in let v = list_within s limit count room e w.1 in (more_items w.0 v.0 g, v.1)

body_within : {m : ℕ} {xs ys : List Lexeme} {fs : List Formula} → ReadsBody m xs ys fs → (limit count room : ℕ) → limit ≡ count + room → too_deep limit count xs ≡ false → Fits limit count room (λ k. ReadsBody k xs ys fs) ys
unfolding too_deep
body_within no_body limit count room e h = (no_body, h)
body_within (a_body r) limit count room e h = let w = list_within r limit count room e h in (a_body w.0, w.1)

pub says_within : (m : ℕ) (xs : List Lexeme) (s : Sentence) → too_deep 250 0 xs ≡ false → Says m xs s → Says 250 xs s
unfolding too_deep
says_within m xs s h (says_fact r f) = says_fact (head_within r 250 0 250 refl h).0 f
says_within m xs s h (says_rule r t) = let w = head_within r 250 0 250 refl h in says_rule w.0 (formula_within t 250 0 250 refl w.1).0
says_within m xs s h (says_goal r) = says_goal (head_within r 250 0 250 refl h).0
says_within m xs s h (says_plan l t c b) =
    let w = trigger_within t 250 0 250 refl (label_within l 250 0 h) in
    let v = context_within c 250 0 250 refl w.1 in
    says_plan l w.0 v.0 (body_within b 250 0 250 refl v.1).0
