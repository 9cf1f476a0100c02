-- A clause whose brackets are within the limit is a clause within it.
use Rattle.std.proofs.Common.{◌≡◌, ℕ, ◌+◌, Bool, true, false, List, ◌∷◌, Option, Some, codes, refl}
use Rattle.asl_lexer.specs.declared.token.Sign.TheVariants as sign
use Rattle.asl_term.specs.declared.syntax.LiteralOf.{LiteralOf}
use Rattle.asl_term.specs.declared.syntax.Term.{Term}
use Rattle.asl_term.specs.declared.syntax.Expr.{Expr}
use Rattle.asl_parser_tree.specs.declared.lexeme.Lexeme.{Lexeme}
use Rattle.asl_parser_tree.specs.declared.lexeme.Lexeme.TheVariants.{Atom, Var, Truth, Not, Sign}
use Rattle.asl_parser_tree.specs.declared.lexeme.Lexeme.TheVariants as lexeme
use Rattle.asl_parser_tree.specs.Limits.{too_deep}
use Rattle.asl_parser_expr.proofs.Within.{Fits, within, within_literal}
use Rattle.asl_parser.specs.Sentences.{adds_of, label_of, ReadsFormula, a_formula, ReadsHead, a_head}
use Rattle.env_file.specs.declared.statement.Effect.{Effect}
use Rattle.env_file.specs.declared.statement.Statement.{Statement}
use Rattle.env_file.specs.Statements.{is_word, doer_of, ReadsGuard, no_guard, a_guard, ReadsEffect, a_change, a_drop, no_change, ReadsEffects, only_effect, more_effects, States, a_fact, a_hide, a_use, an_act, Says}

formula_within : {m : ℕ} {xs ys : List Lexeme} {f : Expr} → ReadsFormula m xs ys f → (limit count room : ℕ) → limit ≡ count + room → too_deep limit count xs ≡ false → Fits limit count room (λ k. ReadsFormula k xs ys f) ys
formula_within (a_formula r f) limit count room e h = let w = within r limit count room e h in (a_formula w.0 f, w.1)

head_within : {m : ℕ} {xs ys : List Lexeme} {l : LiteralOf Term} → ReadsHead m xs ys l → (limit count room : ℕ) → limit ≡ count + room → too_deep limit count xs ≡ false → Fits limit count room (λ k. ReadsHead k xs ys l) ys
head_within (a_head r f) limit count room e h = let w = within_literal r limit count room e h in (a_head w.0 f, w.1)

word_within : (text : List ℕ) (x : Lexeme) (xs : List Lexeme) → is_word text x ≡ true → (limit count : ℕ) → too_deep limit count (x ∷ xs) ≡ false → too_deep limit count xs ≡ false
unfolding too_deep
word_within text (Atom name) xs f limit count h = h
word_within text _ xs f limit count h = absurd cc

doer_within : (x : Lexeme) (xs : List Lexeme) (by : Term) → doer_of x ≡ Some by → (limit count : ℕ) → too_deep limit count (x ∷ xs) ≡ false → too_deep limit count xs ≡ false
unfolding too_deep
doer_within (Var name) xs by f limit count h = h
doer_within (Atom name) xs by f limit count h = h
doer_within Not xs by f limit count h = h
doer_within lexeme.Div xs by f limit count h = h
doer_within lexeme.Mod xs by f limit count h = h
doer_within (Truth b) xs by f limit count h = h
doer_within _ xs by f limit count h = absurd cc

label_within : (x : Lexeme) (xs : List Lexeme) (name : List ℕ) → label_of x ≡ Some name → (limit count : ℕ) → too_deep limit count (x ∷ xs) ≡ false → too_deep limit count xs ≡ false
unfolding too_deep
label_within (Atom text) xs name f limit count h = h
label_within Not xs name f limit count h = h
label_within lexeme.Div xs name f limit count h = h
label_within lexeme.Mod xs name f limit count h = h
label_within (Truth b) xs name f limit count h = h
label_within _ xs name f limit count h = absurd cc

adds_within : (x : Lexeme) (xs : List Lexeme) (b : Bool) → adds_of x ≡ Some b → (limit count : ℕ) → too_deep limit count (x ∷ xs) ≡ false → too_deep limit count xs ≡ false
unfolding too_deep
adds_within (Sign sign.Plus) xs b f limit count h = h
adds_within (Sign sign.Minus) xs b f limit count h = h
adds_within _ xs b f limit count h = absurd cc

guard_within : {m : ℕ} {xs ys : List Lexeme} {g : Option Expr} → ReadsGuard m xs ys g → (limit count room : ℕ) → limit ≡ count + room → too_deep limit count xs ≡ false → Fits limit count room (λ k. ReadsGuard k xs ys g) ys
unfolding too_deep
guard_within no_guard limit count room e h = (no_guard, h)
guard_within (a_guard r p) limit count room e h = let w = formula_within r limit count room e h in (a_guard w.0 p, w.1)

effect_within : {m : ℕ} {xs ys : List Lexeme} {o : Option Effect} → ReadsEffect m xs ys o → (limit count room : ℕ) → limit ≡ count + room → too_deep limit count xs ≡ false → Fits limit count room (λ k. ReadsEffect k xs ys o) ys
unfolding too_deep
effect_within (a_change {x = x} {add = add} {xs = xs} f r) limit count room e h = let w = within_literal r limit count room e (adds_within x xs add f limit count h) in (a_change f w.0, w.1)
effect_within (a_drop {x = x} {y = y} {xs = xs} {name = name} w f) limit count room e h = (a_drop w f, label_within y xs name f limit count (word_within (codes "drop") x (y ∷ xs) w limit count h))
effect_within no_change limit count room e h = (no_change, h)

effects_within : {m : ℕ} {xs ys : List Lexeme} {es : List Effect} → ReadsEffects m xs ys es → (limit count room : ℕ) → limit ≡ count + room → too_deep limit count xs ≡ false → Fits limit count room (λ k. ReadsEffects k xs ys es) ys
unfolding too_deep
effects_within (only_effect r g) limit count room e h = let w = effect_within r limit count room e h in (only_effect w.0 g, w.1)
effects_within (more_effects r s g) limit count room e h = let w = effect_within r limit count room e h in let v = effects_within s limit count room e w.1 in (more_effects w.0 v.0 g, v.1)

states_within : {m : ℕ} {xs : List Lexeme} {s : Statement} → too_deep 250 0 xs ≡ false → States m xs s → States 250 xs s
unfolding too_deep
states_within h (a_fact r e) = a_fact (head_within r 250 0 250 refl h).0 e
states_within h (a_hide e f) = a_hide e f
states_within h (a_use e f) = a_use e f
states_within h (an_act {w = w} {x = x} {y = y} {xs = xs} {ys = ys} {by = by} a r p b d g t) =
    let head = head_within r 250 0 250 refl (word_within (codes "act") w xs a 250 0 h) in
    let guard = guard_within g 250 0 250 refl (doer_within y ys by d 250 0 (word_within (codes "by") x (y ∷ ys) b 250 0 head.1)) in
    an_act a head.0 p b d guard.0 (effects_within t 250 0 250 refl guard.1).0

pub says_within : (m : ℕ) (xs : List Lexeme) (s : Statement) → too_deep 250 0 xs ≡ false → Says m xs s → Says 250 xs s
says_within m xs s h r = record { bare = r.bare; stated = states_within h r.stated }
