-- What is a clause is read.
use Rattle.std.proofs.Common.{◌≡◌, ℕ, zero, suc, ◌<◌, ◌≤◌, Bool, true, false, cond, List, [], ◌∷◌, length, Option, Some, None, codes, refl, sym, ap, ◌∙◌, arith}
use Rattle.std.specs.List.{list_any}
use Rattle.std.specs.Option.{option_map, option_map_or}
use Rattle.std.specs.Str.{bytes_eq}
use Rattle.std.proofs.lemmas.Slice.Eq.{bytes_eq-Decides}
use Rattle.asl_lexer.specs.declared.token.Sign.TheVariants as sign
use Rattle.asl_term.specs.declared.syntax.LiteralOf.{LiteralOf}
use Rattle.asl_term.specs.declared.syntax.Term.{Term}
use Rattle.asl_term.specs.declared.syntax.Expr.{Expr}
use Rattle.asl_parser_tree.specs.declared.lexeme.Lexeme.{Lexeme}
use Rattle.asl_parser_tree.specs.declared.lexeme.Lexeme.TheVariants.{Atom, Sign, End}
use Rattle.asl_parser_tree.specs.declared.bounded.Bounded.TheVariants.{Within}
use Rattle.asl_parser_tree.specs.Meanings.{◌>>=◌}
use Rattle.asl_parser_expr.specs.Grammar.{ReadsLiteral, is_held, is_denied, an_atom, ReadsParts, no_parts, round_parts, square_parts, sum}
use Rattle.asl_parser_tree.specs.declared.meaning.Meaning.{Meaning}
use Rattle.asl_parser_tree.specs.declared.leaves.BracketShape.TheVariants as shape
use Rattle.asl_parser_tree.specs.Holding.{Bounds, KeptLiteral, KeptExpr, literal_plain, hold_literal, hold_formula}
use Rattle.asl_parser_tree.specs.Leaves.{Front, after_comma}
use Rattle.asl_parser_tree.proofs.Keeping.{formula_held}
use Rattle.asl_parser_expr.proofs.Shorter.{shorter_literal}
use Rattle.asl_parser_expr.proofs.Complete.{StopsPrimary, StopsOr, reads_or, reads_literal}
use Rattle.asl_parser.specs.Sentences.{label_of, adds_of, ReadsFormula, a_formula, ReadsHead, a_head}
use Rattle.asl_parser.specs.Speaking.{as_condition, first_of, formula_by, head_by}
use Rattle.asl_parser.proofs.Weighed.{plain_held}
use Rattle.env_file.specs.declared.statement.Effect.{Effect}
use Rattle.env_file.specs.declared.statement.Effect.TheVariants.{Dropped}
use Rattle.env_file.specs.declared.statement.Statement.{Statement}
use Rattle.env_file.specs.declared.statement.Statement.TheVariants as statement
use Rattle.env_file.specs.Statements.{is_word, is_variable, doer_of, ReadsGuard, no_guard, a_guard, ReadsEffect, a_change, a_drop, no_change, ReadsEffects, only_effect, more_effects, States, a_fact, a_hide, a_use, an_act, Says}
use Rattle.env_file.specs.Holding.{KeptGuard, KeptEffect, KeptEffects, KeptStatement, effect_of, before, hold_guard, hold_effect, hold_effects, hold_statement, fact_of}
use Rattle.env_file.specs.Speaking.{after_word, starts_with_name, before_name, when_last, hide_of, use_of, named_by, doer_by, nothing_by, dropped_by, word_by, as_guard, effect_list_by, guard_by, change_by, effect_by, effects_by, with_effects_by, with_guard_by, act_by, fact_by, bare_by, statement_by}
use Rattle.env_file.proofs.Guarded.{parts_told}
use Rattle.env_file.proofs.Weighed.{guard_there as guard_kept, effect_made, before_made, fact_made, hide_small, use_small, act_made}

-- ---- words

-- a word is not another one
other_word : (s t : List ℕ) (x : Lexeme) → bytes_eq s t ≡ false → is_word s x ≡ true → is_word t x ≡ false
other_word s t (Atom name) f e = ap (λ (z : List ℕ). bytes_eq z t) ((bytes_eq-Decides name s).0 e) ∙ f
other_word s t _ f e = absurd cc

word_there : (text : List ℕ) (x : Lexeme) (us : List Lexeme) → is_word text x ≡ true → after_word text (x ∷ us) ≡ Some us
word_there text x us e = ap (λ (b : Bool). cond b (Some us) None) e

name_there : (text : List ℕ) (x : Lexeme) (us : List Lexeme) → is_word text x ≡ true → starts_with_name us ≡ true → before_name text (x ∷ us) ≡ Some us
name_there text x us e f =
    ap (λ (o : Option (List Lexeme)). o >>= λ us. cond (starts_with_name us) (Some us) None) (word_there text x us e)
    ∙ ap (λ (b : Bool). cond b (Some us) None) f

no_name : (text : List ℕ) (x : Lexeme) (us : List Lexeme) → is_word text x ≡ false → before_name text (x ∷ us) ≡ None
no_name text x us e = ap (λ (b : Bool). cond {A = Option (List Lexeme)} b (Some us) None >>= λ us. cond (starts_with_name us) (Some us) None) e

-- a word that no word follows
lone : (text : List ℕ) (x : Lexeme) (us : List Lexeme) → starts_with_name us ≡ false → before_name text (x ∷ us) ≡ None
lone text x us f = go (is_word text x)
  where
    go : (b : Bool) → (cond {A = Option (List Lexeme)} b (Some us) None >>= λ us. cond (starts_with_name us) (Some us) None) ≡ None
    go true = ap (λ (b : Bool). cond b (Some us) None) f
    go false = refl

annots_alone : {n : ℕ} {ys : List Lexeme} {ms : List Meaning} → ReadsParts n sum shape.Square ys (End ∷ []) ms → starts_with_name ys ≡ false
annots_alone no_parts = refl
annots_alone (square_parts r) = refl

parts_alone : {n : ℕ} {xs ys : List Lexeme} {ms : List Meaning} → ReadsParts n sum shape.Round xs ys ms → starts_with_name ys ≡ false → starts_with_name xs ≡ false
parts_alone no_parts h = h
parts_alone (round_parts r) h = refl

fact_alone : {n : ℕ} {xs : List Lexeme} {l : LiteralOf Term} → ReadsLiteral n xs (End ∷ []) l → (text : List ℕ) → before_name text xs ≡ None
fact_alone (is_held (an_atom {name = name} {xs = xs} p e q f)) text = lone text (Atom name) xs (parts_alone p (annots_alone q))
fact_alone (is_denied r) text = refl

head_alone : {n : ℕ} {xs : List Lexeme} {l : LiteralOf Term} → ReadsHead n xs (End ∷ []) l → (text : List ℕ) → before_name text xs ≡ None
head_alone (a_head r e) text = fact_alone r text

literal_named : {n : ℕ} {xs ys : List Lexeme} {l : LiteralOf Term} → ReadsLiteral n xs ys l → l.neg ≡ false → starts_with_name xs ≡ true
literal_named (is_held (an_atom p e q f)) h = refl
literal_named (is_denied (an_atom p e q f)) h = absurd cc

head_named : {n : ℕ} {xs ys : List Lexeme} {l : LiteralOf Term} → ReadsHead n xs ys l → l.neg ≡ false → starts_with_name xs ≡ true
head_named (a_head r e) h = literal_named r h

label_named : (y : Lexeme) (us : List Lexeme) (name : List ℕ) → label_of y ≡ Some name → starts_with_name (y ∷ us) ≡ true
label_named y us name e = ap (λ (o : Option (List ℕ)). option_map_or (λ name. true) o false) e

word_stops : (text : List ℕ) (x : Lexeme) (us : List Lexeme) → is_word text x ≡ true → StopsPrimary (x ∷ us)
word_stops text (Atom name) us e = (refl, refl)
word_stops text _ us e = absurd cc

word_no_sign : (text : List ℕ) (x : Lexeme) → is_word text x ≡ true → adds_of x ≡ None
word_no_sign text (Atom name) e = refl
word_no_sign text _ e = absurd cc

pub effect_shorter : {n : ℕ} {xs ys : List Lexeme} {o : Option Effect} → ReadsEffect n xs ys o → length ys < length xs
effect_shorter (a_change f r) = omega (arith, shorter_literal r)
effect_shorter (a_drop e f) = omega arith
effect_shorter no_change = omega arith

-- ---- parts of clauses

named_there : (make : List ℕ → Statement) (y : Lexeme) (name : List ℕ) → label_of y ≡ Some name → named_by make (y ∷ End ∷ []) ≡ Some (Within (make name))
unfolding named_by
named_there make y name e = ap (λ (o : Option (List ℕ)). option_map {T = List ℕ} {U = List ℕ × List Lexeme} (λ a. (a, End ∷ [])) o >>= λ x. when_last x.1 (Within (make x.0))) e

doer_there : (x y : Lexeme) (us : List Lexeme) (by : Term) → is_word (codes "by") x ≡ true → doer_of y ≡ Some by → doer_by (x ∷ y ∷ us) ≡ Some (by, us)
unfolding doer_by
doer_there x y us by e f =
    ap (λ (o : Option (List Lexeme)). o >>= first_of doer_of) (word_there (codes "by") x (y ∷ us) e)
    ∙ ap (λ (o : Option Term). option_map {T = Term} {U = Term × List Lexeme} (λ a. (a, us)) o) f

module _ (bs : Bounds) where
  formula_there : {n : ℕ} {xs ys : List Lexeme} {e : Expr} → ReadsFormula n xs ys e → StopsOr ys → formula_by bs n xs ≡ Some (hold_formula bs e, ys)
  unfolding formula_by
  formula_there {n} {xs} {ys} {e} (a_formula {m = m} r f) s = ap as_condition (reads_or bs n xs ys m r s) ∙ ap (λ (o : Option KeptExpr). o >>= λ e. Some (e, ys)) (formula_held bs m ∙ ap (λ (o : Option Expr). option_map (hold_formula bs) o) f)

  head_there : {n : ℕ} {xs ys : List Lexeme} {l : LiteralOf Term} → ReadsHead n xs ys l → StopsPrimary ys → head_by bs n xs ≡ Some (hold_literal bs l, ys)
  unfolding head_by
  head_there {n} {xs} {ys} {l} (a_head r f) s = ap (λ (p : Front KeptLiteral). p >>= λ l. cond (literal_plain l.0) (Some l) None) (reads_literal bs n xs ys l r s) ∙ ap (λ (b : Bool). cond b (Some (hold_literal bs l, ys)) None) (plain_held bs l ∙ f)

  guard_there : {n : ℕ} {xs zs : List Lexeme} {k : Option Expr} → ReadsGuard n xs (Sign sign.RightArrow ∷ zs) k → guard_by bs n xs ≡ Some (hold_guard bs k, Sign sign.RightArrow ∷ zs)
  unfolding guard_by
  guard_there no_guard = refl
  guard_there {zs = zs} (a_guard {e = e} {ps = ps} r p) =
      ap as_guard (formula_there r (refl, (refl, (refl, (refl, (refl, (refl, refl)))))))
      ∙ ap (λ (o : Option KeptGuard). o >>= λ g. Some (g, Sign sign.RightArrow ∷ zs)) (guard_kept bs e (parts_told e ps p))

  effect_there : {n : ℕ} {xs ys : List Lexeme} {o : Option Effect} → ReadsEffect n xs ys o → StopsPrimary ys → effect_by bs n xs ≡ Some (option_map (hold_effect bs) o, ys)
  unfolding effect_by change_by
  effect_there {n} {ys = ys} (a_change {x = x} {add = add} {xs = xs} {l = l} f r) s =
      ap (λ (p : Option Bool). option_map_or (change_by bs n) (option_map {T = Bool} {U = Bool × List Lexeme} (λ a. (a, xs)) p) (word_by (x ∷ xs))) f
      ∙ ap (λ (p : Front KeptLiteral). p >>= λ l. Some (Some (effect_of add l.0), l.1)) (reads_literal bs n xs ys l r s)
      ∙ ap (λ (k : KeptEffect). Some (Some k, ys)) (effect_made bs add l)
  effect_there {n} {ys = ys} (a_drop {x = x} {y = y} {name = name} e f) s =
      ap (λ (p : Option Bool). option_map_or (change_by bs n) (option_map {T = Bool} {U = Bool × List Lexeme} (λ a. (a, y ∷ ys)) p) (word_by (x ∷ y ∷ ys))) (word_no_sign (codes "drop") x e)
      ∙ ap (λ (o : Option (List Lexeme)). option_map_or dropped_by o (nothing_by (x ∷ y ∷ ys))) (word_there (codes "drop") x (y ∷ ys) e)
      ∙ ap (λ (o : Option (List ℕ)). option_map {T = List ℕ} {U = List ℕ × List Lexeme} (λ a. (a, ys)) o >>= λ z. Some (Some (Within (Dropped z.0)), z.1)) f
  effect_there no_change s = refl

  list_step : (n k : ℕ) (xs : List Lexeme) (x : Option KeptEffect) (us : List Lexeme) (o : Option (List Lexeme)) → effect_by bs n xs ≡ Some (x, us) → after_comma us ≡ o → effect_list_by (effect_by bs n) (suc k) xs ≡ option_map_or {U = Front KeptEffects} (λ us. effect_list_by (effect_by bs n) k us >>= λ r. Some (before x r.0, r.1)) o (Some (before x (Within []), us))
  unfolding effect_list_by
  list_step n k xs x us o e a = rw e refl ∙ ap (λ (o : Option (List Lexeme)). option_map_or {U = Front KeptEffects} (λ us. effect_list_by (effect_by bs n) k us >>= λ r. Some (before x r.0, r.1)) o (Some (before x (Within []), us))) a

  -- the effects of an act, up to the end of the clause
  list_there : {n : ℕ} {xs ys : List Lexeme} {es : List Effect} → ReadsEffects n xs ys es → StopsPrimary ys → after_comma ys ≡ None → (k : ℕ) → length xs ≤ k → effect_list_by (effect_by bs n) k xs ≡ Some (hold_effects bs es, ys)
  list_there (only_effect r e) s a zero le = absurd (omega (arith, effect_shorter r))
  list_there {n} {xs} {ys} (only_effect {o = o} r e) s a (suc k) le = list_step n k xs (option_map (hold_effect bs) o) ys None (effect_there r s) a ∙ ap (λ (gs : KeptEffects). Some (gs, ys)) (before_made bs o [] ∙ ap (hold_effects bs) e)
  list_there (more_effects r t e) s a zero le = absurd (omega (arith, effect_shorter r))
  list_there {n} {xs} {ys = zs} (more_effects {ys = ys} {o = o} {es = es} r t e) s a (suc k) le =
      list_step n k xs (option_map (hold_effect bs) o) (Sign sign.Comma ∷ ys) (Some ys) (effect_there r (refl, refl)) refl
      ∙ ap (λ (p : Front KeptEffects). p >>= λ r. Some (before (option_map (hold_effect bs) o) r.0, r.1)) (list_there t s a k (omega (arith, effect_shorter r)))
      ∙ ap (λ (gs : KeptEffects). Some (gs, zs)) (before_made bs o es ∙ ap (hold_effects bs) e)

  effects_there : {n : ℕ} {xs : List Lexeme} {es : List Effect} → ReadsEffects n xs (End ∷ []) es → effects_by bs n xs ≡ Some (hold_effects bs es, End ∷ [])
  effects_there {xs = xs} r = list_there r (refl, refl) refl (length xs) (omega arith)

  -- ---- clauses

  fact_there : {n : ℕ} {xs : List Lexeme} {l : LiteralOf Term} → ReadsHead n xs (End ∷ []) l → list_any is_variable xs ≡ false → fact_by bs n xs ≡ Some (hold_statement bs (statement.Fact l))
  unfolding fact_by
  fact_there {n} {xs} {l} h e =
      ap (λ (b : Bool). cond b None (head_by bs n xs >>= λ l. when_last l.1 (fact_of bs l.0))) e
      ∙ ap (λ (p : Front KeptLiteral). p >>= λ l. when_last l.1 (fact_of bs l.0)) (head_there h (refl, refl))
      ∙ ap (λ (s : KeptStatement). Some s) (fact_made bs l)

  act_there : {n : ℕ} {x y : Lexeme} {xs ys zs : List Lexeme} {l : LiteralOf Term} {by : Term} {k : Option Expr} {es : List Effect} → ReadsHead n xs (x ∷ y ∷ ys) l → is_word (codes "by") x ≡ true → doer_of y ≡ Some by → ReadsGuard n ys (Sign sign.RightArrow ∷ zs) k → ReadsEffects n zs (End ∷ []) es → act_by bs n xs ≡ Some (hold_statement bs (statement.Act (record { head = l; by = by; guard = k; effects = es })))
  unfolding act_by with_guard_by with_effects_by
  act_there {n} {x} {y} {xs} {ys} {zs} {l} {by} {k} {es} h e f r t =
      rw (head_there h (word_stops (codes "by") x (y ∷ ys) e), doer_there x y ys by e f, guard_there r, effects_there t) (ap (λ (s : KeptStatement). Some s) (act_made bs l by k es))

  bare_there : {n : ℕ} {xs : List Lexeme} {s : Statement} → States n xs s → bare_by bs n xs ≡ Some (hold_statement bs s)
  bare_there {n} {xs} (a_fact h e) = rw (head_alone h (codes "hide"), head_alone h (codes "use"), head_alone h (codes "act")) (fact_there h e)
  bare_there {n} {s = s} (a_hide {x = x} {y = y} {name = name} e f) =
      rw (name_there (codes "hide") x (y ∷ End ∷ []) e (label_named y (End ∷ []) name f)) (named_there hide_of y name f ∙ ap (λ (s : KeptStatement). Some s) (sym (hide_small bs name)))
  bare_there (a_use {x = x} {y = y} {name = name} e f) =
      rw (no_name (codes "hide") x (y ∷ End ∷ []) (other_word (codes "use") (codes "hide") x refl e), name_there (codes "use") x (y ∷ End ∷ []) e (label_named y (End ∷ []) name f)) (named_there use_of y name f ∙ ap (λ (s : KeptStatement). Some s) (sym (use_small bs name)))
  bare_there (an_act {w = w} {xs = xs} a h p e f r t) =
      rw (no_name (codes "hide") w xs (other_word (codes "act") (codes "hide") w refl a), no_name (codes "use") w xs (other_word (codes "act") (codes "use") w refl a), name_there (codes "act") w xs a (head_named h p)) (act_there h e f r t)

  -- what is a clause is read
  pub complete_statement : (n : ℕ) (xs : List Lexeme) (s : Statement) → Says n xs s → statement_by bs n xs ≡ Some (hold_statement bs s)
  unfolding statement_by
  complete_statement n xs s h = ap (λ (b : Bool). cond b None (bare_by bs n xs)) h.bare ∙ bare_there h.stated
