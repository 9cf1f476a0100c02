-- What is read as a clause is one.
use Rattle.std.proofs.Common.{◌≡◌, ℕ, zero, suc, Bool, true, false, cond, List, [], ◌∷◌, length, Option, Some, None, codes, refl, sym, ap, subst, ◌∙◌}
use Rattle.std.specs.List.{list_any}
use Rattle.std.specs.Option.{option_map_or}
use Rattle.asl_lexer.specs.declared.token.Sign.TheVariants as sign
use Rattle.asl_term.specs.declared.syntax.LiteralOf.{LiteralOf}
use Rattle.asl_term.specs.declared.syntax.Term.{Term}
use Rattle.asl_parser_tree.specs.declared.lexeme.Lexeme.{Lexeme}
use Rattle.asl_parser_tree.specs.declared.lexeme.Lexeme.TheVariants.{Truth, Sign, End}
use Rattle.asl_parser_tree.specs.declared.bounded.Bounded.TheVariants.{Within}
use Rattle.asl_parser_tree.specs.declared.leaves.OperatorLevel.TheVariants as levels
use Rattle.asl_parser_tree.specs.Meanings.{◌>>=◌}
use Rattle.asl_parser_expr.specs.Grammar.{ReadsLiteral, is_held, is_denied, an_atom}
use Rattle.asl_parser_tree.specs.Holding.{Bounds, KeptLiteral, KeptExpr, as_formula, literal_plain}
use Rattle.asl_parser_tree.specs.Leaves.{Front, after_comma}
use Rattle.asl_parser_expr.specs.Reading.{level_by, literal_by, inside}
use Rattle.asl_parser_tree.proofs.Options.{some_is}
use Rattle.asl_parser_expr.proofs.Sound.{bind_some, moved, Begins, mapped, comma_only, sound, sound_literal}
use Rattle.asl_parser.specs.Sentences.{label_of, adds_of}
use Rattle.asl_parser.specs.Sentences as grammar
use Rattle.asl_parser.specs.Speaking.{after_colon, is_last, first_of, formula_by, head_by}
use Rattle.asl_parser.proofs.Made.{ReadsFormula, a_formula, ReadsHead, a_head}
use Rattle.env_file.specs.declared.statement.Effect.TheVariants.{Dropped}
use Rattle.env_file.specs.declared.statement.Statement.{Statement}
use Rattle.env_file.specs.Statements.{is_word, is_variable, doer_of, has_annots}
use Rattle.env_file.specs.Holding.{KeptGuard, KeptEffect, KeptEffects, KeptStatement, guard_of, effect_of, before, fact_of, act_with}
use Rattle.env_file.specs.Speaking.{after_word, after_right_arrow, after_true, starts_with_name, before_name, when_last, hide_of, use_of, named_by, doer_by, nothing_by, dropped_by, word_by, effect_list_by, guard_by, change_by, effect_by, effects_by, with_effects_by, with_guard_by, act_by, fact_by, act_or_fact, use_or_other, bare_by, statement_by}
use Rattle.env_file.proofs.Made.{ReadsGuard, no_guard, a_guard, ReadsEffect, a_change, a_drop, no_change, ReadsEffects, only_effect, more_effects, States, a_fact, a_hide, a_use, an_act, Says, says}

-- ---- single tokens

colon_only : (ts us : List Lexeme) → after_colon ts ≡ Some us → ts ≡ Sign sign.Colon ∷ us
colon_only (Sign sign.Colon ∷ ts) us e = ap (λ (x : List Lexeme). Sign sign.Colon ∷ x) (some_is ts us e)
colon_only _ us e = absurd cc

arrow_only : (ts us : List Lexeme) → after_right_arrow ts ≡ Some us → ts ≡ Sign sign.RightArrow ∷ us
arrow_only (Sign sign.RightArrow ∷ ts) us e = ap (λ (x : List Lexeme). Sign sign.RightArrow ∷ x) (some_is ts us e)
arrow_only _ us e = absurd cc

true_only : (ts us : List Lexeme) → after_true ts ≡ Some us → ts ≡ Truth true ∷ us
true_only (Truth true ∷ ts) us e = ap (λ (x : List Lexeme). Truth true ∷ x) (some_is ts us e)
true_only _ us e = absurd cc

last_only : (ts : List Lexeme) → is_last ts ≡ true → ts ≡ End ∷ []
last_only (End ∷ []) e = refl
last_only _ e = absurd cc

first_begins : {A : Type 0} (f : Lexeme → Option A) (ts : List Lexeme) (a : A) (us : List Lexeme) → first_of f ts ≡ Some (a, us) → Begins f ts a us
first_begins f [] a us e = absurd cc
first_begins f (t ∷ ts) a us e = mapped f t ts a us e

guarded : {A : Type 0} (b : Bool) (x y : A) → cond b (Some x) None ≡ Some y → (b ≡ true) × (x ≡ y)
guarded true x y e = (refl, cc)
guarded false x y e = absurd cc

-- the end is there, and this was said
ended : (ts : List Lexeme) (s t : KeptStatement) → when_last ts s ≡ Some t → (ts ≡ End ∷ []) × (s ≡ t)
ended ts s t e = let g = guarded (is_last ts) s t e in (last_only ts g.0, g.1)

-- this word is first
record Word (text : List ℕ) (ts us : List Lexeme) : Type 0 where
  first : Lexeme
  whole : ts ≡ first ∷ us
  is : is_word text first ≡ true

word_only : (text : List ℕ) (ts us : List Lexeme) → after_word text ts ≡ Some us → Word text ts us
word_only text [] us e = absurd cc
word_only text (x ∷ ts) us e = let g = guarded (is_word text x) ts us e in record { first = x; whole = ap (λ (z : List Lexeme). x ∷ z) g.1; is = g.0 }

-- and a name behind it
name_only : (text : List ℕ) (ts us : List Lexeme) → before_name text ts ≡ Some us → Word text ts us × (starts_with_name us ≡ true)
name_only text ts us e =
    let a = bind_some (after_word text ts) _ us e in
    let g = guarded (starts_with_name a.0) a.0 us a.2 in
    (subst (Word text ts) g.1 (word_only text ts a.0 a.1), ap starts_with_name (sym g.1) ∙ g.0)

-- whom an act is for
record Doer (ts : List Lexeme) (by : Term) (us : List Lexeme) : Type 0 where
  word : Lexeme
  doer : Lexeme
  whole : ts ≡ word ∷ doer ∷ us
  is : is_word (codes "by") word ≡ true
  means : doer_of doer ≡ Some by

doer_only : (ts : List Lexeme) (by : Term) (us : List Lexeme) → doer_by ts ≡ Some (by, us) → Doer ts by us
unfolding doer_by
doer_only ts by us e =
    let a = bind_some (after_word (codes "by") ts) (first_of doer_of) (by, us) e in
    let w = word_only (codes "by") ts a.0 a.1 in
    let b = first_begins doer_of a.0 by us a.2 in
    record { word = w.first; doer = b.0; whole = w.whole ∙ ap (λ (z : List Lexeme). w.first ∷ z) b.1; is = w.is; means = b.2 }

-- a name, and the end
record Named (make : List ℕ → Statement) (ts : List Lexeme) (s : KeptStatement) : Type 0 where
  word : Lexeme
  name : List ℕ
  whole : ts ≡ word ∷ End ∷ []
  means : label_of word ≡ Some name
  same : ◌≡◌ {A = KeptStatement} (Within (make name)) s

named_read : (make : List ℕ → Statement) (ts us : List Lexeme) (name : List ℕ) (s : KeptStatement) → Begins label_of ts name us → (us ≡ End ∷ []) × (◌≡◌ {A = KeptStatement} (Within (make name)) s) → Named make ts s
named_read make ts us name s b g = record { word = b.0; name = name; whole = b.1 ∙ ap (λ (z : List Lexeme). b.0 ∷ z) g.0; means = b.2; same = g.1 }

named_only : (make : List ℕ → Statement) (ts : List Lexeme) (s : KeptStatement) → named_by make ts ≡ Some s → Named make ts s
unfolding named_by
named_only make ts s e =
    let a = bind_some (first_of label_of ts) _ s e in
    named_read make ts a.0.1 a.0.0 s (first_begins label_of ts a.0.0 a.0.1 a.1) (ended a.0.1 (Within (make a.0.0)) s a.2)

-- what begins with a name is positive
pub positive : {n : ℕ} {xs ys : List Lexeme} {l : LiteralOf Term} → ReadsLiteral n xs ys l → starts_with_name xs ≡ true → l.neg ≡ false
positive (is_held (an_atom p e q f)) h = refl
positive (is_denied r) h = absurd cc

positive_head : {n : ℕ} {xs ys : List Lexeme} {l : LiteralOf Term} → grammar.ReadsHead n xs ys l → starts_with_name xs ≡ true → l.neg ≡ false
positive_head (grammar.a_head r e) h = positive r h

module _ (bs : Bounds) where
  sound_formula : (n : ℕ) (xs ys : List Lexeme) (e : KeptExpr) → formula_by bs n xs ≡ Some (e, ys) → ReadsFormula bs n xs ys e
  unfolding formula_by
  sound_formula n xs ys e h =
      let a = bind_some (level_by bs (inside bs n) levels.Or xs) _ (e, ys) h in
      let b = bind_some (as_formula a.0.0) _ (e, ys) a.2 in
      moved (λ z w. ReadsFormula bs n xs z w) b.0 a.0.1 e ys b.2 (a_formula bs (sound bs n xs a.0.1 a.0.0 a.1) b.1)

  sound_head : (n : ℕ) (xs ys : List Lexeme) (l : KeptLiteral) → head_by bs n xs ≡ Some (l, ys) → ReadsHead bs n xs ys l
  unfolding head_by
  sound_head n xs ys l h =
      let a = bind_some (literal_by bs (inside bs n) xs) _ (l, ys) h in
      let g = guarded {A = KeptLiteral × List Lexeme} (literal_plain a.0.0) a.0 (l, ys) a.2 in
      let P : KeptLiteral × List Lexeme → Type 0 = λ z. ReadsHead bs n xs z.1 z.0 in
      subst P g.1 (a_head bs (sound_literal bs n xs a.0.1 a.0.0 a.1) g.0)

  sound_guard : (n : ℕ) (xs ys : List Lexeme) (k : KeptGuard) → guard_by bs n xs ≡ Some (k, ys) → ReadsGuard bs n xs ys k
  unfolding guard_by
  sound_guard n xs ys k h = go (after_colon xs) refl h
    where
      go : (o : Option (List Lexeme)) → after_colon xs ≡ o → option_map_or {U = Front KeptGuard} (λ us. formula_by bs n us >>= λ e. guard_of e.0 >>= λ g. Some (g, e.1)) o (Some (Within None, xs)) ≡ Some (k, ys) → ReadsGuard bs n xs ys k
      go None f h = moved (λ z w. ReadsGuard bs n xs z w) (Within None) xs k ys h (no_guard bs)
      go (Some us) f h =
          let a = bind_some (formula_by bs n us) _ (k, ys) h in
          let b = bind_some (guard_of a.0.0) _ (k, ys) a.2 in
          let part = a_guard bs (sound_formula n us a.0.1 a.0.0 a.1) b.1 in
          moved (λ z w. ReadsGuard bs n xs z w) b.0 a.0.1 k ys b.2 (subst (λ (z : List Lexeme). ReadsGuard bs n z a.0.1 b.0) (sym (colon_only xs us f)) part)

  pub sound_effect : (n : ℕ) (xs ys : List Lexeme) (o : Option KeptEffect) → effect_by bs n xs ≡ Some (o, ys) → ReadsEffect bs n xs ys o
  unfolding effect_by change_by
  sound_effect n xs ys o e = go (first_of adds_of xs) refl e
    where
      word : (d : Option (List Lexeme)) → after_word (codes "drop") xs ≡ d → option_map_or dropped_by d (nothing_by xs) ≡ Some (o, ys) → ReadsEffect bs n xs ys o
      word (Some us) f e =
          let w = word_only (codes "drop") xs us f in
          let a = bind_some (first_of label_of us) _ (o, ys) e in
          let b = first_begins label_of us a.0.0 a.0.1 a.1 in
          let whole = w.whole ∙ ap (λ (z : List Lexeme). w.first ∷ z) b.1 in
          let part = a_drop bs w.is b.2 in
          moved (λ z w. ReadsEffect bs n xs z w) (Some (Within (Dropped a.0.0))) a.0.1 o ys a.2 (subst (λ (z : List Lexeme). ReadsEffect bs n z a.0.1 (Some (Within (Dropped a.0.0)))) (sym whole) part)
      word None f e =
          let a = bind_some (after_true xs) _ (o, ys) e in
          moved (λ z w. ReadsEffect bs n xs z w) None a.0 o ys a.2 (subst (λ (z : List Lexeme). ReadsEffect bs n z a.0 None) (sym (true_only xs a.0 a.1)) (no_change bs))

      go : (d : Front Bool) → first_of adds_of xs ≡ d → option_map_or (change_by bs n) d (word_by xs) ≡ Some (o, ys) → ReadsEffect bs n xs ys o
      go None f e = word (after_word (codes "drop") xs) refl e
      go (Some d) f e =
          let a = bind_some (literal_by bs (inside bs n) d.1) _ (o, ys) e in
          let b = first_begins adds_of xs d.0 d.1 f in
          let part = a_change bs b.2 (sound_literal bs n d.1 a.0.1 a.0.0 a.1) in
          moved (λ z w. ReadsEffect bs n xs z w) (Some (effect_of d.0 a.0.0)) a.0.1 o ys a.2 (subst (λ (z : List Lexeme). ReadsEffect bs n z a.0.1 (Some (effect_of d.0 a.0.0))) (sym b.1) part)

  sound_effects : (n k : ℕ) (xs ys : List Lexeme) (es : KeptEffects) → effect_list_by (effect_by bs n) k xs ≡ Some (es, ys) → ReadsEffects bs n xs ys es
  unfolding effect_list_by
  sound_effects n zero xs ys es e = absurd cc
  sound_effects n (suc k) xs ys es e =
      let a = bind_some (effect_by bs n xs) _ (es, ys) e in
      go a.0.0 a.0.1 (sound_effect n xs a.0.1 a.0.0 a.1) (after_comma a.0.1) refl a.2 (λ us ys es e. sound_effects n k us ys es e)
    where
      go : (x : Option KeptEffect) (us : List Lexeme) → ReadsEffect bs n xs us x → (o : Option (List Lexeme)) → after_comma us ≡ o → option_map_or {U = Front KeptEffects} (λ us. effect_list_by (effect_by bs n) k us >>= λ r. Some (before x r.0, r.1)) o (Some (before x (Within []), us)) ≡ Some (es, ys) → ((us ys : List Lexeme) (es : KeptEffects) → effect_list_by (effect_by bs n) k us ≡ Some (es, ys) → ReadsEffects bs n us ys es) → ReadsEffects bs n xs ys es
      go x us r None f e again = moved (λ z w. ReadsEffects bs n xs z w) (before x (Within [])) us es ys e (only_effect bs r)
      go x us r (Some vs) f e again =
          let b = bind_some (effect_list_by (effect_by bs n) k vs) _ (es, ys) e in
          let first = subst (λ (z : List Lexeme). ReadsEffect bs n xs z x) (comma_only us vs f) r in
          moved (λ z w. ReadsEffects bs n xs z w) (before x b.0.0) b.0.1 es ys b.2 (more_effects bs first (again vs b.0.1 b.0.0 b.1))

  sound_hide : (n : ℕ) (x : Lexeme) (us : List Lexeme) (s : KeptStatement) → is_word (codes "hide") x ≡ true → Named hide_of us s → States bs n (x ∷ us) s
  sound_hide n x us s w a = subst (States bs n (x ∷ us)) a.same (subst (λ (z : List Lexeme). States bs n (x ∷ z) (Within (hide_of a.name))) (sym a.whole) (a_hide bs w a.means))

  sound_use : (n : ℕ) (x : Lexeme) (us : List Lexeme) (s : KeptStatement) → is_word (codes "use") x ≡ true → Named use_of us s → States bs n (x ∷ us) s
  sound_use n x us s w a = subst (States bs n (x ∷ us)) a.same (subst (λ (z : List Lexeme). States bs n (x ∷ z) (Within (use_of a.name))) (sym a.whole) (a_use bs w a.means))

  -- an act, from what was read of it
  act_read : (n : ℕ) (w : Lexeme) (us ls ds ks rs ts : List Lexeme) (l : KeptLiteral) (by : Term) (k : KeptGuard) (es : KeptEffects) (s : KeptStatement) → is_word (codes "act") w ≡ true → starts_with_name us ≡ true
      → ReadsHead bs n us ls l → Doer ls by ds → ReadsGuard bs n ds ks k → ks ≡ Sign sign.RightArrow ∷ rs → ReadsEffects bs n rs ts es → (ts ≡ End ∷ []) × (act_with bs l by k es ≡ s) → States bs n (w ∷ us) s
  act_read n w us ls ds ks rs ts l by k es s is named h d r e t g =
      let head = subst (λ (z : List Lexeme). ReadsHead bs n us z l) d.whole h in
      let guard = subst (λ (z : List Lexeme). ReadsGuard bs n ds z k) e r in
      let effects = subst (λ (z : List Lexeme). ReadsEffects bs n rs z es) g.0 t in
      subst (States bs n (w ∷ us)) g.1 (an_act bs is head (positive_head head.holds named) d.is d.means guard effects)

  sound_act : (n : ℕ) (w : Lexeme) (us : List Lexeme) (s : KeptStatement) → is_word (codes "act") w ≡ true → starts_with_name us ≡ true → act_by bs n us ≡ Some s → States bs n (w ∷ us) s
  unfolding act_by with_guard_by with_effects_by
  sound_act n w us s is named e =
      let l = bind_some (head_by bs n us) _ s e in
      let d = bind_some (doer_by l.0.1) _ s l.2 in
      let k = bind_some (guard_by bs n d.0.1) _ s d.2 in
      let r = bind_some (after_right_arrow k.0.1) _ s k.2 in
      let t = bind_some (effects_by bs n r.0) _ s r.2 in
      act_read n w us l.0.1 d.0.1 k.0.1 r.0 t.0.1 l.0.0 d.0.0 k.0.0 t.0.0 s is named (sound_head n us l.0.1 l.0.0 l.1) (doer_only l.0.1 d.0.0 d.0.1 d.1) (sound_guard n d.0.1 k.0.1 k.0.0 k.1) (arrow_only k.0.1 r.0 r.1) (sound_effects n (length r.0) r.0 t.0.1 t.0.0 t.1) (ended t.0.1 (act_with bs l.0.0 d.0.0 k.0.0 t.0.0) s t.2)

  sound_fact : (n : ℕ) (xs : List Lexeme) (s : KeptStatement) → fact_by bs n xs ≡ Some s → States bs n xs s
  unfolding fact_by
  sound_fact n xs s e = go (list_any is_variable xs) refl e
    where
      go : (b : Bool) → list_any is_variable xs ≡ b → cond b None (head_by bs n xs >>= λ l. when_last l.1 (fact_of bs l.0)) ≡ Some s → States bs n xs s
      go true f e = absurd cc
      go false f e =
          let a = bind_some (head_by bs n xs) _ s e in
          let g = ended a.0.1 (fact_of bs a.0.0) s a.2 in
          subst (States bs n xs) g.1 (a_fact bs (subst (λ (z : List Lexeme). ReadsHead bs n xs z a.0.0) g.0 (sound_head n xs a.0.1 a.0.0 a.1)) f)

  sound_act_or_fact : (n : ℕ) (xs : List Lexeme) (s : KeptStatement) → act_or_fact bs n xs ≡ Some s → States bs n xs s
  sound_act_or_fact n xs s e = go (before_name (codes "act") xs) refl e
    where
      go : (o : Option (List Lexeme)) → before_name (codes "act") xs ≡ o → option_map_or (act_by bs n) o (fact_by bs n xs) ≡ Some s → States bs n xs s
      go None f e = sound_fact n xs s e
      go (Some us) f e = let w = name_only (codes "act") xs us f in subst (λ (z : List Lexeme). States bs n z s) (sym w.0.whole) (sound_act n w.0.first us s w.0.is w.1 e)

  sound_use_or_other : (n : ℕ) (xs : List Lexeme) (s : KeptStatement) → use_or_other bs n xs ≡ Some s → States bs n xs s
  sound_use_or_other n xs s e = go (before_name (codes "use") xs) refl e
    where
      go : (o : Option (List Lexeme)) → before_name (codes "use") xs ≡ o → option_map_or (named_by use_of) o (act_or_fact bs n xs) ≡ Some s → States bs n xs s
      go None f e = sound_act_or_fact n xs s e
      go (Some us) f e = let w = name_only (codes "use") xs us f in subst (λ (z : List Lexeme). States bs n z s) (sym w.0.whole) (sound_use n w.0.first us s w.0.is (named_only use_of us s e))

  sound_bare : (n : ℕ) (xs : List Lexeme) (s : KeptStatement) → bare_by bs n xs ≡ Some s → States bs n xs s
  sound_bare n xs s e = go (before_name (codes "hide") xs) refl e
    where
      go : (o : Option (List Lexeme)) → before_name (codes "hide") xs ≡ o → option_map_or (named_by hide_of) o (use_or_other bs n xs) ≡ Some s → States bs n xs s
      go None f e = sound_use_or_other n xs s e
      go (Some us) f e = let w = name_only (codes "hide") xs us f in subst (λ (z : List Lexeme). States bs n z s) (sym w.0.whole) (sound_hide n w.0.first us s w.0.is (named_only hide_of us s e))

  -- what is read as a clause is one
  pub sound_statement : (n : ℕ) (xs : List Lexeme) (s : KeptStatement) → statement_by bs n xs ≡ Some s → Says bs n xs s
  unfolding statement_by
  sound_statement n xs s e = go (has_annots xs) refl e
    where
      go : (b : Bool) → has_annots xs ≡ b → cond b None (bare_by bs n xs) ≡ Some s → Says bs n xs s
      go true f e = absurd cc
      go false f e = says bs f (sound_bare n xs s e)
