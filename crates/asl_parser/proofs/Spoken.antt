-- What is read as a clause is one.
use Rattle.std.proofs.Common.{◌≡◌, ℕ, zero, suc, ◌<◌, ◌≤◌, Bool, true, false, cond, List, [], ◌∷◌, length, Option, Some, None, refl, sym, ap, subst, ◌∙◌, arith}
use Rattle.std.specs.Option.{option_map, option_map_or}
use Rattle.asl_lexer.specs.declared.token.Sign.TheVariants as sign
use Rattle.asl_term.specs.declared.syntax.LiteralOf.{LiteralOf}
use Rattle.asl_term.specs.declared.syntax.Term.{Term}
use Rattle.asl_term.specs.declared.syntax.Expr.{Expr}
use Rattle.asl_term.specs.declared.syntax.Expr.TheVariants as expr
use Rattle.asl_term.specs.declared.syntax.Formula.{Formula}
use Rattle.asl_term.specs.declared.syntax.Kind.{Kind}
use Rattle.asl_term.specs.declared.syntax.Kind.TheVariants as kind
use Rattle.asl_term.specs.declared.syntax.Trigger.{Trigger}
use Rattle.asl_parser_tree.specs.declared.lexeme.Lexeme.{Lexeme}
use Rattle.asl_parser_tree.specs.declared.lexeme.Lexeme.TheVariants.{Sign, End}
use Rattle.asl_parser_tree.specs.declared.bounded.Bounded.TheVariants.{Within}
use Rattle.asl_parser_tree.specs.Holding.{Bounds, Kept, KeptLiteral, KeptExpr, as_formula, literal_plain}
use Rattle.asl_parser_tree.specs.declared.leaves.OperatorLevel.TheVariants as levels
use Rattle.asl_parser.specs.declared.sentence.ItemSign.{ItemSign}
use Rattle.asl_parser.specs.declared.sentence.Sentence.{Sentence}
use Rattle.asl_parser.specs.declared.sentence.Sentence.TheVariants as sentence
use Rattle.asl_parser_tree.specs.Meanings.{◌>>=◌}
use Rattle.asl_parser_expr.specs.Grammar.{disjunction}
use Rattle.asl_parser_expr.proofs.Built.{Reads, ReadsLiteral}
use Rattle.asl_parser.proofs.Made.{ReadsFormula, a_formula, ReadsHead, a_head, ReadsTrigger, a_trigger, ReadsContext, no_context, a_context, ReadsItem, with_sign, without_sign, ReadsItemList, only_item, more_items, ReadsBody, no_body, a_body, Says, says_fact, says_rule, says_goal, says_plan}
use Rattle.asl_parser_tree.specs.Leaves.{Front}
use Rattle.asl_parser_expr.specs.Reading.{level_by, literal_by, inside}
use Rattle.asl_parser.specs.Sentences.{label_of, adds_of, deed_of, ReadsLabel, no_label, a_label, ReadsKind, a_belief, an_achievement, a_test}
use Rattle.asl_parser.specs.Holding.{KeptTrigger, KeptItem, KeptBody, KeptSentence, trigger_of, item_with, item_of, before, goal_of, fact_of, rule_with, plan_with}
use Rattle.asl_parser.specs.Speaking.{after_at, after_bang, after_if, after_colon, after_arrow, after_semicolon, is_last, starts_plan, first_of, kind_at, formula_by, head_by, named, label_by, trigger_by, context_by, signed_item_by, other_item_by, item_by, item_list_by, body_by, when_last, goal_by, rule_by, clause_by, plan_by, sentence_by}
use Rattle.asl_parser_tree.proofs.Options.{some_is}
use Rattle.asl_parser_expr.proofs.Shorter.{shorter, shorter_literal}
use Rattle.asl_parser_expr.proofs.Sound.{bind_some, moved, Begins, mapped, sound, sound_literal}

at_only : (ts us : List Lexeme) → after_at ts ≡ Some us → ts ≡ Sign sign.At ∷ us
at_only (Sign sign.At ∷ ts) us e = ap (λ (x : List Lexeme). Sign sign.At ∷ x) (some_is ts us e)
at_only _ us e = absurd cc

bang_only : (ts us : List Lexeme) → after_bang ts ≡ Some us → ts ≡ Sign sign.Bang ∷ us
bang_only (Sign sign.Bang ∷ ts) us e = ap (λ (x : List Lexeme). Sign sign.Bang ∷ x) (some_is ts us e)
bang_only _ us e = absurd cc

if_only : (ts us : List Lexeme) → after_if ts ≡ Some us → ts ≡ Sign sign.If ∷ us
if_only (Sign sign.If ∷ ts) us e = ap (λ (x : List Lexeme). Sign sign.If ∷ x) (some_is ts us e)
if_only _ us e = absurd cc

colon_only : (ts us : List Lexeme) → after_colon ts ≡ Some us → ts ≡ Sign sign.Colon ∷ us
colon_only (Sign sign.Colon ∷ ts) us e = ap (λ (x : List Lexeme). Sign sign.Colon ∷ x) (some_is ts us e)
colon_only _ us e = absurd cc

arrow_only : (ts us : List Lexeme) → after_arrow ts ≡ Some us → ts ≡ Sign sign.LeftArrow ∷ us
arrow_only (Sign sign.LeftArrow ∷ ts) us e = ap (λ (x : List Lexeme). Sign sign.LeftArrow ∷ x) (some_is ts us e)
arrow_only _ us e = absurd cc

pub semicolon_only : (ts us : List Lexeme) → after_semicolon ts ≡ Some us → ts ≡ Sign sign.Semicolon ∷ us
semicolon_only (Sign sign.Semicolon ∷ ts) us e = ap (λ (x : List Lexeme). Sign sign.Semicolon ∷ x) (some_is ts us e)
semicolon_only _ us e = absurd cc

last_only : (ts : List Lexeme) → is_last ts ≡ true → ts ≡ End ∷ []
last_only (End ∷ []) e = refl
last_only _ e = absurd cc

first_begins : {A : Type 0} (f : Lexeme → Option A) (ts : List Lexeme) (a : A) (us : List Lexeme) → first_of f ts ≡ Some (a, us) → Begins f ts a us
first_begins f [] a us e = absurd cc
first_begins f (t ∷ ts) a us e = mapped f t ts a us e

guarded : {A : Type 0} (b : Bool) (x y : A) → cond b (Some x) None ≡ Some y → (b ≡ true) × (x ≡ y)
guarded true x y e = (refl, cc)
guarded false x y e = absurd cc

sound_label : (xs ys : List Lexeme) (o : Option (List ℕ)) → label_by xs ≡ Some (o, ys) → ReadsLabel xs ys o
unfolding label_by
sound_label xs ys o e = go (after_at xs) refl e
  where
    name_of : (us : List Lexeme) (x : Front (List ℕ)) → first_of label_of us ≡ x → option_map {T = List ℕ × List Lexeme} {U = Option (List ℕ) × List Lexeme} (λ x. (Some x.0, x.1)) x ≡ Some (o, ys) → ReadsLabel (Sign sign.At ∷ us) ys o
    name_of us None f e = absurd cc
    name_of us (Some x) f e =
        let b = first_begins label_of us x.0 x.1 f in
        moved (λ z w. ReadsLabel (Sign sign.At ∷ us) z w) (Some x.0) x.1 o ys e (subst (λ (z : List Lexeme). ReadsLabel (Sign sign.At ∷ z) x.1 (Some x.0)) (sym b.1) (a_label b.2))

    go : (a : Option (List Lexeme)) → after_at xs ≡ a → option_map_or named a (Some (None, xs)) ≡ Some (o, ys) → ReadsLabel xs ys o
    go None f e = moved (λ z w. ReadsLabel xs z w) None xs o ys e no_label
    go (Some us) f e = subst (λ (z : List Lexeme). ReadsLabel z ys o) (sym (at_only xs us f)) (name_of us (first_of label_of us) refl e)

sound_kind : (xs : List Lexeme) → ReadsKind xs (kind_at xs).1 (kind_at xs).0
sound_kind (Sign sign.Bang ∷ xs) = an_achievement
sound_kind (Sign sign.Question ∷ xs) = a_test
sound_kind _ = a_belief

no_first : {A : Type 0} (f : Lexeme → Option A) (x : Lexeme) (xs : List Lexeme) → first_of f (x ∷ xs) ≡ None → f x ≡ None
no_first {A} f x xs e = go (f x) e
  where
    go : (o : Option A) → option_map {T = A} {U = A × List Lexeme} (λ a. (a, xs)) o ≡ None → o ≡ None
    go None e = refl
    go (Some a) e = absurd cc

-- the end is there, and this was said
ended : (ts : List Lexeme) (s t : KeptSentence) → when_last ts s ≡ Some t → (ts ≡ End ∷ []) × (s ≡ t)
ended ts s t e = let g = guarded (is_last ts) s t e in (last_only ts g.0, g.1)

module _ (bs : Bounds) where
  sound_formula : (n : ℕ) (xs ys : List Lexeme) (e : KeptExpr) → formula_by bs n xs ≡ Some (e, ys) → ReadsFormula bs n xs ys e
  unfolding formula_by
  sound_formula n xs ys e h =
      let a = bind_some (level_by bs (inside bs n) levels.Or xs) _ (e, ys) h in
      let b = bind_some (as_formula a.0.0) _ (e, ys) a.2 in
      moved (λ z w. ReadsFormula bs n xs z w) b.0 a.0.1 e ys b.2 (a_formula bs (sound bs n xs a.0.1 a.0.0 a.1) b.1)

  sound_head : (n : ℕ) (xs ys : List Lexeme) (l : KeptLiteral) → head_by bs n xs ≡ Some (l, ys) → ReadsHead bs n xs ys l
  unfolding head_by
  sound_head n xs ys l h =
      let a = bind_some (literal_by bs (inside bs n) xs) _ (l, ys) h in
      let g = guarded {A = KeptLiteral × List Lexeme} (literal_plain a.0.0) a.0 (l, ys) a.2 in
      let P : KeptLiteral × List Lexeme → Type 0 = λ z. ReadsHead bs n xs z.1 z.0 in
      subst P g.1 (a_head bs (sound_literal bs n xs a.0.1 a.0.0 a.1) g.0)

  sound_trigger : (n : ℕ) (xs ys : List Lexeme) (t : KeptTrigger) → trigger_by bs n xs ≡ Some (t, ys) → ReadsTrigger bs n xs ys t
  unfolding trigger_by
  sound_trigger n xs ys t e =
      let a = bind_some (first_of adds_of xs) _ (t, ys) e in
      let l = bind_some (head_by bs n (kind_at a.0.1).1) _ (t, ys) a.2 in
      let b = first_begins adds_of xs a.0.0 a.0.1 a.1 in
      let made : KeptTrigger = trigger_of a.0.0 (kind_at a.0.1).0 l.0.0 in
      let part = a_trigger bs b.2 (sound_kind a.0.1) (sound_head n (kind_at a.0.1).1 l.0.1 l.0.0 l.1) in
      moved (λ z w. ReadsTrigger bs n xs z w) made l.0.1 t ys l.2 (subst (λ (z : List Lexeme). ReadsTrigger bs n z l.0.1 made) (sym b.1) part)

  sound_context : (n : ℕ) (xs ys : List Lexeme) (e : KeptExpr) → context_by bs n xs ≡ Some (e, ys) → ReadsContext bs n xs ys e
  unfolding context_by
  sound_context n xs ys e h = go (after_colon xs) refl h
    where
      go : (o : Option (List Lexeme)) → after_colon xs ≡ o → option_map_or (formula_by bs n) o (Some (Within expr.True, xs)) ≡ Some (e, ys) → ReadsContext bs n xs ys e
      go None f h = moved (λ z w. ReadsContext bs n xs z w) (Within expr.True) xs e ys h (no_context bs)
      go (Some us) f h = subst (λ (z : List Lexeme). ReadsContext bs n z ys e) (sym (colon_only xs us f)) (a_context bs (sound_formula n us ys e h))

  sound_other : (n : ℕ) (xs ys : List Lexeme) (o : Option KeptItem) → first_of deed_of xs ≡ None → other_item_by bs n xs ≡ Some (o, ys) → ReadsItem bs n xs ys o
  unfolding other_item_by
  sound_other n xs ys o f e =
      let a = bind_some (level_by bs (inside bs n) levels.Or xs) _ (o, ys) e in
      let b = bind_some (item_of a.0.0) _ (o, ys) a.2 in
      moved (λ z w. ReadsItem bs n xs z w) b.0 a.0.1 o ys b.2 (go xs (sound bs n xs a.0.1 a.0.0 a.1) f b.1)
    where
      go : (xs : List Lexeme) {us : List Lexeme} {m : Kept} {p : Option KeptItem} → Reads bs n disjunction xs us m → first_of deed_of xs ≡ None → item_of m ≡ Some p → ReadsItem bs n xs us p
      go [] r f i = absurd (omega (arith, shorter r.holds))
      go (x ∷ xs) r f i = without_sign bs (no_first deed_of x xs f) r i

  pub sound_item : (n : ℕ) (xs ys : List Lexeme) (o : Option KeptItem) → item_by bs n xs ≡ Some (o, ys) → ReadsItem bs n xs ys o
  unfolding item_by signed_item_by
  sound_item n xs ys o e = go (first_of deed_of xs) refl e
    where
      go : (d : Front ItemSign) → first_of deed_of xs ≡ d → option_map_or (signed_item_by bs n) d (other_item_by bs n xs) ≡ Some (o, ys) → ReadsItem bs n xs ys o
      go None f e = sound_other n xs ys o f e
      go (Some d) f e =
          let a = bind_some (literal_by bs (inside bs n) d.1) _ (o, ys) e in
          let b = first_begins deed_of xs d.0 d.1 f in
          let part = with_sign bs b.2 (sound_literal bs n d.1 a.0.1 a.0.0 a.1) in
          moved (λ z w. ReadsItem bs n xs z w) (Some (item_with d.0 a.0.0)) a.0.1 o ys a.2 (subst (λ (z : List Lexeme). ReadsItem bs n z a.0.1 (Some (item_with d.0 a.0.0))) (sym b.1) part)

  sound_item_list : (n k : ℕ) (xs ys : List Lexeme) (fs : KeptBody) → item_list_by (item_by bs n) k xs ≡ Some (fs, ys) → ReadsItemList bs n xs ys fs
  unfolding item_list_by
  sound_item_list n zero xs ys fs e = absurd cc
  sound_item_list n (suc k) xs ys fs e =
      let a = bind_some (item_by bs n xs) _ (fs, ys) e in
      go a.0.0 a.0.1 (sound_item n xs a.0.1 a.0.0 a.1) (after_semicolon a.0.1) refl a.2 (λ us ys fs e. sound_item_list n k us ys fs e)
    where
      go : (x : Option KeptItem) (us : List Lexeme) → ReadsItem bs n xs us x → (o : Option (List Lexeme)) → after_semicolon us ≡ o → option_map_or {U = Front (KeptBody)} (λ us. item_list_by (item_by bs n) k us >>= λ r. Some (before x r.0, r.1)) o (Some (before x (Within []), us)) ≡ Some (fs, ys) → ((us ys : List Lexeme) (fs : KeptBody) → item_list_by (item_by bs n) k us ≡ Some (fs, ys) → ReadsItemList bs n us ys fs) → ReadsItemList bs n xs ys fs
      go x us r None f e again = moved (λ z w. ReadsItemList bs n xs z w) (before x (Within [])) us fs ys e (only_item bs r)
      go x us r (Some vs) f e again =
          let b = bind_some (item_list_by (item_by bs n) k vs) _ (fs, ys) e in
          let first = subst (λ (z : List Lexeme). ReadsItem bs n xs z x) (semicolon_only us vs f) r in
          moved (λ z w. ReadsItemList bs n xs z w) (before x b.0.0) b.0.1 fs ys b.2 (more_items bs first (again vs b.0.1 b.0.0 b.1))

  sound_body : (n : ℕ) (xs ys : List Lexeme) (fs : KeptBody) → body_by bs n xs ≡ Some (fs, ys) → ReadsBody bs n xs ys fs
  unfolding body_by
  sound_body n xs ys fs e = go (after_arrow xs) refl e
    where
      go : (o : Option (List Lexeme)) → after_arrow xs ≡ o → option_map_or (λ us. item_list_by (item_by bs n) (length us) us) o (Some (Within [], xs)) ≡ Some (fs, ys) → ReadsBody bs n xs ys fs
      go None f e = moved (λ z w. ReadsBody bs n xs z w) (Within []) xs fs ys e (no_body bs)
      go (Some us) f e = subst (λ (z : List Lexeme). ReadsBody bs n z ys fs) (sym (arrow_only xs us f)) (a_body bs (sound_item_list n (length us) us ys fs e))

  sound_goal : (n : ℕ) (xs : List Lexeme) (s : KeptSentence) → goal_by bs n xs ≡ Some s → Says bs n (Sign sign.Bang ∷ xs) s
  unfolding goal_by
  sound_goal n xs s e =
      let a = bind_some (head_by bs n xs) _ s e in
      let g = ended a.0.1 (goal_of bs a.0.0) s a.2 in
      subst (Says bs n (Sign sign.Bang ∷ xs)) g.1 (says_goal bs (subst (λ (z : List Lexeme). ReadsHead bs n xs z a.0.0) g.0 (sound_head n xs a.0.1 a.0.0 a.1)))

  sound_clause : (n : ℕ) (xs : List Lexeme) (s : KeptSentence) → clause_by bs n xs ≡ Some s → Says bs n xs s
  unfolding clause_by rule_by
  sound_clause n xs s e =
      let a = bind_some (head_by bs n xs) _ s e in
      go a.0.0 a.0.1 (sound_head n xs a.0.1 a.0.0 a.1) (after_if a.0.1) refl a.2
    where
      go : (l : KeptLiteral) (us : List Lexeme) → ReadsHead bs n xs us l → (o : Option (List Lexeme)) → after_if us ≡ o → option_map_or (rule_by bs n l) o (when_last us (fact_of bs l)) ≡ Some s → Says bs n xs s
      go l us r None f e = let g = ended us (fact_of bs l) s e in subst (Says bs n xs) g.1 (says_fact bs (subst (λ (z : List Lexeme). ReadsHead bs n xs z l) g.0 r))
      go l us r (Some vs) f e =
          let b = bind_some (formula_by bs n vs) _ s e in
          let g = ended b.0.1 (rule_with bs l b.0.0) s b.2 in
          subst (Says bs n xs) g.1 (says_rule bs (subst (λ (z : List Lexeme). ReadsHead bs n xs z l) (if_only us vs f) r) (subst (λ (z : List Lexeme). ReadsFormula bs n vs z b.0.0) g.0 (sound_formula n vs b.0.1 b.0.0 b.1)))

  sound_plan : (n : ℕ) (xs : List Lexeme) (s : KeptSentence) → plan_by bs n xs ≡ Some s → Says bs n xs s
  unfolding plan_by
  sound_plan n xs s h =
      let a = bind_some (label_by xs) _ s h in
      let t = bind_some (trigger_by bs n a.0.1) _ s a.2 in
      let e = bind_some (context_by bs n t.0.1) _ s t.2 in
      let fs = bind_some (body_by bs n e.0.1) _ s e.2 in
      let g = ended fs.0.1 (plan_with bs a.0.0 t.0.0 e.0.0 fs.0.0) s fs.2 in
      let end = subst (λ (z : List Lexeme). ReadsBody bs n e.0.1 z fs.0.0) g.0 (sound_body n e.0.1 fs.0.1 fs.0.0 fs.1) in
      subst (Says bs n xs) g.1 (says_plan bs (sound_label xs a.0.1 a.0.0 a.1) (sound_trigger n a.0.1 t.0.1 t.0.0 t.1) (sound_context n t.0.1 e.0.1 e.0.0 e.1) end)

  -- what is read as a clause is one
  pub sound_sentence : (n : ℕ) (xs : List Lexeme) (s : KeptSentence) → sentence_by bs n xs ≡ Some s → Says bs n xs s
  unfolding sentence_by
  sound_sentence n xs s e = go (starts_plan xs) e (after_bang xs) refl
    where
      other : (o : Option (List Lexeme)) → after_bang xs ≡ o → option_map_or (goal_by bs n) o (clause_by bs n xs) ≡ Some s → Says bs n xs s
      other None f e = sound_clause n xs s e
      other (Some us) f e = subst (λ (z : List Lexeme). Says bs n z s) (sym (bang_only xs us f)) (sound_goal n us s e)

      go : (b : Bool) → cond b (plan_by bs n xs) (option_map_or (goal_by bs n) (after_bang xs) (clause_by bs n xs)) ≡ Some s → (o : Option (List Lexeme)) → after_bang xs ≡ o → Says bs n xs s
      go true e o f = sound_plan n xs s e
      go false e o f = other (after_bang xs) refl e
