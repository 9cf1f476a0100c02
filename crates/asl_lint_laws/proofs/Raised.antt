-- A plan that is relevant for an event stays so under each later number.
use Rattle.std.proofs.Common.{zero, suc, ◌+◌, ◌≡◌, ◌==◌, ◌<◌, ℕ, eqb, Bool, true, false, ◌&&◌, cond, if◌then◌else◌, get_or, List, [], ◌∷◌, map, length, slice_get, refl, sym, ap, ◌∙◌, subst, arith}
use Rattle.std.proofs.lemmas.Bool.{eq-eqb, eqb-true}
use Rattle.std.specs.List.{AllByRecursion, Contains, flat_map}
use Rattle.std.specs.Str.{bytes_eq}
use Rattle.asl_term.specs.declared.syntax.Var.{Var}
use Rattle.asl_term.specs.declared.syntax.LiteralOf.{LiteralOf}
use Rattle.asl_term.specs.declared.syntax.Plan.{Plan}
use Rattle.asl_term.specs.declared.syntax.Term.{Term}
use Rattle.asl_term.specs.declared.syntax.Term.TheVariants as term
use Rattle.asl_term.specs.declared.syntax.Trigger.{Trigger}
use Rattle.asl_unify.specs.declared.subst.Pair.{Pair}
use Rattle.asl_unify.specs.Puts.{put, value_of, IsSubst}
use Rattle.asl_unify.specs.Compare.{Question, ask, asks, Outcome, Unified, Failed, Leads, same_sign, same_frame}
use Rattle.asl_unify.specs.Unified.{unified}
use Rattle.asl_unify.specs.Unifiers.{AreTidy, IsTidySubst, IsMatch}
use Rattle.asl_unify.specs.Renamed.{numbered, renamed, renamed_literal}
use Rattle.asl_unify.specs.Matches.{on_unified, annots, matches}
use Rattle.asl_unify.proofs.Agree.{put-agree}
use Rattle.asl_unify.proofs.Answers.{Answers, of_asks, to_asks}
use Rattle.asl_unify.proofs.General.{and_true, flat-value}
use Rattle.asl_unify.proofs.Laws.{Flat, FlatValues, Solves}
use Rattle.asl_unify.proofs.Matched.{matches-general}
use Rattle.asl_unify.proofs.Unified.{unified_leads, unified_reaches}
use Rattle.asl_plans.specs.declared.entry.OwnedPlan.{OwnedPlan}
use Rattle.asl_plans.specs.declared.library.Choice.{Choice}
use Rattle.asl_plans.specs.Plans.{alike, ways, kept, relevant_from, relevant}
use Rattle.asl_lint.specs.Instances.{AreMerged}
use Rattle.asl_lint_laws.specs.Written.{AllVars, IsWritten, IsFresh, IsApart}
use Rattle.asl_lint_laws.specs.Served.{SomeEntry, here, further, HasWritten, AreSource, IsSome, RelevanceStays}
use Rattle.asl_unify.proofs.Failing.{fails, leads-tidy}
use Rattle.asl_lint_laws.proofs.Fresh.{Tidy, vars-tidy, flat_is_tidy, flats_are_tidy}
use Rattle.asl_lint_laws.proofs.Varied.{put-vars}
use Rattle.asl_lint_laws.proofs.Matching.{Has, asks-tidy, has_front, has_back, written_tidy, frame_renamed}
use Rattle.asl_lint_laws.proofs.Relevant.{some_relevant}

-- ---- values for another number

abbrev older : ℕ → Var → Var
older n y = record y { number = n }

-- the values of variables with the number n for those with the number m
abbrev shift : ℕ → ℕ → (Var → Term) → Var → Term
shift n m a y = cond (eqb y.number m) (a (older n y)) (a y)

flat_shift : (n m : ℕ) (a : Var → Term) → FlatValues a → FlatValues (shift n m a)
flat_shift n m a f y = go (eqb y.number m) where
  go : (b : Bool) → Flat (cond b (a (older n y)) (a y))
  go true = f (older n y)
  go false = f y

at_zero : (n : ℕ) (x : Var) → x.number ≡ 0 → numbered n x ≡ older n x
at_zero n x e = ap (λ k. if k == 0 then older n x else x) e

shift_at : (n m : ℕ) (a : Var → Term) (x : Var) → x.number ≡ 0 → shift n m a (numbered m x) ≡ a (numbered n x)
shift_at n m a x e =
    ap (shift n m a) (at_zero m x e) ∙ ap (λ b. cond b (a (older n x)) (a (older m x))) (eq-eqb m m refl) ∙ ap a (sym (at_zero n x e))

put_shift : (n m : ℕ) (a : Var → Term) (t : Term) → AllVars (λ x. x.number ≡ 0) t → put (shift n m a) (renamed m t) ≡ put a (renamed n t)
put_shift n m a t z =
    put-vars (shift n m a) (numbered m) t
    ∙ put-agree (λ x. shift n m a (numbered m x)) (λ x. a (numbered n x)) t (λ x o. shift_at n m a x (z x o))
    ∙ sym (put-vars a (numbered n) t)

shift_other : (n m : ℕ) (a : Var → Term) (y : Var) → (y.number ≡ m → ⊥) → shift n m a y ≡ a y
shift_other n m a y f = go (eqb y.number m) refl where
  go : (b : Bool) → eqb y.number m ≡ b → cond b (a (older n y)) (a y) ≡ a y
  go true e = absurd (f (eqb-true y.number m e))
  go false e = refl

put_stays : (n m : ℕ) (a : Var → Term) (t : Term) → IsFresh m t → put (shift n m a) t ≡ put a t
put_stays n m a t f = put-agree (shift n m a) a t (λ x o. shift_other n m a x (f x o))

all_shift : (n m : ℕ) (a : Var → Term) (hs : List Term) → AllByRecursion IsWritten hs → map (put (shift n m a)) (map (renamed m) hs) ≡ map (put a) (map (renamed n) hs)
all_shift n m a [] w = refl
all_shift n m a (h ∷ hs) w = let one = put_shift n m a h w.0.unnumbered in let more = all_shift n m a hs w.1 in (λ i. one i ∷ more i)

all_stay : (n m : ℕ) (a : Var → Term) (gs : List Term) → AllByRecursion (IsFresh m) gs → map (put (shift n m a)) gs ≡ map (put a) gs
all_stay n m a [] f = refl
all_stay n m a (g ∷ gs) f = let one = put_stays n m a g f.0 in let more = all_stay n m a gs f.1 in (λ i. one i ∷ more i)

-- ---- what is contained

held_at : (P : Term → Type 0) (x : Term) (xs : List Term) (k : ℕ) → k < length xs → get_or xs k x ≡ x → AllByRecursion P xs → P x
held_at P x [] k l e a = absurd (omega (arith, l))
held_at P x (y ∷ ys) zero l e a = subst P e a.0
held_at P x (y ∷ ys) (suc k) l e a = held_at P x ys k (omega (arith, l)) e a.1

all_held : (P : Term → Type 0) (held choice : List Term) → AllByRecursion (Contains held) choice → AllByRecursion P held → AllByRecursion P choice
all_held P held [] c a = tt
all_held P held (x ∷ xs) c a = (held_at P x held c.0.0 c.0.1 c.0.2 a, all_held P held xs c.1 a)

flat_has : (f : Term → List (List Pair)) (x : Term) (xs : List Term) (k : ℕ) → k < length xs → get_or xs k x ≡ x → Has (f x) → Has (flat_map f xs)
flat_has f x [] k l e h = absurd (omega (arith, l))
flat_has f x (y ∷ ys) zero l e h = has_front (f y) (flat_map f ys) (subst (λ z. Has (f z)) (sym e) h)
flat_has f x (y ∷ ys) (suc k) l e h = has_back (f y) (flat_map f ys) (flat_has f x ys k (omega (arith, l)) e h)

tidy_each : (ts : List Term) → AreMerged ts → AllByRecursion Tidy ts
tidy_each [] e = tt
tidy_each (t ∷ ts) e =
    let one : put term.Var t ≡ t = cc in
    let more : AreMerged ts = cc in (flat_is_tidy t one, tidy_each ts more)

-- ---- annotations

module _ (h : Var → Term) (f : FlatValues h) (held : List Term) where
  annots_some : (ps choice : List Term) (t : List Pair) → IsSubst t → IsTidySubst t → Solves h t → AllByRecursion Tidy ps → AllByRecursion Tidy choice
      → AllByRecursion (Contains held) choice → map (put h) ps ≡ map (put h) choice → Has (annots ps held t)
  annots_some [] choice t i d s a b c e = tt
  annots_some (p ∷ ps) [] t i d s a b c e = cc
  annots_some (p ∷ ps) (x ∷ xs) t i d s a b c e =
      let one : put h p ≡ put h x = cc in
      let more : map (put h) ps ≡ map (put h) xs = cc in
      flat_has (λ q. on_unified (annots ps held) (unified t (ask p q ∷ []))) x held c.0.0 c.0.1 c.0.2
      (go (unified t (ask p x ∷ [])) refl one (λ r j k l. annots_some ps xs r j k l a.1 b.1 c.1 more)) where
        go : (o : Outcome) → unified t (ask p x ∷ []) ≡ o → put h p ≡ put h x → ((r : List Pair) → IsSubst r → IsTidySubst r → Solves h r → Has (annots ps held r))
            → Has (on_unified (annots ps held) o)
        go (Failed g) w one rest = absurd (fails (subst (Leads (ask p x ∷ []) t 0) w (unified_leads t (ask p x ∷ []) i)) i ((a.0, b.0), tt) d h f s (one, tt))
        go (Unified r) w one rest =
            let m = unified_reaches t r (ask p x ∷ []) i w in
            rest r m.sound (leads-tidy (subst (Leads (ask p x ∷ []) t 0) w (unified_leads t (ask p x ∷ []) i)) i ((a.0, b.0), tt) d) (m.forth h f s (one, tt))

-- ---- a match

record Found (P : List Pair → Type 0) : Type 0 where
  subst_of : List Pair
  is : P subst_of

first_found : (P : List Pair → Type 0) (xs : List (List Pair)) → Has xs → AllByRecursion P xs → Found P
first_found P [] h a = absurd h
first_found P (x ∷ xs) h a = record { subst_of = x; is = a.0 }

same_lengths : (h g : LiteralOf Term) → same_frame h g ≡ true → length h.args ≡ length g.args
same_lengths h g e = eqb-true (length h.args) (length g.args) (and_true (same_sign h.neg g.neg && bytes_eq h.functor g.functor) _ e).1

tidy_written : (m : ℕ) (hs : List Term) → AllByRecursion IsWritten hs → AllByRecursion Tidy (map (renamed m) hs)
tidy_written m [] a = tt
tidy_written m (h ∷ hs) a = (vars-tidy (numbered m) h ∙ a.0.tidy, tidy_written m hs a.1)

module _ (n m : ℕ) (h g : LiteralOf Term) (args : AllByRecursion IsWritten h.args) (notes : AllByRecursion IsWritten h.annots) (o : IsApart m g) where
  abbrev asked : List Question
  asked = asks (map (renamed m) h.args) g.args []

  tidy : AreTidy asked
  tidy = asks-tidy (map (renamed m) h.args) g.args [] (written_tidy m h.args args) (flats_are_tidy g.args o.merged_args) tt

  matched : (s : List Pair) → IsMatch (renamed_literal n h) g [] s → Has (matches (renamed_literal m h) g [])
  matched s r =
      let a = value_of s in
      let k = shift n m a in
      let flat : FlatValues k = flat_shift n m a (flat-value s) in
      let frame = sym (frame_renamed n h g) ∙ r.0 in
      let both = of_asks a (map (renamed n) h.args) g.args (asks (map (renamed n) h.annots) r.1 []) (same_lengths (renamed_literal n h) g r.0) r.3.unifies in
      let last = of_asks a (map (renamed n) h.annots) r.1 [] (sym r.2.0) both.1 in
      let first : map (put k) (map (renamed m) h.args) ≡ map (put k) g.args = all_shift n m a h.args args ∙ both.0 ∙ sym (all_stay n m a g.args o.args) in
      let choice_fresh = all_held (IsFresh m) g.annots r.1 r.2.1 o.annots in
      let second : map (put k) (map (renamed m) h.annots) ≡ map (put k) r.1 = all_shift n m a h.annots notes ∙ last.0 ∙ sym (all_stay n m a r.1 choice_fresh) in
      let choice_tidy = all_held Tidy g.annots r.1 r.2.1 (tidy_each g.annots o.merged_annots) in
      subst (λ b. Has (cond b (on_unified (annots (map (renamed m) h.annots) g.annots) (unified [] asked)) [])) (sym (frame_renamed m h g ∙ frame))
      (go k flat (to_asks k (map (renamed m) h.args) g.args [] first tt) r.1 choice_tidy r.2.1 second (unified [] asked) refl) where
        go : (k : Var → Term) → FlatValues k → Answers k asked → (choice : List Term) → AllByRecursion Tidy choice → AllByRecursion (Contains g.annots) choice
            → map (put k) (map (renamed m) h.annots) ≡ map (put k) choice → (x : Outcome) → unified [] asked ≡ x
            → Has (on_unified (annots (map (renamed m) h.annots) g.annots) x)
        go k flat answers choice b c same (Failed f) e = absurd (fails (subst (Leads asked [] 0) e (unified_leads [] asked tt)) tt tidy tt k flat tt answers)
        go k flat answers choice b c same (Unified t) e =
            let q = unified_reaches [] t asked tt e in
            annots_some k flat g.annots (map (renamed m) h.annots) choice t q.sound
            (leads-tidy (subst (Leads asked [] 0) e (unified_leads [] asked tt)) tt tidy tt) (q.forth k flat tt answers) (tidy_written m h.annots notes) b c same

  pub match_stays : Has (matches (renamed_literal n h) g []) → Has (matches (renamed_literal m h) g [])
  match_stays x =
      let r = first_found (IsMatch (renamed_literal n h) g []) (matches (renamed_literal n h) g []) x (matches-general (renamed_literal n h) g [] tt) in
      matched r.subst_of r.is

-- ---- plans

kept_some : (k : ℕ) (ws : List (List Pair)) (P : Type 0) (more : List Choice) → IsSome (kept k (slice_get ws 0) more) → (Has ws → P) → (IsSome more → P) → P
kept_some k [] P more s f g = g s
kept_some k (w ∷ ws) P more s f g = f tt

-- a plan whose trigger matches, where some plan is relevant
some_way : (k n : ℕ) (plans : List OwnedPlan) (event : Trigger) → IsSome (relevant_from k plans n event) → SomeEntry (λ e. Has (ways n e.plan.trigger event)) plans
some_way k n [] event s = absurd s
some_way k n (p ∷ ps) event s =
    kept_some k (ways n p.plan.trigger event) (SomeEntry (λ e. Has (ways n e.plan.trigger event)) (p ∷ ps)) (relevant_from (k + 1) ps n event) s
    (λ h. here h) (λ r. further (some_way (k + 1) n ps event r))

way_stays : (n m : ℕ) (p : Plan) (event : Trigger) → HasWritten p → IsApart m event.lit → Has (ways n p.trigger event) → Has (ways m p.trigger event)
way_stays n m p event w o = go (alike p.trigger event) where
  go : (b : Bool) → Has (if b then matches (renamed_literal n p.trigger.lit) event.lit [] else []) → Has (if b then matches (renamed_literal m p.trigger.lit) event.lit [] else [])
  go true h = match_stays n m p.trigger.lit event.lit w.args w.annots o h
  go false h = h

some_stays : (n m : ℕ) (event : Trigger) → IsApart m event.lit → (plans : List OwnedPlan) → AreSource plans → SomeEntry (λ e. Has (ways n e.plan.trigger event)) plans
    → SomeEntry (λ e. Has (ways m e.plan.trigger event)) plans
some_stays n m event o [] a s = elim s [ ]
some_stays n m event o (p ∷ ps) a (here h) = here (way_stays n m p.plan event a.0 o h)
some_stays n m event o (p ∷ ps) a (further s) = further (some_stays n m event o ps a.1 s)

-- where some plan is relevant under one number, some is under another that the event does not have
pub relevance_stays : RelevanceStays
relevance_stays plans event n m a o s = some_relevant 0 m plans event (some_stays n m event o plans a (some_way 0 n plans event s))
