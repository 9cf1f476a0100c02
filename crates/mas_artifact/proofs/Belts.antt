-- What the table of a belt decides.
use Rattle.std.proofs.Common.{◌≡◌, ℕ, eqb, eqb-true, length, ltb, Bool, true, false, ◌&&◌, cond, if◌then◌else◌, List, [], ◌∷◌, ◌++◌, map, remove, Option, Some, None, refl, ap, sym, ◌∙◌, subst, codes, arith}
use Rattle.std.specs.Option.{option_or}
use Rattle.std.specs.Prelude.{Result, Ok, Err, IfOk, OnErr}
use Rattle.std.specs.Str.{bytes_eq}
use Rattle.std.proofs.lemmas.Bool.{false≢true, le-ltb}
use Rattle.std.proofs.lemmas.Slice.Eq.{bytes_eq-Decides}
use Rattle.asl_term.specs.declared.sequence.Starved.{Starved}
use Rattle.asl_term.specs.declared.syntax.LiteralOf.{LiteralOf}
use Rattle.asl_term.specs.declared.syntax.Term.{Term}
use Rattle.asl_term.specs.declared.syntax.Term.TheVariants as term
use Rattle.asl_term.specs.Exprs.{is_ground_literal}
use Rattle.asl_term.specs.Trees.{is_ground}
use Rattle.asl_unify.specs.Compare.{same_frame, same_sign}
use Rattle.asl_unify.specs.Puts.{put}
use Rattle.mas_mind.specs.declared.mind.Feedback.{Feedback}
use Rattle.mas_mind.specs.declared.mind.Feedback.TheVariants.{Done, Failed as NotDone}
use Rattle.mas_world.specs.declared.facts.Deed.{Deed}
use Rattle.mas_world.specs.Acts.{decided, tried}
use Rattle.mas_world.specs.Worlds.{Segment, after, segment, segment_acted}
use Rattle.mas_artifact.specs.Tables.{belt, belt_put, belt_table, belt_take, list, list_before, variable}
use Rattle.mas_artifact.specs.States.{AreKept, belt_acted, belt_facts, changed, lifted, moved, placed, row, stands_first}
use Rattle.mas_artifact.proofs.Entries.{called, unheard}
use Rattle.mas_artifact.proofs.Exchanges.{exchange, replaced}
use Rattle.mas_artifact.proofs.Grounds.{ground_arg}
use Rattle.mas_artifact.proofs.Liftings.{lifted_deed, take_tried}
use Rattle.mas_artifact.proofs.Orders.{same_number}
use Rattle.mas_artifact.proofs.Placings.{exchanged, made_kept, placed_row, put_tried}
use Rattle.mas_artifact.proofs.Rows.{settled_row, tail_kept}

abbrev pub puts : LiteralOf Term
puts = called (codes "belt_put") (codes "X")

abbrev pub takes : LiteralOf Term
takes = called (codes "belt_take") (codes "P")

abbrev after_deed : List Term → Option Deed → Feedback × Segment
after_deed items d = after (segment belt_table (belt_facts items)) d

-- the segment of what the native state becomes
abbrev seen : Feedback × List Term → Feedback × Segment
seen r = (r.0, segment belt_table (belt_facts r.1))

-- ---- frames

-- no action is both
apart_names : (x : List ℕ) → bytes_eq (codes "belt_put") x ≡ true → bytes_eq (codes "belt_take") x ≡ false
apart_names x e = ap (bytes_eq (codes "belt_take")) (sym ((bytes_eq-Decides (codes "belt_put") x).0 e))

not_both : (action : LiteralOf Term) → same_frame puts action ≡ true → same_frame takes action ≡ false
not_both action e = go action.neg (bytes_eq (codes "belt_put") action.functor) (bytes_eq (codes "belt_take") action.functor) (eqb 1 (length action.args)) e (apart_names action.functor) where
  go : (neg a b c : Bool) → (same_sign false neg && a && c) ≡ true → (a ≡ true → b ≡ false) → (same_sign false neg && b && c) ≡ false
  go true a b c e f = cc
  go false false b c e f = cc
  go false true b c e f = ap (λ z. z && c) (f refl)

-- one argument
frame_length : (f v : List ℕ) (action : LiteralOf Term) → same_frame (called f v) action ≡ true → 1 ≡ length action.args
frame_length f v action e = eqb-true 1 (length action.args) (last (same_sign false action.neg) (bytes_eq f action.functor) (eqb 1 (length action.args)) e) where
  last : (p q r : Bool) → (p && q && r) ≡ true → r ≡ true
  last true true r e = e
  last true false r e = absurd (false≢true e)
  last false q r e = absurd (false≢true e)

none_more : (t : Term) (more : List Term) → 1 ≡ length (t ∷ more) → more ≡ []
none_more t [] e = refl
none_more t (u ∷ more) e = absurd (omega (arith, e))

only_one : (f v : List ℕ) (action : LiteralOf Term) (t : Term) (more : List Term) → action.args ≡ t ∷ more → same_frame (called f v) action ≡ true → action.args ≡ t ∷ []
only_one f v action t more e h = e ∙ ap (λ z. t ∷ z) (none_more t more (frame_length f v action h ∙ ap length e))

-- ---- the five acts

abbrev p : List (List ℕ)
p = codes "P" ∷ []

abbrev pq : List (List ℕ)
pq = codes "P" ∷ codes "Q" ∷ []

abbrev pqr : List (List ℕ)
pqr = codes "P" ∷ codes "Q" ∷ codes "R" ∷ []

-- the first of the acts with as many places
abbrev by_number : Option Deed → List Term → Option Deed
by_number d items =
    option_or (cond (same_number [] items) d None)
    (option_or (cond (same_number p items) d None) (option_or (cond (same_number pq items) d None) (option_or (cond (same_number pqr items) d None) None)))

fewer : (d : Option Deed) (items : List Term) → by_number d items ≡ cond (ltb (length items) 4) d None
fewer None [] = refl
fewer None (a ∷ []) = refl
fewer None (a ∷ b ∷ []) = refl
fewer None (a ∷ b ∷ c ∷ []) = refl
fewer (Some d) [] = refl
fewer (Some d) (a ∷ []) = refl
fewer (Some d) (a ∷ b ∷ []) = refl
fewer (Some d) (a ∷ b ∷ c ∷ []) = refl
fewer d (a ∷ b ∷ c ∷ e ∷ more) = sym (ap (λ z. cond z d None) (le-ltb (length (a ∷ b ∷ c ∷ e ∷ more)) 4 (omega arith)))

module _ (agent : List ℕ) (items : List Term) (k : AreKept items) (action : LiteralOf Term) where
  take_unheard : same_frame takes action ≡ false → tried (belt_facts items) belt_take agent action ≡ None
  take_unheard f = unheard (belt_facts items) (codes "belt_take") (codes "P") (belt (list_before (variable (codes "P")) (variable (codes "L")))) (belt (variable (codes "L"))) agent action f

  put_decides : (t : Term) → is_ground t ≡ true → action.args ≡ t ∷ [] → same_frame puts action ≡ true
      → decided (belt_facts items) belt_table agent action ≡ cond (ltb (length items) 4) (exchanged items (row (items ++ t ∷ []))) None
  put_decides t g e f =
      let taken = take_unheard (not_both action f) in
      let d = exchanged items (settled_row (items ++ put term.Var t ∷ [])) in
      (λ i. option_or (put_tried agent t g items k [] (omega arith) tt tt action e f i)
      (option_or (put_tried agent t g items k p (omega arith) (refl, tt) (refl, λ a. tt) action e f i)
      (option_or (put_tried agent t g items k pq (omega arith) (refl, (refl, tt)) (refl, λ a. (refl, λ b. tt)) action e f i)
      (option_or (put_tried agent t g items k pqr (omega arith) (refl, (refl, (refl, tt))) (refl, λ a. (refl, λ b. (refl, λ c. tt))) action e f i)
      (option_or (taken i) None)))))
      ∙ fewer d items
      ∙ ap (λ z. cond (ltb (length items) 4) (exchanged items z) None) (sym (placed_row agent t g items k [] (omega arith) tt tt))

  put_unheard : (vs : List (List ℕ)) → same_frame puts action ≡ false → tried (belt_facts items) (belt_put vs) agent action ≡ None
  put_unheard vs f = unheard (belt_facts items) (codes "belt_put") (codes "X") (belt (list (map variable vs))) (belt (list (map variable vs ++ variable (codes "X") ∷ []))) agent action f

  others : same_frame puts action ≡ false → decided (belt_facts items) belt_table agent action ≡ option_or (tried (belt_facts items) belt_take agent action) None
  others f = λ i. option_or (put_unheard [] f i) (option_or (put_unheard p f i) (option_or (put_unheard pq f i) (option_or (put_unheard pqr f i) (option_or (tried (belt_facts items) belt_take agent action) None))))

  none_taken : (o : Option Deed) → o ≡ None → option_or o None ≡ None
  none_taken None e = refl
  none_taken (Some d) e = cc

  take_decides : (t : Term) → is_ground t ≡ true → action.args ≡ t ∷ [] → same_frame puts action ≡ false → same_frame takes action ≡ true
      → decided (belt_facts items) belt_table agent action ≡ option_or (lifted_deed t items) None
  take_decides t g e f h = others f ∙ ap (λ z. option_or z None) (take_tried agent t g items k action e h)

  none_decides : same_frame puts action ≡ false → same_frame takes action ≡ false → decided (belt_facts items) belt_table agent action ≡ None
  none_decides f h = others f ∙ none_taken (tried (belt_facts items) belt_take agent action) (take_unheard h)

-- ---- the whole table

put_seen : (items : List Term) (b : Bool) (o : Option (List Term)) → after_deed items (cond b (exchanged items o) None) ≡ seen (if b then changed items o else (NotDone, items))
put_seen items true None = refl
put_seen items true (Some new) = ap (λ fs. (Done, segment belt_table fs)) (replaced (belt (list items)) (belt (list new)))
put_seen items false o = refl

take_seen : (items : List Term) (t : Term) → after_deed items (option_or (lifted_deed t items) None) ≡ seen (lifted items t)
take_seen [] t = refl
take_seen (x ∷ xs) t = go (stands_first t (x ∷ xs)) where
  go : (b : Bool) → after_deed (x ∷ xs) (option_or (cond b (Some (exchange (belt (list (x ∷ xs))) (belt (list xs)))) None) None) ≡ seen (if b then (Done, remove (x ∷ xs) 0) else (NotDone, x ∷ xs))
  go true = ap (λ fs. (Done, segment belt_table fs)) (replaced (belt (list (x ∷ xs))) (belt (list xs)))
  go false = refl

no_call : (f v : List ℕ) (action : LiteralOf Term) → action.args ≡ [] → (b : Bool) → same_frame (called f v) action ≡ b → b ≡ false
no_call f v action e false h = refl
no_call f v action e true h = let l = frame_length f v action h in let n = ap length e in absurd (omega (arith, l, n))

-- what a belt's table does, by its native state
pub belt_acts : (items : List Term) (agent : List ℕ) (action : LiteralOf Term) → AreKept items → is_ground_literal action ≡ true
    → segment_acted (segment belt_table (belt_facts items)) agent action ≡ seen (belt_acted items action)
belt_acts items agent action k g = go action.args refl where
  by_frames : (t : Term) (more : List Term) → action.args ≡ t ∷ more → (a b : Bool) → same_frame puts action ≡ a → same_frame takes action ≡ b
      → segment_acted (segment belt_table (belt_facts items)) agent action ≡ seen (if a then placed items t else (if b then lifted items t else (NotDone, items)))
  by_frames t more e true b f h =
      let one = only_one (codes "belt_put") (codes "X") action t more e f in
      ap (after_deed items) (put_decides agent items k action t (ground_arg action t one g) one f) ∙ put_seen items (ltb (length items) 4) (row (items ++ t ∷ []))
  by_frames t more e false true f h =
      let one = only_one (codes "belt_take") (codes "P") action t more e h in
      ap (after_deed items) (take_decides agent items k action t (ground_arg action t one g) one f h) ∙ take_seen items t
  by_frames t more e false false f h = ap (after_deed items) (none_decides agent items k action f h)

  go : (args : List Term) → action.args ≡ args → segment_acted (segment belt_table (belt_facts items)) agent action ≡ seen (belt_acted items action)
  go [] e =
      ap (after_deed items) (none_decides agent items k action (no_call (codes "belt_put") (codes "X") action e (same_frame puts action) refl) (no_call (codes "belt_take") (codes "P") action e (same_frame takes action) refl))
      ∙ sym (ap (λ z. seen (moved items action z)) e)
  go (t ∷ more) e = by_frames t more e (same_frame puts action) (same_frame takes action) refl refl ∙ sym (ap (λ z. seen (moved items action z)) e)

-- ---- what stays kept

abbrev LeavesKept : Feedback × List Term → Type 0
LeavesKept r = AreKept r.1

put_keeps : (items : List Term) (t : Term) → AreKept items → is_ground t ≡ true → LeavesKept (placed items t)
put_keeps items t k g = go (ltb (length items) 4) (row (items ++ t ∷ [])) refl where
  go : (b : Bool) (o : Option (List Term)) → row (items ++ t ∷ []) ≡ o → LeavesKept (if b then changed items o else (NotDone, items))
  go true None e = k
  go true (Some new) e = made_kept [] t g items k [] (omega arith) tt tt new (sym (placed_row [] t g items k [] (omega arith) tt tt) ∙ e)
  go false o e = k

take_keeps : (items : List Term) (t : Term) → AreKept items → LeavesKept (lifted items t)
take_keeps [] t k = k
take_keeps (x ∷ xs) t k = go (stands_first t (x ∷ xs)) where
  go : (b : Bool) → LeavesKept (if b then (Done, remove (x ∷ xs) 0) else (NotDone, x ∷ xs))
  go true = tail_kept x xs k
  go false = k

acted_keeps : (items : List Term) (action : LiteralOf Term) → AreKept items → is_ground_literal action ≡ true → LeavesKept (belt_acted items action)
acted_keeps items action k g = go action.args refl where
  by_frames : (t : Term) (more : List Term) → action.args ≡ t ∷ more → (a b : Bool) → same_frame puts action ≡ a → LeavesKept (if a then placed items t else (if b then lifted items t else (NotDone, items)))
  by_frames t more e true b f = put_keeps items t k (ground_arg action t (only_one (codes "belt_put") (codes "X") action t more e f) g)
  by_frames t more e false true f = take_keeps items t k
  by_frames t more e false false f = k

  go : (args : List Term) → action.args ≡ args → LeavesKept (moved items action args)
  go [] e = k
  go (t ∷ more) e = by_frames t more e (same_frame puts action) (same_frame takes action) refl

-- ---- what the code does

pub belt_does : (items new : List Term) (r : Result Feedback Starved) (agent : List ℕ) (action : LiteralOf Term) → AreKept items → is_ground_literal action ≡ true
    → IfOk r (λ f. (f, new) ≡ belt_acted items action)
    → IfOk r (λ f. (f, segment belt_table (belt_facts new)) ≡ segment_acted (segment belt_table (belt_facts items)) agent action)
belt_does items new (Ok f) agent action k g e = ap seen e ∙ sym (belt_acts items agent action k g)
belt_does items new (Err f) agent action k g e = e

pub belt_keeps : (items new : List Term) (f : Feedback) (action : LiteralOf Term) → AreKept items → is_ground_literal action ≡ true → (f, new) ≡ belt_acted items action → AreKept new
belt_keeps items new f action k g e = subst LeavesKept (sym e) (acted_keeps items action k g)

pub belt_stays : (items new : List Term) (r : Result Feedback Starved) (action : LiteralOf Term) → AreKept items → is_ground_literal action ≡ true
    → IfOk r (λ f. (f, new) ≡ belt_acted items action) → OnErr r (new ≡ items) → AreKept new
belt_stays items new (Ok f) action k g e o = belt_keeps items new f action k g e
belt_stays items new (Err x) action k g e o = subst AreKept (sym o) k

module _ (items : List Term) (action : LiteralOf Term) (t : Term) (more : List Term) (e : action.args ≡ t ∷ more) where
  abbrev by_both : Bool → Bool → Feedback × List Term
  by_both a b = if a then placed items t else (if b then lifted items t else (NotDone, items))

  moves : (a b : Bool) → same_frame puts action ≡ a → same_frame takes action ≡ b → by_both a b ≡ belt_acted items action
  moves a b f h = sym (ap (moved items action) e ∙ (λ i. by_both (f i) (h i)))

  pub acted_put : (new : List Term) (r : Result Feedback Starved) → same_frame puts action ≡ true → IfOk r (λ f. (f, new) ≡ placed items t) → IfOk r (λ f. (f, new) ≡ belt_acted items action)
  acted_put new (Ok x) f d = d ∙ moves true (same_frame takes action) f refl
  acted_put new (Err x) f d = d

  pub acted_take : (new : List Term) (r : Result Feedback Starved) → same_frame puts action ≡ false → same_frame takes action ≡ true → IfOk r (λ f. (f, new) ≡ lifted items t)
      → IfOk r (λ f. (f, new) ≡ belt_acted items action)
  acted_take new (Ok x) f h d = d ∙ moves false true f h
  acted_take new (Err x) f h d = d

  pub acted_none : same_frame puts action ≡ false → same_frame takes action ≡ false → (NotDone, items) ≡ belt_acted items action
  acted_none f h = moves false false f h
