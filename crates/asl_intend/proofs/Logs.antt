-- What becomes of the means of a stack.
use Rattle.std.proofs.Common.{◌≡◌, ◌≤◌, ◌<◌, ℕ, ◌+◌, ◌-◌, Bool, true, false, ◌&&◌, ◌||◌, eqb, cond, get_or, slice_set, reverse}
use Rattle.std.proofs.Common.{List, [], ◌∷◌, ◌++◌, map, drop, length, Option, Some, None, is_some, slice_get, refl, sym, ap, ◌∙◌, arith}
use Rattle.std.proofs.Math.Seq.{drop-length}
use Rattle.std.proofs.lemmas.Bool.{false≢true}
use Rattle.std.proofs.lemmas.List.{at_drop_more, length-map, drop-append-le, length-append, reverse-append}
use Rattle.std.specs.List.{AllByRecursion}
use Rattle.std.specs.Option.{option_map}
use Rattle.std.proofs.lemmas.Option.{slice_get-map}
use Rattle.asl_term.specs.declared.syntax.LiteralOf.{LiteralOf}
use Rattle.asl_term.specs.declared.syntax.Var.{Var}
use Rattle.asl_term.specs.declared.syntax.Term.{Term}
use Rattle.asl_term.specs.declared.syntax.Term.TheVariants as term
use Rattle.asl_term.specs.declared.syntax.Formula.{Formula}
use Rattle.asl_term.specs.declared.syntax.Trigger.{Trigger}
use Rattle.asl_unify.specs.declared.subst.Pair.{Pair}
use Rattle.std.specs.Str.{bytes_eq}
use Rattle.asl_term.specs.declared.syntax.Kind.{Kind}
use Rattle.asl_term.specs.declared.syntax.Kind.TheVariants as kind
use Rattle.asl_unify.specs.Compare.{same_sign, same_frame, asks}
use Rattle.asl_unify.specs.Matches.{on_unified, annots, matches}
use Rattle.asl_unify.specs.Unified.{unified}
use Rattle.asl_unify.specs.Puts.{put, value_of}
use Rattle.asl_unify.specs.Applied.{put_literal, put_formula, put_trigger}
use Rattle.asl_unify.specs.Turns.{value_in}
use Rattle.asl_unify.proofs.Twice.{formula-last, trigger-last}
use Rattle.asl_intend.specs.declared.entry.Means.{Means}
use Rattle.asl_intend.specs.declared.entry.First.{First}
use Rattle.asl_intend.specs.declared.entry.StackEntry.{StackEntry}
use Rattle.asl_intend.specs.Means.{applied_means}
use Rattle.asl_intend.specs.Entries as entry
use Rattle.asl_intend.specs.Entries.{seen, seen_first, Since, FirstSince}
use Rattle.asl_intend.specs.Stacks as stacks

pub map_joined : {A B : Type 0} (f : A → B) (xs ys : List A) → map f (xs ++ ys) ≡ map f xs ++ map f ys
map_joined f [] ys = refl
map_joined f (x ∷ xs) ys = ap (λ z. f x ∷ z) (map_joined f xs ys)

module _ (log : List (List Pair)) (s : List Pair) where
  abbrev more : List (List Pair)
  more = log ++ s ∷ []

  formulas_bound : (own : List Pair) (n : ℕ) → n ≤ length log → (fs : List Formula)
      → map (put_formula (value_in own (drop n more))) fs ≡ map (put_formula (value_of s)) (map (put_formula (value_in own (drop n log))) fs)
  formulas_bound own n h [] = refl
  formulas_bound own n h (f ∷ fs) = λ i. (ap (λ l. put_formula (value_in own l) f) (drop-append-le n log (s ∷ []) h)
      ∙ formula-last own (drop n log) s f) i ∷ formulas_bound own n h fs i

  trigger_bound : (own : List Pair) (n : ℕ) → n ≤ length log → (t : Trigger) → put_trigger (value_in own (drop n more)) t ≡ put_trigger (value_of s)
      (put_trigger (value_in own (drop n log)) t)
  trigger_bound own n h t = ap (λ l. put_trigger (value_in own l) t) (drop-append-le n log (s ∷ []) h) ∙ trigger-last own (drop n log) s t

  first_bound : (o : Option First) → FirstSince (length log) o → seen_first more o ≡ map (put_formula (value_of s)) (seen_first log o)
  first_bound None h = refl
  first_bound (Some f) h = formulas_bound [] f.since h (f.formula ∷ [])

  -- one more substitution is bound
  seen_bound : (e : StackEntry) → Since (length log) e → seen more e ≡ applied_means s (seen log e)
  seen_bound e h =
      let first = first_bound e.first h.1 in
      let after = formulas_bound e.own e.since h.0 e.body in
      let trigger = trigger_bound e.own e.since h.0 e.trigger in
      let body = (λ i. first i ++ after i) ∙ sym (map_joined (put_formula (value_of s)) (seen_first log e.first) (map (put_formula (value_in e.own
      (drop e.since log))) e.body)) in
      λ i. record { trigger = trigger i; body = body i }

  pub all_bound : (es : List StackEntry) → AllByRecursion (Since (length log)) es → map (seen more) es ≡ map (applied_means s) (map (seen log) es)
  all_bound [] a = refl
  all_bound (e ∷ es) a = λ i. seen_bound e a.0 i ∷ all_bound es a.1 i

-- the last item of a list

pub last_of : {A : Type 0} (x : A) (xs : List A) → (ys : List A) × (y : A) × (x ∷ xs ≡ ys ++ y ∷ [])
last_of x [] = ([], x, refl)
last_of x (z ∷ zs) = let r = last_of z zs in (x ∷ r.0, r.1, ap (λ l. x ∷ l) r.2)

set_last : {A : Type 0} (ys : List A) (y z : A) → slice_set (ys ++ y ∷ []) (length (ys ++ y ∷ []) - 1) z ≡ ys ++ z ∷ []
set_last ys y z = ap (λ k. slice_set (ys ++ y ∷ []) k z) (let e = length-append ys (y ∷ []) in omega (arith, e)) ∙ go ys where
  go : (ys : List _) → slice_set (ys ++ y ∷ []) (length ys) z ≡ ys ++ z ∷ []
  go [] = refl
  go (x ∷ ys) = ap (λ l. x ∷ l) (go ys)

get_last : {A : Type 0} (ys : List A) (y d : A) → get_or (ys ++ y ∷ []) (length (ys ++ y ∷ []) - 1) d ≡ y
get_last ys y d = ap (λ k. get_or (ys ++ y ∷ []) k d) (let e = length-append ys (y ∷ []) in omega (arith, e)) ∙ go ys where
  go : (ys : List _) → get_or (ys ++ y ∷ []) (length ys) d ≡ y
  go [] = refl
  go (x ∷ ys) = go ys

-- a change of the last entry, as one of the top
pub top_changed : (f : StackEntry → StackEntry) (xs : List StackEntry) (k : ℕ) (d new : StackEntry) → 0 < length xs → k ≡ length xs - 1 → new ≡ f (get_or xs k d)
    → reverse (slice_set xs k new) ≡ entry.on_top f (reverse xs)
top_changed f [] k d new h e g = absurd (omega (arith, h))
top_changed f (x ∷ xs) k d new h e g =
    let r = last_of x xs in
    let old : reverse (x ∷ xs) ≡ r.1 ∷ reverse r.0 = ap reverse r.2 ∙ reverse-append r.0 (r.1 ∷ []) in
    let new_is : new ≡ f r.1 = g ∙ ap (λ j. f (get_or (x ∷ xs) j d)) e ∙ ap (λ l. f (get_or l (length l - 1) d)) r.2 ∙ ap f (get_last r.0 r.1 d) in
    let set : slice_set (x ∷ xs) k new ≡ r.0 ++ new ∷ [] = ap (λ j. slice_set (x ∷ xs) j new) e ∙ ap (λ l. slice_set l (length l - 1) new) r.2
    ∙ set_last r.0 r.1 new in
    ap reverse set ∙ reverse-append r.0 (new ∷ []) ∙ ap (λ z. z ∷ reverse r.0) new_is ∙ ap (entry.on_top f) (sym old)

-- what a stack shows

abbrev pub shown : List (List Pair) → List StackEntry → List Means
shown log es = map (seen log) es

map_drop : {A B : Type 0} (f : A → B) (xs : List A) → drop 1 (map f xs) ≡ map f (drop 1 xs)
map_drop f [] = refl
map_drop f (x ∷ xs) = refl

some_first : {A B : Type 0} (f : A → B) (xs : List A) → is_some (slice_get (map f xs) 0) ≡ is_some (slice_get xs 0)
some_first f [] = refl
some_first f (x ∷ xs) = refl

module _ (log : List (List Pair)) where
  without_by : (e : StackEntry) (o : Option First) → e.first ≡ o → seen log (entry.without_in e o) ≡ stacks.without_first (seen log e)
  without_by e (Some f) p = λ i. record {
    trigger = (seen log e).trigger;
    body = drop 1 (seen_first log (sym p i) ++ map (put_formula
        (value_in e.own (drop e.since log))) e.body);
  }
  without_by e None p =
      let g = put_formula (value_in e.own (drop e.since log)) in
      let now : seen_first log e.first ++ map g e.body ≡ map g e.body = ap (λ o. seen_first log o ++ map g e.body) p in
      let after : seen_first log e.first ++ map g (drop 1 e.body) ≡ map g (drop 1 e.body) = ap (λ o. seen_first log o ++ map g (drop 1 e.body)) p in
      λ i. record { trigger = (seen log e).trigger; body = (after ∙ sym (map_drop g e.body) ∙ ap (drop 1) (sym now)) i }

  seen_without : (e : StackEntry) → seen log (entry.without_first e) ≡ stacks.without_first (seen log e)
  seen_without e = without_by e e.first refl

  has_by : (e : StackEntry) (o : Option First) → e.first ≡ o → (is_some o || is_some (slice_get e.body 0)) ≡ stacks.has_first (seen log e)
  has_by e (Some f) p = ap (λ o. is_some (slice_get (seen_first log o ++ map (put_formula (value_in e.own (drop e.since log))) e.body) 0)) (sym p)
  has_by e None p =
      let g = put_formula (value_in e.own (drop e.since log)) in
      sym (some_first g e.body) ∙ ap (λ o. is_some (slice_get (seen_first log o ++ map g e.body) 0)) (sym p)

  seen_has : (e : StackEntry) → entry.has_first e ≡ stacks.has_first (seen log e)
  seen_has e = has_by e e.first refl

  none_replaced : (f : Formula) (fs : List Formula) → is_some (slice_get fs 0) ≡ false → fs ≡ stacks.replaced f fs
  none_replaced f [] h = refl
  none_replaced f (g ∷ gs) h = absurd (false≢true (sym h))

  some_replaced : (f : Formula) (fs : List Formula) → is_some (slice_get fs 0) ≡ true → f ∷ drop 1 fs ≡ stacks.replaced f fs
  some_replaced f [] h = absurd (false≢true h)
  some_replaced f (g ∷ gs) h = refl

  -- nothing was bound since the formula was put there
  fresh_first : (f : Formula) → put_formula (value_in [] (drop (length log) log)) f ≡ put_formula term.Var f
  fresh_first f = ap (λ l. put_formula (value_in [] l) f) (drop-length log)

  module _ (f : Formula) (e : StackEntry) where
    abbrev g : Formula → Formula
    g = put_formula (value_in e.own (drop e.since log))

    abbrev done : Formula
    done = put_formula term.Var f

    abbrev remade : Option First → StackEntry
    remade o = record (entry.without_in e o) { first = Some (record { formula = f; since = length log }) }

    as_seen : (o : Option First) → e.first ≡ o → stacks.replaced done (seen_first log o ++ map g e.body) ≡ stacks.replaced done (seen log e).body
    as_seen o q = ap (λ z. stacks.replaced done (seen_first log z ++ map g e.body)) (sym q)

    with_some : entry.has_first e ≡ true → (o : Option First) → e.first ≡ o → seen log (remade e.first) ≡ stacks.with_first f (seen log e)
    with_some p (Some x) q =
        ap (λ o. seen log (remade o)) q
        ∙ (λ i. record { trigger = (seen log e).trigger; body = (ap (λ z. z ∷ map g e.body) (fresh_first f) ∙ as_seen (Some x) q) i })
    with_some p None q =
        let has : is_some (slice_get e.body 0) ≡ true = sym (ap (λ o. is_some o || is_some (slice_get e.body 0)) q) ∙ p in
        ap (λ o. seen log (remade o)) q
        ∙ (λ i. record {
          trigger = (seen log e).trigger;
          body = (ap (λ z. z ∷ map g (drop 1 e.body)) (fresh_first f)
              ∙ ap (λ l. done ∷ l) (sym (map_drop g e.body)) ∙ some_replaced done (map g e.body) (some_first g e.body ∙ has) ∙ as_seen None q) i;
        })

  with_by : (f : Formula) (e : StackEntry) (b : Bool) → entry.has_first e ≡ b
      → seen log (cond b (record (entry.without_first e) { first = Some (record { formula = f; since = length log }) }) e) ≡ stacks.with_first f (seen log e)
  with_by f e false p = λ i. record { trigger = (seen log e).trigger; body = none_replaced (put_formula term.Var f) (seen log e).body (sym (seen_has e) ∙ p) i }
  with_by f e true p = with_some f e p e.first refl

  pub shown_without : (es : List StackEntry) → shown log (entry.on_top entry.without_first es) ≡ stacks.without_head (shown log es)
  shown_without [] = refl
  shown_without (e ∷ es) = λ i. seen_without e i ∷ map (seen log) es

  pub shown_has : (es : List StackEntry) → entry.top_has es ≡ stacks.has_head (shown log es)
  shown_has [] = refl
  shown_has (e ∷ es) = seen_has e

  pub shown_with : (f : Formula) (es : List StackEntry) → shown log (entry.on_top (entry.with_first f (length log)) es) ≡ stacks.with_head f (shown log es)
  shown_with f [] = refl
  shown_with f (e ∷ es) = λ i. with_by f e (entry.has_first e) refl i ∷ map (seen log) es

since_in : (n : ℕ) (e : StackEntry) (o : Option First) → Since n e → Since n (entry.without_in e o)
since_in n e (Some f) h = (h.0, tt)
since_in n e None h = h

pub since_without : (n : ℕ) (es : List StackEntry) → AllByRecursion (Since n) es → AllByRecursion (Since n) (entry.on_top entry.without_first es)
since_without n [] a = a
since_without n (e ∷ es) a = (since_in n e e.first a.0, a.1)

pub pushed : (log : List (List Pair)) (xs ys : List StackEntry) (e : StackEntry) → ys ≡ xs ++ e ∷ [] → shown log (reverse ys) ≡ seen log e ∷ shown log (reverse xs)
pushed log xs ys e h = ap (λ l. shown log (reverse l)) h ∙ ap (shown log) (reverse-append xs (e ∷ []))

pub seen_pushed : (log : List (List Pair)) (own : List Pair) (n : ℕ) (m : Means) (body : List Formula) → n ≡ length log → body ≡ m.body
    → seen log (record { trigger = m.trigger; own = own; since = n; first = None; body = body }) ≡ applied_means own m
seen_pushed log own n m body h b =
    let rest = ap (λ k. drop k log) h ∙ drop-length log in
    λ i. record { trigger = put_trigger (value_in own (rest i)) m.trigger; body = map (put_formula (value_in own (rest i))) (b i) }

pub head_shown : (log : List (List Pair)) (xs : List StackEntry) (e : StackEntry) → slice_get xs 0 ≡ Some e → stacks.head (shown log xs) ≡ stacks.first (seen log e)
head_shown log [] e h = cc
head_shown log (x ∷ xs) e h = let same : x ≡ e = cc in ap (λ z. stacks.first (seen log z)) same

pub trigger_shown : (log : List (List Pair)) (xs : List StackEntry) (k : ℕ) (e : StackEntry) → slice_get xs k ≡ Some e
    → stacks.trigger_at (shown log xs) k ≡ Some (seen log e).trigger
trigger_shown log xs k e h = ap (option_map (λ m. m.trigger)) (slice_get-map (seen log) xs k)
    ∙ ap (λ o. option_map (λ m. m.trigger) (option_map (seen log) o)) h

map_reversed : {A B : Type 0} (f : A → B) (xs : List A) → map f (reverse xs) ≡ reverse (map f xs)
map_reversed f [] = refl
map_reversed f (x ∷ xs) =
    ap (map f) (reverse-append (x ∷ []) xs) ∙ map_joined f (reverse xs) (x ∷ []) ∙ ap (λ l. l ++ f x ∷ []) (map_reversed f xs)
    ∙ sym (reverse-append (f x ∷ []) (map f xs))

-- a goal of some means

or_right : (b : Bool) → (b || false) ≡ b
or_right true = refl
or_right false = refl

or_swap : (a b : Bool) → (a || b) ≡ (b || a)
or_swap true true = refl
or_swap true false = refl
or_swap false b = sym (or_right b)

or_join : (a b c : Bool) → ((a || b) || c) ≡ (a || (b || c))
or_join true b c = refl
or_join false b c = refl

frame_put : (g l : LiteralOf Term) (h : Var → Term) → same_frame g (put_literal h l) ≡ same_frame g l
frame_put g l h = ap (λ n. same_sign g.neg l.neg && bytes_eq g.functor l.functor && eqb (length g.args) n) (length-map l.args (put h))

goal_missed : (g l : LiteralOf Term) (h : Var → Term) (add : Bool) (k : Kind) → (add && entry.is_achieve k && same_frame g l) ≡ false
    → stacks.is_goal g add k (put_literal h l) ≡ false
goal_missed g l h false k e = refl
goal_missed g l h true kind.Belief e = refl
goal_missed g l h true kind.Test e = refl
goal_missed g l h true kind.Achieve e =
    ap (λ b. stacks.any_match (cond b (on_unified (annots g.annots (map (put h) l.annots)) (unified [] (asks g.args (map (put h) l.args) []))) []))
    (frame_put g l h ∙ e)

-- where no literal may name it, what becomes of the trigger is not named
pub not_named : (log : List (List Pair)) (e : StackEntry) (g : LiteralOf Term) → entry.can_name g e.trigger ≡ false
    → stacks.names_goal g (seen log e).trigger ≡ false
not_named log e g h = goal_missed g e.trigger.lit (value_in e.own (drop e.since log)) e.trigger.add e.trigger.kind h

match_missed : (g l : LiteralOf Term) (h : Var → Term) (add : Bool) (k : Kind) → (add && entry.is_achieve k && same_frame g l) ≡ false
    → cond (add && entry.is_achieve k) (slice_get (matches g (put_literal h l) []) 0) None ≡ None
match_missed g l h false k e = refl
match_missed g l h true kind.Belief e = refl
match_missed g l h true kind.Test e = refl
match_missed g l h true kind.Achieve e =
    ap (λ b. slice_get (cond b (on_unified (annots g.annots (map (put h) l.annots)) (unified [] (asks g.args (map (put h) l.args) []))) []) 0)
    (frame_put g l h ∙ e)

-- and no match is found
pub not_matched : (log : List (List Pair)) (e : StackEntry) (g : LiteralOf Term) → entry.can_name g e.trigger ≡ false
    → stacks.goal_match g (seen log e).trigger ≡ None
not_matched log e g h = match_missed g e.trigger.lit (value_in e.own (drop e.since log)) e.trigger.add e.trigger.kind h

module _ (g : LiteralOf Term) where
  has_joined : (xs ys : List Means) → stacks.has_goal g (xs ++ ys) ≡ (stacks.has_goal g xs || stacks.has_goal g ys)
  has_joined [] ys = refl
  has_joined (x ∷ xs) ys = ap (λ b. stacks.names_goal g x.trigger || b) (has_joined xs ys)
      ∙ sym (or_join (stacks.names_goal g x.trigger) (stacks.has_goal g xs) (stacks.has_goal g ys))

  has_reversed : (xs : List Means) → stacks.has_goal g (reverse xs) ≡ stacks.has_goal g xs
  has_reversed [] = refl
  has_reversed (x ∷ xs) =
      let one = stacks.names_goal g x.trigger in
      ap (stacks.has_goal g) (reverse-append (x ∷ []) xs) ∙ has_joined (reverse xs) (x ∷ []) ∙ (λ i. has_reversed xs i || or_right one i)
      ∙ or_swap (stacks.has_goal g xs) one

  pub has_shown : (log : List (List Pair)) (es : List StackEntry) → stacks.has_goal g (shown log es) ≡ stacks.has_goal g (shown log (reverse es))
  has_shown log es = sym (has_reversed (shown log es)) ∙ ap (stacks.has_goal g) (sym (map_reversed (seen log) es))

  -- the next entry decides, or the others do
  pub next_names : (log : List (List Pair)) (es : List StackEntry) (k : ℕ) (d u : StackEntry) → k < length es → u ≡ get_or es k d
      → stacks.has_goal g (shown log (drop k es)) ≡ (stacks.names_goal g (seen log u).trigger || stacks.has_goal g (shown log (drop (k + 1) es)))
  next_names log es k d u h e = ap (stacks.has_goal g) (at_drop_more (map (seen log)) es k d h)
      ∙ ap (λ z. stacks.names_goal g (seen log z).trigger || stacks.has_goal g (shown log (drop (k + 1) es))) (sym e)

-- the top, where an entry is there or not

pub top_at : (es : List StackEntry) (e : StackEntry) → slice_get es 0 ≡ Some e → entry.has_first e ≡ entry.top_has es
top_at [] e h = cc
top_at (x ∷ es) e h = let same : x ≡ e = cc in ap entry.has_first (sym same)

pub no_top : (es : List StackEntry) → slice_get es 0 ≡ None → false ≡ entry.top_has es
no_top [] h = refl
no_top (x ∷ es) h = cc

-- a first match tells whether there is one
pub first_is_any : (ss : List (List Pair)) → is_some (slice_get ss 0) ≡ stacks.any_match ss
first_is_any [] = refl
first_is_any (s ∷ ss) = refl

-- the first formula that means show

pub first_put : (log : List (List Pair)) (e : StackEntry) (f : First) → e.first ≡ Some f
    → stacks.first (seen log e) ≡ Some (put_formula (value_in [] (drop f.since log)) f.formula)
first_put log e f h = ap (λ o. slice_get (entry.seen_first log o ++ map (put_formula (value_in e.own (drop e.since log))) e.body) 0) h

pub first_own : (log : List (List Pair)) (e : StackEntry) → e.first ≡ None → stacks.first (seen log e) ≡ entry.first_of_body log e
first_own log e h =
    let f = put_formula (value_in e.own (drop e.since log)) in
    ap (λ o. slice_get (entry.seen_first log o ++ map f e.body) 0) h ∙ slice_get-map f e.body 0
