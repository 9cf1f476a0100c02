-- What holds of numbered minds goes on as more of them come.
use Rattle.std.proofs.Common.{ℕ, zero, suc, ◌≡◌, ◌+◌, ◌<◌, ◌⊎◌, inl, inr, arith, Bool, true, false, not, ◌&&◌, is_some, IfSome, List, [], ◌∷◌, ◌++◌, length, slice_get, Option, None, Some, refl, sym, ◌∙◌, ap, subst}
use Rattle.std.proofs.lemmas.Option.{none-some, same_Some, slice_get_within}
use Rattle.asl_term.specs.declared.syntax.LiteralOf.{LiteralOf}
use Rattle.asl_term.specs.declared.syntax.Term.{Term}
use Rattle.mas_mind.specs.declared.mind.Input.{Input}
use Rattle.mas_mind.specs.declared.mind.Message.{Message}
use Rattle.mas_mind.specs.declared.mind.Thought.{Thought}
use Rattle.mas_mind.specs.Minds.{Cycled, Kind, IsFor, AreLawful, are_ground, is_quiet}
use Rattle.mas_explore_tables.specs.Tables.{IsGrown, HasEntered, Answers, Recalls, HasNoted}
use Rattle.mas_explore_tables.specs.Histories.{all_from, AreLinked, LeadsBack}
use Rattle.mas_explore_tables.specs.declared.history.Link.{Link}
use Rattle.mas_explore_tables.proofs.Entering.{IsNew, get-split}
use Rattle.mas_explore_tables.proofs.Links.{linked_on, last_step, LastStep, IsLinked, values_stay, values_number, values_linked, values_on, same_values}
use Rattle.mas_explore_minds.specs.declared.heard.Heard.{Heard}
use Rattle.mas_explore_minds.specs.declared.heard.Heard.TheVariants.{Given, Told}
use Rattle.mas_explore_minds.specs.declared.heard.Cycle.{Cycle}
use Rattle.mas_explore_minds.specs.declared.heard.Thinking.{Thinking}
use Rattle.mas_explore_minds.specs.declared.heard.Thinking.TheVariants.{Nothing, Led}
use Rattle.mas_explore_minds.specs.declared.minds.Minds.{Minds}
use Rattle.mas_explore_minds.specs.Minds.{or_none, input_at, heard, minds_in, MayThink, May, MayFollow, MayCycle, cycled, is_nothing, LedTo, LeadsTo, ThinksTo, HasThought, Fits, Stay, Grows, HasGrown, HasLinked}

-- ---- none

pub fits_none : {V : Type 0} (k : Kind V) (first : List V) (t : Minds) → t.links ≡ [] → t.cycles.keys ≡ [] → Fits k first t
fits_none k first t e f = record {
  linked = (let P = λ (xs : List (Link Heard)). AreLinked (length first) xs in subst P (sym e) tt);
  each = λ j link g. (let P = λ (xs : List (Link Heard)). slice_get xs j ≡ Some link in absurd (none-some link (subst P e g)));
  known = λ c comes r. (let P = λ (xs : List Cycle). slice_get xs r.place ≡ Some c in absurd (none-some c (subst P f r.key_at)));
}

-- ---- one change

pub stay_same : {X : Type 0} (xs : List X) → Stay xs xs
stay_same xs i x e = e

pub grows_same : {V : Type 0} (k : Kind V) (first : List V) (t : Minds) → Grows k first t t
grows_same k first t = record { sights = λ i x e. e; boxes = λ i x e. e; thoughts = λ i x e. e; minds = λ i x e. e }

pub grows_then : {V : Type 0} (k : Kind V) (first : List V) (s t u : Minds) → Grows k first s t → Grows k first t u → Grows k first s u
grows_then k first s t u h j = record {
  sights = λ i x e. j.sights i x (h.sights i x e);
  boxes = λ i x e. j.boxes i x (h.boxes i x e);
  thoughts = λ i x e. j.thoughts i x (h.thoughts i x e);
  minds = λ i x e. j.minds i x (h.minds i x e);
}

-- what a mind is given stays
module _ (sights sights' : List (List (LiteralOf Term))) (boxes boxes' : List (List Message)) (more-sights : Stay sights sights') (more-boxes : Stay boxes boxes') where
  same_input : {V : Type 0} (k : Kind V) (m : V) (sight front : ℕ) → MayThink k sights boxes m sight front → input_at sights boxes sight front ≡ input_at sights' boxes' sight front
  same_input k m sight front h =
      let e : or_none (slice_get sights sight) ≡ or_none (slice_get sights' sight) = ap or_none (h.sight_at ∙ sym (more-sights sight h.percepts h.sight_at)) in
      let f : or_none (slice_get boxes front) ≡ or_none (slice_get boxes' front) = ap or_none (h.front_at ∙ sym (more-boxes front h.box h.front_at)) in
      λ i. record { percepts = e i; message = slice_get (f i) 0 }

  may_on : {V : Type 0} (k : Kind V) (m : V) (what : Heard) → May k sights boxes m what → May k sights' boxes' m what
  may_on k m (Given sight front) h = record {
    free = h.free;
    short = h.short;
    percepts = h.percepts;
    sight_at = more-sights sight h.percepts h.sight_at;
    ground = h.ground;
    box = h.box;
    front_at = more-boxes front h.box h.front_at;
    sent = h.sent;
  }
  may_on k m (Told feedback) h = h

  same_heard : {V : Type 0} (k : Kind V) (m v : V) (what : Heard) → May k sights boxes m what → heard k sights boxes v what ≡ heard k sights' boxes' v what
  same_heard {V} k m v (Given sight front) h = ap (λ (i : Input). (k.cycle v i).mind) (same_input k m sight front h)
  same_heard k m v (Told feedback) h = refl

module _ {V : Type 0} (k : Kind V) (first : List V) where
  abbrev follow_on : (s t : Minds) (from : ℕ) (what : Heard) → Grows k first s t → MayFollow k first s from what → MayFollow k first t from what
  follow_on s t from what h m = record { before = m.before; at = h.minds from m.before m.at; may = may_on s.sights t.sights s.boxes t.boxes h.sights h.boxes k m.before what m.may }

  leads-on : (s t : Minds) (input : Input) (c : Cycled V) (comes : Thinking) → Grows k first s t → LeadsTo k first s input c comes → LeadsTo k first t input c comes
  leads-on s t input c Nothing h l = l
  leads-on s t input c (Led mind thought) h l = record { some = l.some; mind_at = h.minds mind c.mind l.mind_at; thought_at = h.thoughts thought c.thought l.thought_at }

  pub thinks_on : (s t : Minds) (c : Cycle) (comes : Thinking) → Grows k first s t → ThinksTo k first s c comes → ThinksTo k first t c comes
  thinks_on s t c comes h m =
      let e = same_input s.sights t.sights s.boxes t.boxes h.sights h.boxes k m.may.before c.sight c.front m.may.may in
      let P = λ (i : Input). AreLawful (k.me m.may.before) (k.agents m.may.before) (k.cycle m.may.before i).thought in
      let Q = λ (i : Input). LeadsTo k first t i (k.cycle m.may.before i) comes in
      record {
        may = follow_on s t c.mind (Given c.sight c.front) h m.may;
        lawful = subst P e m.lawful;
        leads = subst Q e (leads-on s t (input_at s.sights s.boxes c.sight c.front) (cycled k s m.may.before c) comes h m.leads);
      }

  -- more percepts and boxes leave the minds
  same_minds : (s t : Minds) → Fits k first s → Stay s.sights t.sights → Stay s.boxes t.boxes → minds_in k first s ≡ all_from (heard k t.sights t.boxes) first s.links
  same_minds s t h a b = same_values (heard k s.sights s.boxes) (heard k t.sights t.boxes) first s.links
      (λ j link v e. (let m = h.each j link e in same_heard s.sights t.sights s.boxes t.boxes a b k m.before v link.what m.may))

  -- ---- tables that grow

  pub entered_stays : {X : Type 0} (xs ys : List X) (x : X) (n : ℕ) → HasEntered xs ys x n → Stay xs ys
  entered_stays xs ys x n h i y e = h.stay i y e

  pub grows_more : (s t : Minds) → Fits k first s → Stay s.sights t.sights → Stay s.boxes t.boxes → Stay s.thoughts t.thoughts → t.links ≡ s.links → Grows k first s t
  grows_more s t h a b c e =
      let P = λ (links : List (Link Heard)). minds_in k first s ≡ all_from (heard k t.sights t.boxes) first links in
      let q : minds_in k first s ≡ minds_in k first t = subst P (sym e) (same_minds s t h a b) in
      let Q = λ (i : ℕ) (v : V) (vs : List V). slice_get vs i ≡ Some v in
      record { sights = a; boxes = b; thoughts = c; minds = λ i v f. subst (Q i v) q f }

  each-same : (s t : Minds) → Fits k first s → Grows k first s t → t.links ≡ s.links → (j : ℕ) (link : Link Heard) → slice_get t.links j ≡ Some link → MayFollow k first t link.from link.what
  each-same s t h g e j link f =
      let P = λ (links : List (Link Heard)). slice_get links j ≡ Some link in
      follow_on s t link.from link.what g (h.each j link (subst P e f))

  -- more percepts, boxes and thoughts
  pub grown_more : (s t : Minds) → Fits k first s → Stay s.sights t.sights → Stay s.boxes t.boxes → Stay s.thoughts t.thoughts → t.links ≡ s.links → t.cycles ≡ s.cycles → HasGrown k first s t
  grown_more s t h a b c e f =
      let g = grows_more s t h a b c e in
      let P = λ (links : List (Link Heard)). AreLinked (length first) links in
      let Q = λ (cycles : Answers Cycle Thinking) (x : Cycle) (r : Thinking). Recalls cycles x r in
      record {
        fits = record {
          linked = subst P (sym e) h.linked;
          each = each-same s t h g e;
          known = λ x r m. thinks_on s t x r g (h.known x r (let R = λ (cycles : Answers Cycle Thinking). Recalls cycles x r in subst R f m));
        };
        grows = g;
      }

  -- one more answer is remembered
  pub grown_noted : (s t : Minds) (c : Cycle) (comes : Thinking) → Fits k first s → ThinksTo k first s c comes → t.sights ≡ s.sights → t.boxes ≡ s.boxes → t.thoughts ≡ s.thoughts → t.links ≡ s.links →
      HasNoted s.cycles t.cycles c comes → HasGrown k first s t
  grown_noted s t c comes h y a b d e n =
      let g : Grows k first s t = grows_more s t h
      (λ i x q. (let P = λ (xs : List (List (LiteralOf Term))). slice_get xs i ≡ Some x in subst P (sym a) q))
      (λ i x q. (let P = λ (xs : List (List Message)). slice_get xs i ≡ Some x in subst P (sym b) q))
      (λ i x q. (let P = λ (xs : List Thought). slice_get xs i ≡ Some x in subst P (sym d) q)) e in
      let P = λ (links : List (Link Heard)). AreLinked (length first) links in
      record {
        fits = record {
          linked = subst P (sym e) h.linked;
          each = each-same s t h g e;
          known = λ x r m. by g x r (n x r m);
        };
        grows = g;
      }
    where
      by : Grows k first s t → (x : Cycle) (r : Thinking) → Recalls s.cycles x r ⊎ ((x ≡ c) × (r ≡ comes)) → ThinksTo k first t x r
      by g x r (inl m) = thinks_on s t x r g (h.known x r m)
      by g x r (inr m) =
          let P = λ (z : Cycle). ThinksTo k first t z comes in
          let Q = λ (z : Thinking). ThinksTo k first t x z in
          subst Q (sym m.1) (subst P (sym m.0) (thinks_on s t c comes g y))

  -- ---- a link

  pub number_of : (s : Minds) → Fits k first s → length (minds_in k first s) ≡ length first + length s.links
  number_of s h = values_number (heard k s.sights s.boxes) first s.links h.linked

  -- the mind at a number that a link names, and the one that it brings
  pub linked_at : (s : Minds) (j : ℕ) (link : Link Heard) → Fits k first s → slice_get s.links j ≡ Some link →
      IsLinked (heard k s.sights s.boxes) (minds_in k first s) link.from (length first + j) link.what
  linked_at s j link h e = values_linked (heard k s.sights s.boxes) first s.links j link h.linked e

  module _ (s t : Minds) (link : Link Heard) (n : ℕ) (h : Fits k first s) (m : MayFollow k first s link.from link.what) (a : t.sights ≡ s.sights) (b : t.boxes ≡ s.boxes) (d : t.thoughts ≡ s.thoughts)
      (f : t.cycles ≡ s.cycles) (entered : HasEntered s.links t.links link n) where
    below : link.from < length first + length s.links
    below = (let l = slice_get_within (minds_in k first s) link.from m.before m.at in let q = number_of s h in omega arith)

    minds-stay : IsGrown s.links t.links link → Stay (minds_in k first s) (minds_in k first t)
    minds-stay (inl e) i v q =
        let P = λ (xs : List (List (LiteralOf Term))) (ys : List (List Message)) (zs : List (Link Heard)). slice_get (all_from (heard k xs ys) first zs) i ≡ Some v in
        subst (λ (zs : List (Link Heard)). P t.sights t.boxes zs) (sym e)
        (subst (λ (ys : List (List Message)). P t.sights ys s.links) (sym b) (subst (λ (xs : List (List (LiteralOf Term))). P xs s.boxes s.links) (sym a) q))
    minds-stay (inr e) i v q =
        let P = λ (xs : List (List (LiteralOf Term))) (ys : List (List Message)) (zs : List (Link Heard)). slice_get (all_from (heard k xs ys) first zs) i ≡ Some v in
        let more = values_on (heard k s.sights s.boxes) first s.links link i v q in
        subst (λ (zs : List (Link Heard)). P t.sights t.boxes zs) (sym e)
        (subst (λ (ys : List (List Message)). P t.sights ys (s.links ++ link ∷ [])) (sym b)
        (subst (λ (xs : List (List (LiteralOf Term))). P xs s.boxes (s.links ++ link ∷ [])) (sym a) more))

    grows-linked : Grows k first s t
    grows-linked = record {
      sights = λ i x q. (let P = λ (xs : List (List (LiteralOf Term))). slice_get xs i ≡ Some x in subst P (sym a) q);
      boxes = λ i x q. (let P = λ (xs : List (List Message)). slice_get xs i ≡ Some x in subst P (sym b) q);
      thoughts = λ i x q. (let P = λ (xs : List Thought). slice_get xs i ≡ Some x in subst P (sym d) q);
      minds = minds-stay entered.grown;
    }

    linked-more : IsGrown s.links t.links link → AreLinked (length first) t.links
    linked-more (inl e) = (let P = λ (xs : List (Link Heard)). AreLinked (length first) xs in subst P (sym e) h.linked)
    linked-more (inr e) = (let P = λ (xs : List (Link Heard)). AreLinked (length first) xs in subst P (sym e) (linked_on (length first) s.links link h.linked below))

    each-more : IsGrown s.links t.links link → (j : ℕ) (l : Link Heard) → slice_get t.links j ≡ Some l → MayFollow k first t l.from l.what
    each-more (inl e) j l q = each-same s t h grows-linked e j l q
    each-more (inr e) j l q =
        let P = λ (links : List (Link Heard)). slice_get links j ≡ Some l in
        by (get-split s.links link l j (subst P e q))
      where
        by : (slice_get s.links j ≡ Some l) ⊎ IsNew s.links link l j → MayFollow k first t l.from l.what
        by (inl w) = follow_on s t l.from l.what grows-linked (h.each j l w)
        by (inr w) = (let Q = λ (x : Link Heard). MayFollow k first t x.from x.what in subst Q (sym w.value) (follow_on s t link.from link.what grows-linked m))

    fits-linked : Fits k first t
    fits-linked = record {
      linked = linked-more entered.grown;
      each = each-more entered.grown;
      known = λ x r q. thinks_on s t x r grows-linked (h.known x r (let R = λ (cycles : Answers Cycle Thinking). Recalls cycles x r in subst R f q));
    }

    pub has_linked : HasLinked k first s t link.from link.what (length first + n)
    has_linked = record {
      grown = record { fits = fits-linked; grows = grows-linked };
      leads = λ before e.
          (let i = linked_at t n link fits-linked entered.at in
          let same : i.before ≡ before = same_Some i.before before (sym i.before_at ∙ grows-linked.minds link.from before e) in
          let P = λ (v : V). slice_get (minds_in k first t) (length first + n) ≡ Some (heard k t.sights t.boxes v link.what) in
          subst P same i.after_at);
    }

  -- ---- a mind that goes through its history again

  -- the mind to which some of the way has led
  pub record StandsAt (s : Minds) (n : ℕ) (places : List ℕ) (m : V) : Type 0 where
    pub number : ℕ
    pub leads : LeadsBack (length first) s.links n places number
    pub at : slice_get (minds_in k first s) number ≡ Some m

  -- the next link of the way, and what it does
  pub record GoesOn (s : Minds) (n : ℕ) (places : List ℕ) (place : ℕ) (m : V) : Type 0 where
    pub link : Link Heard
    pub at : slice_get s.links place ≡ Some link
    pub may : May k s.sights s.boxes m link.what
    pub after : StandsAt s n places (heard k s.sights s.boxes m link.what)

  pub goes_on : (s : Minds) (n : ℕ) (all places : List ℕ) (place : ℕ) (m : V) → Fits k first s → StandsAt s n all m → all ≡ places ++ place ∷ [] → GoesOn s n places place m
  goes_on s n all places place m h w e =
      let P = λ (xs : List ℕ). LeadsBack (length first) s.links n xs w.number in
      let l = last_step (length first) s.links n places place w.number (subst P e w.leads) in
      let i = linked_at s place l.link h l.at in
      let c = h.each place l.link l.at in
      let Q = λ (x : ℕ). slice_get (minds_in k first s) x ≡ Some m in
      let here : slice_get (minds_in k first s) l.link.from ≡ Some m = subst Q (sym l.from_is) w.at in
      let same : i.before ≡ m = same_Some i.before m (sym i.before_at ∙ here) in
      let also : c.before ≡ m = same_Some c.before m (sym c.at ∙ here) in
      let R = λ (v : V). May k s.sights s.boxes v l.link.what in
      let T = λ (v : V). slice_get (minds_in k first s) (length first + place) ≡ Some (heard k s.sights s.boxes v l.link.what) in
      record {
        link = l.link;
        at = l.at;
        may = subst R also c.may;
        after = record { number = length first + place; leads = l.front; at = subst T same i.after_at };
      }

  pub stands_first : (s : Minds) (n root : ℕ) (places : List ℕ) (m : V) → LeadsBack (length first) s.links n places root → slice_get first root ≡ Some m → StandsAt s n places m
  stands_first s n root places m l e = record { number = root; leads = l; at = values_stay (heard k s.sights s.boxes) first s.links root m e }

-- ---- what comes of a cycle

module _ {V : Type 0} (k : Kind V) (first : List V) where
  pub is_there : (s : Minds) (from : ℕ) (what : Heard) → Fits k first s → MayFollow k first s from what → from < length first + length s.links
  is_there s from what h m = (let l = slice_get_within (minds_in k first s) from m.before m.at in let q = number_of k first s h in omega arith)

  pub has_thought : (s : Minds) (c : Cycle) (m after : V) (t : Thought) (message nothing : Bool) → MayCycle k first s c → slice_get (minds_in k first s) c.mind ≡ Some m →
      k.cycle m (input_at s.sights s.boxes c.sight c.front) ≡ record { mind = after; thought = t } → AreLawful (k.me m) (k.agents m) t →
      message ≡ is_some (slice_get (or_none (slice_get s.boxes c.front)) 0) → nothing ≡ (is_quiet t && not message) → HasThought k first s c t nothing
  has_thought s c m after t message nothing may at made lawful e q =
      let same : m ≡ may.before = same_Some m may.before (sym at ∙ may.at) in
      let P = λ (v : V). AreLawful (k.me v) (k.agents v) t in
      record {
        may = may;
        lawful = subst P same lawful;
        thought_is = sym (ap (λ (x : Cycled V). x.thought) made) ∙ ap (λ (v : V). (k.cycle v (input_at s.sights s.boxes c.sight c.front)).thought) same;
        nothing_is = q ∙ ap (λ (b : Bool). is_quiet t && not b) e;
      }

  pub thinks_nothing : (s : Minds) (c : Cycle) (t : Thought) (nothing : Bool) → HasThought k first s c t nothing → nothing ≡ true → ThinksTo k first s c Nothing
  thinks_nothing s c t nothing h e =
      let P = λ (x : Thought). AreLawful (k.me h.may.before) (k.agents h.may.before) x in
      record {
        may = h.may;
        lawful = subst P h.thought_is h.lawful;
        leads = ap (is_nothing (input_at s.sights s.boxes c.sight c.front)) (sym h.thought_is) ∙ sym h.nothing_is ∙ e;
      }

  pub thinks_led : (s t u : Minds) (c : Cycle) (x : Thought) (nothing : Bool) (n m : ℕ) → HasThought k first s c x nothing → nothing ≡ false → HasGrown k first s t → slice_get t.thoughts n ≡ Some x →
      HasLinked k first t u c.mind (Given c.sight c.front) m → ThinksTo k first u c (Led m n)
  thinks_led s t u c x nothing n m h e g at l =
      let grows = grows_then k first s t u g.grows l.grown.grows in
      let q = same_input s.sights u.sights s.boxes u.boxes grows.sights grows.boxes k h.may.before c.sight c.front h.may.may in
      let same : x ≡ (cycled k u h.may.before c).thought = h.thought_is ∙ ap (λ (i : Input). (k.cycle h.may.before i).thought) q in
      let P = λ (y : Thought). AreLawful (k.me h.may.before) (k.agents h.may.before) y in
      record {
        may = follow_on k first s u c.mind (Given c.sight c.front) grows h.may;
        lawful = subst P same h.lawful;
        leads = record {
          some = (λ j. is_nothing (sym q j) (sym same j)) ∙ sym h.nothing_is ∙ e;
          mind_at = l.leads h.may.before (g.grows.minds c.mind h.may.before h.may.at);
          thought_at = l.grown.grows.thoughts n x at ∙ ap Some same;
        };
      }

  -- what came of a cycle is remembered
  pub record Remembered (s t : Minds) (c : Cycle) (comes : Thinking) : Type 0 where
    pub grown : HasGrown k first s t
    pub thinks : ThinksTo k first t c comes

  pub remembered : (s t : Minds) (c : Cycle) (comes : Thinking) (cycles : Answers Cycle Thinking) → HasGrown k first s t → ThinksTo k first t c comes → HasNoted t.cycles cycles c comes →
      Remembered s (record t { cycles = cycles }) c comes
  remembered s t c comes cycles g y n =
      let u : Minds = record t { cycles = cycles } in
      let h = grown_noted k first t u c comes g.fits y refl refl refl refl n in
      record {
        grown = record { fits = h.fits; grows = grows_then k first s t u g.grows h.grows };
        thinks = thinks_on k first t u c comes h.grows y;
      }

-- ---- what a mind is given

pub ground_input : {V : Type 0} (k : Kind V) (sights : List (List (LiteralOf Term))) (boxes : List (List Message)) (m : V) (sight front : ℕ) (i : Input) → MayThink k sights boxes m sight front →
    i ≡ input_at sights boxes sight front → are_ground i.percepts ≡ true
ground_input k sights boxes m sight front i h e =
    ap (λ (j : Input). are_ground j.percepts) e ∙ ap (λ (o : Option (List (LiteralOf Term))). are_ground (or_none o)) h.sight_at ∙ h.ground

pub sent_input : {V : Type 0} (k : Kind V) (sights : List (List (LiteralOf Term))) (boxes : List (List Message)) (m : V) (sight front : ℕ) (i : Input) → MayThink k sights boxes m sight front →
    i ≡ input_at sights boxes sight front → IfSome i.message (IsFor (k.me m) (k.agents m))
sent_input k sights boxes m sight front i h e =
    let P = λ (o : Option Message). IfSome o (IsFor (k.me m) (k.agents m)) in
    let same : i.message ≡ slice_get h.box 0 = ap (λ (j : Input). j.message) e ∙ ap (λ (o : Option (List Message)). slice_get (or_none o) 0) h.front_at in
    subst P (sym same) h.sent
