-- What holds of numbered worlds goes on as more of them come.
use Rattle.std.proofs.Common.{ℕ, zero, suc, ◌≡◌, ◌+◌, ◌<◌, ◌⊎◌, inl, inr, arith, true, List, [], ◌∷◌, ◌++◌, length, slice_get, Option, None, Some, refl, sym, ◌∙◌, ap, subst}
use Rattle.std.proofs.lemmas.Option.{none-some, same_Some, slice_get_within}
use Rattle.asl_term.specs.Exprs.{is_ground_literal}
use Rattle.mas_world.specs.Worlds.{World}
use Rattle.mas_explore_tables.specs.Tables.{IsGrown, HasEntered}
use Rattle.mas_explore_tables.specs.Histories.{all_from, AreLinked, LeadsBack}
use Rattle.mas_explore_tables.specs.declared.history.Link.{Link}
use Rattle.mas_explore_tables.proofs.Entering.{IsNew, get-split}
use Rattle.mas_explore_tables.proofs.Links.{linked_on, last_step, IsLinked, values_stay, values_number, values_linked, values_on}
use Rattle.mas_explore_worlds.specs.declared.worlds.Doing.{Doing}
use Rattle.mas_mind.specs.declared.mind.Feedback.{Feedback}
use Rattle.mas_mind.specs.declared.mind.Feedback.TheVariants.{Failed}
use Rattle.mas_explore_worlds.specs.Worlds.{after, done_on, worlds_in, Fits, HasLinked, DoesAs}

pub number_of : (names : List (List ℕ)) (start : World) (links : List (Link Doing)) → Fits links → length (worlds_in names start links) ≡ 1 + length links
number_of names start links h = values_number (done_on names) (start ∷ []) links h.linked

linked_at : (names : List (List ℕ)) (start : World) (links : List (Link Doing)) (j : ℕ) (link : Link Doing) → Fits links → slice_get links j ≡ Some link →
    IsLinked (done_on names) (worlds_in names start links) link.from (1 + j) link.what
linked_at names start links j link h e = values_linked (done_on names) (start ∷ []) links j link h.linked e

module _ (names : List (List ℕ)) (start : World) (old new : List (Link Doing)) (link : Link Doing) (n : ℕ) (h : Fits old) (below : link.from < 1 + length old) (ground : is_ground_literal link.what.action ≡ true)
    (entered : HasEntered old new link n) where
  fits-by : IsGrown old new link → Fits new
  fits-by (inl e) = (let P = λ (xs : List (Link Doing)). Fits xs in subst P (sym e) h)
  fits-by (inr e) =
      let P = λ (xs : List (Link Doing)). Fits xs in
      subst P (sym e) (record { linked = linked_on 1 old link h.linked below; ground = λ j l q. by l j (get-split old link l j q) })
    where
      by : (l : Link Doing) (j : ℕ) → (slice_get old j ≡ Some l) ⊎ IsNew old link l j → is_ground_literal l.what.action ≡ true
      by l j (inl w) = h.ground j l w
      by l j (inr w) = (let Q = λ (x : Link Doing). is_ground_literal x.what.action ≡ true in subst Q (sym w.value) ground)

  stays-by : IsGrown old new link → (i : ℕ) (w : World) → slice_get (worlds_in names start old) i ≡ Some w → slice_get (worlds_in names start new) i ≡ Some w
  stays-by (inl e) i w q = (let P = λ (xs : List (Link Doing)). slice_get (worlds_in names start xs) i ≡ Some w in subst P (sym e) q)
  stays-by (inr e) i w q =
      let P = λ (xs : List (Link Doing)). slice_get (worlds_in names start xs) i ≡ Some w in
      subst P (sym e) (values_on (done_on names) (start ∷ []) old link i w q)

  pub has_linked : HasLinked names start old new link.from link.what (1 + n)
  has_linked = record {
    grows = record { fits = fits-by entered.grown; stay = stays-by entered.grown };
    leads = λ w e.
        (let i = linked_at names start new n link (fits-by entered.grown) entered.at in
        let same : i.before ≡ w = same_Some i.before w (sym i.before_at ∙ stays-by entered.grown link.from w e) in
        let P = λ (x : World). slice_get (worlds_in names start new) (1 + n) ≡ Some (done_on names x link.what) in
        subst P same i.after_at);
  }

module _ (names : List (List ℕ)) (start : World) (links : List (Link Doing)) (n : ℕ) where
  -- the world to which some of the way has led
  pub record StandsAt (places : List ℕ) (w : World) : Type 0 where
    pub number : ℕ
    pub leads : LeadsBack 1 links n places number
    pub at : slice_get (worlds_in names start links) number ≡ Some w

  pub record GoesOn (places : List ℕ) (place : ℕ) (w : World) : Type 0 where
    pub link : Link Doing
    pub at : slice_get links place ≡ Some link
    pub ground : is_ground_literal link.what.action ≡ true
    pub after : StandsAt places (done_on names w link.what)

  pub goes_on : (all places : List ℕ) (place : ℕ) (w : World) → Fits links → StandsAt all w → all ≡ places ++ place ∷ [] → GoesOn places place w
  goes_on all places place w h s e =
      let P = λ (xs : List ℕ). LeadsBack 1 links n xs s.number in
      let l = last_step 1 links n places place s.number (subst P e s.leads) in
      let i = linked_at names start links place l.link h l.at in
      let Q = λ (x : ℕ). slice_get (worlds_in names start links) x ≡ Some w in
      let here : slice_get (worlds_in names start links) l.link.from ≡ Some w = subst Q (sym l.from_is) s.at in
      let same : i.before ≡ w = same_Some i.before w (sym i.before_at ∙ here) in
      let T = λ (x : World). slice_get (worlds_in names start links) (1 + place) ≡ Some (done_on names x l.link.what) in
      record {
        link = l.link;
        at = l.at;
        ground = h.ground place l.link l.at;
        after = record { number = 1 + place; leads = l.front; at = subst T same i.after_at };
      }

  pub stands_first : (root : ℕ) (places : List ℕ) (w : World) → root < 1 → LeadsBack 1 links n places root → w ≡ start → StandsAt places w
  stands_first root places w b l e =
      let z : root ≡ 0 = omega arith in
      let Q = λ (x : ℕ). slice_get (start ∷ []) x ≡ Some start in
      let P = λ (x : World). StandsAt places x in
      subst P (sym e) (record { number = root; leads = l; at = values_stay (done_on names) (start ∷ []) links root start (subst Q (sym z) refl) })

-- ---- what the code's steps come to

pub item_is : (w v : World) (xs : List World) (n : ℕ) → slice_get xs n ≡ Some w → slice_get xs n ≡ Some v → w ≡ v
item_is w v xs n e f = same_Some w v (sym e ∙ f)

module _ (names : List (List ℕ)) (start : World) where
  pub does_as : (links : List (Link Doing)) (from : ℕ) (d : Doing) (w v : World) (f : Feedback) → slice_get (worlds_in names start links) from ≡ Some w → (f, v) ≡ after names w d →
      (f ≡ Failed → v ≡ w) → DoesAs names start links from d f
  does_as links from d w v f at e still = record {
    told = λ x q. ap (λ (p : Feedback × World). p.0) e ∙ ap (λ (y : World). (after names y d).0) (same_Some w x (sym at ∙ q));
    still = λ b x q.
        (let same : w ≡ x = same_Some w x (sym at ∙ q) in
        ap (λ (y : World). done_on names y d) (sym same) ∙ sym (ap (λ (p : Feedback × World). p.1) e) ∙ still b ∙ same);
  }
