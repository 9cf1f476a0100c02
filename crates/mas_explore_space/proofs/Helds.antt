-- What is held goes on as it grows.
use Rattle.std.proofs.Common.{ℕ, ◌≡◌, ◌⊎◌, inl, inr, true, List, [], length, slice_get, Some, refl, ap, sym, ◌∙◌, subst}
use Rattle.mas_mind.specs.declared.mind.Thought.TheVariants as thought
use Rattle.mas_mind.specs.Minds.{Kind}
use Rattle.mas_free.specs.Covers.{Start}
use Rattle.mas_explore_tables.specs.Tables.{Answers, Recalls, HasNoted}
use Rattle.mas_explore_minds.specs.Minds as minds
use Rattle.mas_explore_minds.specs.Minds.{Stay}
use Rattle.mas_explore_minds.specs.declared.minds.Minds.{Minds}
use Rattle.mas_explore_minds.proofs.Fitting as fitting
use Rattle.mas_explore_worlds.specs.Worlds as worlds
use Rattle.mas_explore_worlds.specs.declared.worlds.Acted.{Acted}
use Rattle.mas_explore_worlds.specs.declared.worlds.Doing.{Doing}
use Rattle.mas_explore_tables.specs.declared.history.Link.{Link}
use Rattle.std.proofs.lemmas.Option.{none-some}
use Rattle.mas_explore_space.specs.declared.held.Held.{Held}
use Rattle.mas_explore_space.specs.declared.held.Seeing.{Seeing}
use Rattle.mas_explore_space.specs.declared.held.Acting.{Acting}
use Rattle.mas_explore_space.specs.Held.{minds_of, worlds_of, IsSeen, IsActed, Fits, Grows, HasGrown}

module _ {V : Type 0} (k : Kind V) (s : Start V) where
  pub grows_same : (h : Held) → Grows k s h h
  grows_same h = record { minds = fitting.grows_same k s.minds h.minds; worlds = λ i w e. e }

  pub grows_then : (a b c : Held) → Grows k s a b → Grows k s b c → Grows k s a c
  grows_then a b c h j = record { minds = fitting.grows_then k s.minds a.minds b.minds c.minds h.minds j.minds; worlds = λ i w e. j.worlds i w (h.worlds i w e) }

  pub grown_same : (h : Held) → Fits k s h → HasGrown k s h h
  grown_same h f = record { fits = f; grows = grows_same h }

  pub grown_then : (a b c : Held) → HasGrown k s a b → HasGrown k s b c → HasGrown k s a c
  grown_then a b c h j = record { fits = j.fits; grows = grows_then a b c h.grows j.grows }

  pub seen_on : (a b : Held) (c : Seeing) (sight : ℕ) → Grows k s a b → IsSeen s a c sight → IsSeen s b c sight
  seen_on a b c sight g x = record { world = x.world; world_at = g.worlds c.world x.world x.world_at; sight_at = g.minds.sights sight _ x.sight_at; ground = x.ground }

  pub acted_on : (a b : Held) (c : Acting) (r : Acted) → Grows k s a b → IsActed s a c r → IsActed s b c r
  acted_on a b c r g x = record {
    world = x.world;
    world_at = g.worlds c.world x.world x.world_at;
    outs = x.outs;
    thought_at = g.minds.thoughts c.thought (thought.Outs x.outs) x.thought_at;
    action = x.action;
    action_is = x.action_is;
    feedback = x.feedback;
    after_at = g.worlds r.world _ x.after_at;
  }

  -- more minds
  pub grown_minds : (a b : Held) → Fits k s a → minds.HasGrown k s.minds a.minds b.minds → b.worlds ≡ a.worlds → b.seen ≡ a.seen → b.acted ≡ a.acted → HasGrown k s a b
  grown_minds a b f h e p q =
      let g : Grows k s a b = record {
        minds = h.grows;
        worlds = λ i w x. (let P = λ (links : List (Link Doing)). slice_get (worlds.worlds_in s.names s.world links) i ≡ Some w in subst P (sym e) x);
      } in
      let P = λ (links : List (Link Doing)). worlds.Fits links in
      record {
        fits = record {
          minds = h.fits;
          worlds = subst P (sym e) f.worlds;
          seen = λ c r m. seen_on a b c r g (f.seen c r (let Q = λ (x : Answers Seeing ℕ). Recalls x c r in subst Q p m));
          acted = λ c r m. acted_on a b c r g (f.acted c r (let Q = λ (x : Answers Acting Acted). Recalls x c r in subst Q q m));
        };
        grows = g;
      }

  -- more worlds
  pub grown_worlds : (a b : Held) → Fits k s a → worlds.Grows s.names s.world a.worlds b.worlds → b.minds ≡ a.minds → b.seen ≡ a.seen → b.acted ≡ a.acted → HasGrown k s a b
  grown_worlds a b f h e p q =
      let M = λ (m : Minds). minds.Grows k s.minds a.minds m in
      let F = λ (m : Minds). minds.Fits k s.minds m in
      let g : Grows k s a b = record { minds = subst M (sym e) (fitting.grows_same k s.minds a.minds); worlds = h.stay } in
      record {
        fits = record {
          minds = subst F (sym e) f.minds;
          worlds = h.fits;
          seen = λ c r m. seen_on a b c r g (f.seen c r (let Q = λ (x : Answers Seeing ℕ). Recalls x c r in subst Q p m));
          acted = λ c r m. acted_on a b c r g (f.acted c r (let Q = λ (x : Answers Acting Acted). Recalls x c r in subst Q q m));
        };
        grows = g;
      }

  grows-by : (a b : Held) → b.minds ≡ a.minds → b.worlds ≡ a.worlds → Grows k s a b
  grows-by a b e d =
      let M = λ (m : Minds). minds.Grows k s.minds a.minds m in
      record {
        minds = subst M (sym e) (fitting.grows_same k s.minds a.minds);
        worlds = λ i w x. (let P = λ (links : List (Link Doing)). slice_get (worlds.worlds_in s.names s.world links) i ≡ Some w in subst P (sym d) x);
      }

  -- a remembered sight
  pub grown_seen : (a b : Held) (c : Seeing) (sight : ℕ) → Fits k s a → IsSeen s a c sight → HasNoted a.seen b.seen c sight → b.minds ≡ a.minds → b.worlds ≡ a.worlds → b.acted ≡ a.acted → HasGrown k s a b
  grown_seen a b c sight f x n e d q =
      let g = grows-by a b e d in
      let F = λ (m : Minds). minds.Fits k s.minds m in
      let P = λ (links : List (Link Doing)). worlds.Fits links in
      record {
        fits = record {
          minds = subst F (sym e) f.minds;
          worlds = subst P (sym d) f.worlds;
          seen = λ y r m. by g y r (n y r m);
          acted = λ y r m. acted_on a b y r g (f.acted y r (let Q = λ (z : Answers Acting Acted). Recalls z y r in subst Q q m));
        };
        grows = g;
      }
    where
      by : Grows k s a b → (y : Seeing) (r : ℕ) → Recalls a.seen y r ⊎ ((y ≡ c) × (r ≡ sight)) → IsSeen s b y r
      by g y r (inl m) = seen_on a b y r g (f.seen y r m)
      by g y r (inr m) =
          let P = λ (z : Seeing). IsSeen s b z sight in
          let Q = λ (z : ℕ). IsSeen s b y z in
          subst Q (sym m.1) (subst P (sym m.0) (seen_on a b c sight g x))

  -- a remembered action
  pub grown_acted : (a b : Held) (c : Acting) (after : Acted) → Fits k s a → IsActed s a c after → HasNoted a.acted b.acted c after → b.minds ≡ a.minds → b.worlds ≡ a.worlds → b.seen ≡ a.seen → HasGrown k s a b
  grown_acted a b c after f x n e d q =
      let g = grows-by a b e d in
      let F = λ (m : Minds). minds.Fits k s.minds m in
      let P = λ (links : List (Link Doing)). worlds.Fits links in
      record {
        fits = record {
          minds = subst F (sym e) f.minds;
          worlds = subst P (sym d) f.worlds;
          seen = λ y r m. seen_on a b y r g (f.seen y r (let Q = λ (z : Answers Seeing ℕ). Recalls z y r in subst Q q m));
          acted = λ y r m. by g y r (n y r m);
        };
        grows = g;
      }
    where
      by : Grows k s a b → (y : Acting) (r : Acted) → Recalls a.acted y r ⊎ ((y ≡ c) × (r ≡ after)) → IsActed s b y r
      by g y r (inl m) = acted_on a b y r g (f.acted y r m)
      by g y r (inr m) =
          let P = λ (z : Acting). IsActed s b z after in
          let Q = λ (z : Acted). IsActed s b y z in
          subst Q (sym m.1) (subst P (sym m.0) (acted_on a b c after g x))

-- nothing is remembered, and there are no more minds and worlds than at the start
pub fits_none : {V : Type 0} (k : Kind V) (s : Start V) (h : Held) → minds.Fits k s.minds h.minds → h.worlds ≡ [] → h.seen.keys ≡ [] → h.acted.keys ≡ [] → Fits k s h
fits_none k s h m e p q = record {
  minds = m;
  worlds = (let P = λ (links : List (Link Doing)). worlds.Fits links in subst P (sym e) (record { linked = tt; ground = λ j link r. absurd (none-some link r) }));
  seen = λ c r x. (let P = λ (xs : List Seeing). slice_get xs x.place ≡ Some c in absurd (none-some c (subst P p x.key_at)));
  acted = λ c r x. (let P = λ (xs : List Acting). slice_get xs x.place ≡ Some c in absurd (none-some c (subst P q x.key_at)));
}
