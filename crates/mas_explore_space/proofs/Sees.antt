-- What agents see of worlds, and what worlds make of actions.
use Rattle.std.proofs.Common.{ℕ, ◌≡◌, ◌+◌, ◌<◌, arith, true, List, length, slice_get, Some, refl, ap, sym, ◌∙◌, subst}
use Rattle.asl_term.specs.declared.syntax.LiteralOf.{LiteralOf}
use Rattle.asl_term.specs.declared.syntax.Term.{Term}
use Rattle.mas_mind.specs.Minds.{Kind, are_ground}
use Rattle.mas_free.specs.Covers.{Start}
use Rattle.mas_explore_worlds.specs.Worlds as worlds
use Rattle.mas_explore_worlds.specs.declared.worlds.Acted.{Acted}
use Rattle.mas_explore_worlds.specs.declared.worlds.Doing.{Doing}
use Rattle.mas_explore_tables.specs.declared.history.Link.{Link}
use Rattle.mas_explore_minds.specs.declared.minds.Minds.{Minds}
use Rattle.mas_world.specs.Worlds.{World}
use Rattle.mas_explore_worlds.proofs.Fitting.{number_of}
use Rattle.mas_explore_space.specs.declared.held.Held.{Held}
use Rattle.mas_explore_space.specs.declared.held.Seeing.{Seeing}
use Rattle.mas_explore_space.specs.declared.held.Acting.{Acting}
use Rattle.mas_explore_space.specs.Held.{worlds_of, IsSeen, IsActed, Grows}
use Rattle.mas_explore_space.specs.Rows.{HasAction}
use Rattle.mas_explore_space.proofs.Puts.{item_at}

module _ {V : Type 0} (s : Start V) (old : Held) (fits : worlds.Fits old.worlds) where
  world-at : (n : ℕ) → n < 1 + length old.worlds → (w : World) × (slice_get (worlds_of s old) n ≡ Some w)
  world-at n l = (let q = number_of s.names s.world old.worlds fits in item_at (worlds_of s old) n (omega arith))

  -- the world stays as it was, and its sight has this number
  pub seen_by : (new : Held) (c : Seeing) (percepts : List (LiteralOf Term)) (sight : ℕ) → c.world < 1 + length old.worlds → worlds.IsSeen s.names s.world old.worlds c.world c.agent percepts →
      are_ground percepts ≡ true → slice_get new.minds.sights sight ≡ Some percepts → new.worlds ≡ old.worlds → IsSeen s new c sight
  seen_by new c percepts sight l sees ground at e =
      let w = world-at c.world l in
      let same = sees w.0 w.1 in
      let P = λ (links : List (Link Doing)). slice_get (worlds.worlds_in s.names s.world links) c.world ≡ Some w.0 in
      record { world = w.0; world_at = subst P (sym e) w.1; sight_at = at ∙ ap Some same; ground = ap are_ground (sym same) ∙ ground }

  pub acted_by : (new : Held) (c : Acting) (action : LiteralOf Term) (r : Acted) → c.world < 1 + length old.worlds → worlds.HasActed s.names s.world old.worlds new.worlds c.world c.agent action r →
      HasAction old.minds.thoughts c.thought action → new.minds ≡ old.minds → IsActed s new c r
  acted_by new c action r l h has e =
      let w = world-at c.world l in
      record {
        world = w.0;
        world_at = h.grows.stay c.world w.0 w.1;
        outs = has.outs;
        thought_at = ap (λ (m : Minds). slice_get m.thoughts c.thought) e ∙ has.at;
        action = action;
        action_is = has.action_is;
        feedback = h.feedback w.0 w.1;
        after_at = h.leads w.0 w.1;
      }
