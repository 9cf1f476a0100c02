-- What one worker keeps true that ends the agents that are left.
use Rattle.std.proofs.Common.{◌≡◌, ℕ, ◌+◌, Option, Some, List, [], ◌∷◌, ◌++◌, sym, ap, ◌∙◌, subst, arith}
use Rattle.std.specs.Prelude.{map}
use Rattle.mas_board_lists.specs.Lists.{Each, times}
use Rattle.mas_steal_rack.specs.Rule.{Waits}
use Rattle.mas_steal_rack.specs.Turns.{Went, Ended}
use Rattle.mas_board_lists.proofs.Sums.{each_append}
use Rattle.mas_steal_rack.proofs.Sums.{times_both}

module _ {T H : Type 0} (number : T → ℕ) (home_of : T → H) (is_ready has_ended : T → Type 0) where
  -- between two turns: what waits and what was kept
  pub record Ending (home : Option H) (kept0 left0 kept left : List T) : Type 0 where
    pub wait : Each (Waits number home_of is_ready home) left
    pub ended : Each has_ended kept
    pub counts : (a : ℕ) → times a (map number kept) + times a (map number left) ≡ times a (map number kept0) + times a (map number left0)

  -- an agent waits again
  pub ending_again : (home : Option H) (kept0 left0 kept left before after : List T) (x y : T) → Ending home kept0 left0 kept before → before ≡ x ∷ left → Went number home_of is_ready x y → after ≡ left ++ y ∷ [] → Ending home kept0 left0 kept after
  ending_again home kept0 left0 kept left before after x y g b w e =
      let k = subst (λ l. Ending home kept0 left0 kept l) b g in
      subst (λ l. Ending home kept0 left0 kept l) (sym e) record {
        wait = each_append (Waits number home_of is_ready home) left (y ∷ []) k.wait.1 (record { at = k.wait.0.at ∙ ap Some (sym w.home); ready = w.ready }, tt);
        ended = k.ended;
        counts = λ a. (let n = ap (λ (i : ℕ). times a (i ∷ [])) w.same in omega (arith, times_both a number left (y ∷ []), k.counts a));
      }

  -- an agent has ended
  pub ending_keeps : (home : Option H) (kept0 left0 kept left before after : List T) (x y : T) → Ending home kept0 left0 kept before → before ≡ x ∷ left → Ended number has_ended x y → after ≡ kept ++ y ∷ [] → Ending home kept0 left0 after left
  ending_keeps home kept0 left0 kept left before after x y g b w e =
      let k = subst (λ l. Ending home kept0 left0 kept l) b g in
      subst (λ l. Ending home kept0 left0 l left) (sym e) record {
        wait = k.wait.1;
        ended = each_append has_ended kept (y ∷ []) k.ended (w.ended, tt);
        counts = λ a. (let n = ap (λ (i : ℕ). times a (i ∷ [])) w.same in omega (arith, times_both a number kept (y ∷ []), k.counts a));
      }
