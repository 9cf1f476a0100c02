-- What is left of stacks.
use Rattle.std.proofs.Common.{◌≡◌, Bool, true, false, cond, List, [], ◌∷◌, ◌++◌, Option, Some, refl, ap}
use Rattle.asl_term.specs.declared.syntax.LiteralOf.{LiteralOf}
use Rattle.asl_term.specs.declared.syntax.Term.{Term}
use Rattle.asl_intend.specs.declared.entry.Means.{Means}
use Rattle.asl_intend.specs.Stacks.{has_goal}
use Rattle.asl_intend.specs.Agendas.{without}
use Rattle.asl_cycle.specs.Turns.{Left, NothingIsLost}

abbrev pub Stacks : Type 0
Stacks = List (List Means)

module _ (named : Option (LiteralOf Term)) where
  pub all_left : (xs : Stacks) → Left named xs xs
  all_left [] = Left.Empty
  all_left (x ∷ xs) = Left.Same x xs xs (all_left xs)

  -- what is left of what is left
  pub then_left : (a b c : Stacks) → Left named a b → Left named b c → Left named a c
  then_left _ _ c Left.Empty h = h
  then_left _ _ _ (Left.Same s b a h) (Left.Same _ _ c k) = Left.Same s b c (then_left b a c h k)
  then_left _ _ _ (Left.Same s b a h) (Left.Changed g _ t _ c n e k) = Left.Changed g s t b c n e (then_left b a c h k)
  then_left _ _ _ (Left.Same s b a h) (Left.Lost g _ _ c n e k) = Left.Lost g s b c n e (then_left b a c h k)
  then_left _ _ _ (Left.Changed g s t b a n e h) (Left.Same _ _ c k) = Left.Changed g s t b c n e (then_left b a c h k)
  then_left _ _ _ (Left.Changed g s t b a n e h) (Left.Changed _ _ u _ c _ _ k) = Left.Changed g s u b c n e (then_left b a c h k)
  then_left _ _ _ (Left.Changed g s t b a n e h) (Left.Lost _ _ _ c _ _ k) = Left.Lost g s b c n e (then_left b a c h k)
  then_left _ _ c (Left.Lost g s b a n e h) k = Left.Lost g s b c n e (then_left b a c h k)

  -- those behind them stay
  pub left_behind : (a b more : Stacks) → Left named a b → Left named (a ++ more) (b ++ more)
  left_behind _ _ more Left.Empty = all_left more
  left_behind _ _ more (Left.Same s b a h) = Left.Same s (b ++ more) (a ++ more) (left_behind b a more h)
  left_behind _ _ more (Left.Changed g s t b a n e h) = Left.Changed g s t (b ++ more) (a ++ more) n e (left_behind b a more h)
  left_behind _ _ more (Left.Lost g s b a n e h) = Left.Lost g s (b ++ more) (a ++ more) n e (left_behind b a more h)

one_left : (g : LiteralOf Term) (s : List Means) (before after : Stacks) (b : Bool) → has_goal g s ≡ b → Left (Some g) before after
    → Left (Some g) (s ∷ before) (cond b after (s ∷ after))
one_left g s before after true e h = Left.Lost g s before after refl e h
one_left g s before after false e h = Left.Same s before after h

-- without those that have a goal
pub without_left : (g : LiteralOf Term) (xs : Stacks) → Left (Some g) xs (without (has_goal g) xs)
without_left g [] = Left.Empty
without_left g (x ∷ xs) = one_left g x xs (without (has_goal g) xs) (has_goal g x) refl (without_left g xs)

pub none_lost : NothingIsLost
none_lost _ _ Left.Empty = refl
none_lost _ _ (Left.Same s before after h) = ap (λ xs. s ∷ xs) (none_lost before after h)
none_lost _ _ (Left.Changed g s t before after e has h) = cc
none_lost _ _ (Left.Lost g s before after e has h) = cc
