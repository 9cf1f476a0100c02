-- What a change leaves of the stacks that run, and what it puts behind them.
use Rattle.std.proofs.Common.{◌≡◌, [], ◌++◌, Option, sym, ap, ◌∙◌, append_assoc}
use Rattle.std.proofs.lemmas.List.{append-nil}
use Rattle.asl_term.specs.declared.syntax.LiteralOf.{LiteralOf}
use Rattle.asl_term.specs.declared.syntax.Term.{Term}
use Rattle.asl_cycle.specs.Turns.{Left}
use Rattle.asl_cycle.proofs.Lefts.{Stacks, all_left}

-- where at most the goal of this literal is dropped or ended
pub record Leaves (named : Option (LiteralOf Term)) (before after : Stacks) : Type 0 where
  pub left : Stacks
  pub stay : Left named before left
  pub back : Stacks
  pub in_order : after ≡ left ++ back

module _ (named : Option (LiteralOf Term)) where
  pub leaves_all : (xs ys : Stacks) → ys ≡ xs → Leaves named xs ys
  leaves_all xs ys e = record { left = xs; stay = all_left named xs; back = []; in_order = e ∙ sym (append-nil xs) }

  -- some go behind them
  pub leaves_front : (xs ys back : Stacks) → ys ≡ xs ++ back → Leaves named xs ys
  leaves_front xs ys back e = record { left = xs; stay = all_left named xs; back = back; in_order = e }

  -- some of them are left, and nothing goes behind them
  pub leaves_some : (xs ys : Stacks) → Left named xs ys → Leaves named xs ys
  leaves_some xs ys h = record { left = ys; stay = h; back = []; in_order = sym (append-nil ys) }

  -- a change, and then one that only puts some behind
  pub leaves_then : (xs ys zs back : Stacks) → Leaves named xs ys → zs ≡ ys ++ back → Leaves named xs zs
  leaves_then xs ys zs back h e = record {
    left = h.left;
    stay = h.stay;
    back = h.back ++ back;
    in_order = e ∙ (ap (λ x. x ++ back) h.in_order ∙ append_assoc h.left h.back back);
  }

  pub leaves_same : (xs ys zs : Stacks) → Leaves named xs ys → zs ≡ ys → Leaves named xs zs
  leaves_same xs ys zs h e = record { left = h.left; stay = h.stay; back = h.back; in_order = e ∙ h.in_order }
