-- Small terms under the functions on terms.
use Rattle.std.proofs.Common.{◌≡◌, ℕ, ℤ, ◌+◌, leb, max, Bool, true, ◌&&◌, cond, List, [], ◌∷◌, Some, None, ap, ◌∙◌}
use Rattle.std.specs.Prelude.{Ok}
use Rattle.std.specs.Result.{result_ok}
use Rattle.asl_term.specs.declared.syntax.LiteralOf.{LiteralOf}
use Rattle.asl_term.specs.declared.syntax.Var.{Var}
use Rattle.asl_term.specs.declared.syntax.Term.{Term}
use Rattle.asl_term.specs.declared.syntax.Term.TheVariants as term
use Rattle.asl_term.specs.Trees.{size, size_step, depth, depth_step, is_ground, ground_step}
use Rattle.asl_term.proofs.Terms.{fold_lit, fold_num, fold_op, fold_var}
use Rattle.asl_term.specs.declared.syntax.Op.TheVariants.{Add, Sub}
use Rattle.asl_unify.specs.declared.subst.Pair.{Pair}
use Rattle.asl_unify.specs.Puts.{put, put_step, value_of}
use Rattle.asl_unify.specs.Applied.{applied_literal, within_literal}
use Rattle.asl_unify.specs.Limits.{within}
use Rattle.asl_unify.specs.Settling.{Settled, and_then, settle, settle_step, settle_literal}
use Rattle.mas_world.specs.Facts.{is_settled, settled_step}
use Rattle.mas_world.specs.Guards.{ready}
use Rattle.mas_artifact.specs.Tables.{sum, difference, literal, compound, atom}

-- ---- a substitution put into them

pub put_var : (h : Var → Term) (v : Var) → put h (term.Var v) ≡ h v
put_var h v = fold_var Term (put_step h) v

pub put_num : (h : Var → Term) (n : ℤ) → put h (term.Num n) ≡ term.Num n
put_num h n = fold_num Term (put_step h) n

pub put_sum : (h : Var → Term) (a b : Term) → put h (sum a b) ≡ sum (put h a) (put h b)
put_sum h a b = fold_op Term (put_step h) (record { op = Add; left = a; right = b })

pub put_difference : (h : Var → Term) (a b : Term) → put h (difference a b) ≡ difference (put h a) (put h b)
put_difference h a b = fold_op Term (put_step h) (record { op = Sub; left = a; right = b })

pub put_atom : (h : Var → Term) (name : List ℕ) → put h (atom name) ≡ atom name
put_atom h name = fold_lit Term (put_step h) (literal name [])

pub put_one : (h : Var → Term) (f : List ℕ) (t u : Term) → put h t ≡ u → put h (compound f (t ∷ [])) ≡ compound f (u ∷ [])
put_one h f t u e = fold_lit Term (put_step h) (literal f (t ∷ [])) ∙ ap (λ z. compound f (z ∷ [])) e

-- ---- terms without variables and operations, with their nodes and levels

pub record Small (t : Term) (n d : ℕ) : Type 0 where
  pub nodes : size t ≡ n
  pub levels : depth t ≡ d
  pub ground : is_ground t ≡ true
  pub settled : is_settled t ≡ true
  pub settles : settle t ≡ Ok t

pub small_atom : (name : List ℕ) → Small (atom name) 1 1
small_atom name =
    let l = literal name [] in record {
      nodes = fold_lit ℕ size_step l;
      levels = fold_lit ℕ depth_step l;
      ground = fold_lit Bool ground_step l;
      settled = fold_lit Bool settled_step l;
      settles = fold_lit (Settled Term) settle_step l;
    }

pub small_num : (n : ℤ) → Small (term.Num n) 1 1
small_num n = record {
  nodes = fold_num ℕ size_step n;
  levels = fold_num ℕ depth_step n;
  ground = fold_num Bool ground_step n;
  settled = fold_num Bool settled_step n;
  settles = fold_num (Settled Term) settle_step n;
}

pub small_one : (f : List ℕ) (t : Term) (n d : ℕ) → Small t n d → Small (compound f (t ∷ [])) (1 + (0 + n) + 0) (1 + max (max d 0) 0)
small_one f t n d s =
    let l = literal f (t ∷ []) in record {
      nodes = fold_lit ℕ size_step l ∙ ap (λ z. 1 + (0 + z) + 0) s.nodes;
      levels = fold_lit ℕ depth_step l ∙ ap (λ z. 1 + max (max z 0) 0) s.levels;
      ground = fold_lit Bool ground_step l ∙ ap (λ z. (z && true) && true) s.ground;
      settled = fold_lit Bool settled_step l ∙ ap (λ z. (z && true) && true) s.settled;
      settles = fold_lit (Settled Term) settle_step l
          ∙ ap (λ z. and_then (and_then (and_then z (λ x. Ok (x ∷ []))) (λ xs. Ok (literal f xs))) (λ m. Ok (term.Lit m))) s.settles;
    }

abbrev pub fits : ℕ → ℕ → Bool
fits n d = leb n 10000 && leb d 250

pub within_small : (t : Term) (n d : ℕ) → Small t n d → within t ≡ fits n d
within_small t n d s = ap (λ z. leb z 10000 && leb (depth t) 250) s.nodes ∙ ap (λ z. leb n 10000 && leb z 250) s.levels

-- ---- a literal of one argument under a substitution

module _ (s : List Pair) (f : List ℕ) (t u : Term) (n d : ℕ) (e : put (value_of s) t ≡ u) (h : Small u n d) (k : fits (1 + (0 + n) + 0) (1 + max (max d 0) 0) ≡ true) where
  abbrev new : LiteralOf Term
  new = literal f (u ∷ [])

  applied : applied_literal s (literal f (t ∷ [])) ≡ new
  applied = ap (λ z. literal f (z ∷ [])) e

  settled_new : settle_literal new ≡ Ok new
  settled_new = ap (λ z. and_then (and_then z (λ x. Ok (x ∷ []))) (λ xs. Ok (literal f xs))) h.settles

  pub ready_one : ready s (literal f (t ∷ [])) ≡ Some new
  ready_one =
      ap (λ z. cond (within_literal z) (result_ok (settle_literal z)) None) applied
      ∙ ap (λ z. cond z (result_ok (settle_literal new)) None) (within_small (term.Lit new) _ _ (small_one f u n d h) ∙ k)
      ∙ ap result_ok settled_new

-- a literal of one argument, settled
abbrev pub settled_one : List ℕ → Settled Term → Settled (LiteralOf Term)
settled_one f a = and_then (and_then a (λ x. Ok (x ∷ []))) (λ xs. Ok (literal f xs))

pub ready_by : (s : List Pair) (f : List ℕ) (t u : Term) → put (value_of s) t ≡ u
    → ready s (literal f (t ∷ [])) ≡ cond (within_literal (literal f (u ∷ []))) (result_ok (settled_one f (settle u))) None
ready_by s f t u e = ap (λ z. cond (within_literal (literal f (z ∷ []))) (result_ok (settle_literal (literal f (z ∷ [])))) None) e

pub nodes_one : (f : List ℕ) (t : Term) → size (compound f (t ∷ [])) ≡ 1 + (0 + size t) + 0
nodes_one f t = fold_lit ℕ size_step (literal f (t ∷ []))

pub levels_one : (f : List ℕ) (t : Term) → depth (compound f (t ∷ [])) ≡ 1 + max (max (depth t) 0) 0
levels_one f t = fold_lit ℕ depth_step (literal f (t ∷ []))
