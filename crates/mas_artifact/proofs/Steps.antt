-- Comparisons of small terms.
use Rattle.std.proofs.Common.{◌≡◌, ℕ, eqb, length, Bool, true, false, ◌&&◌, cond, List, [], ◌∷◌, ◌++◌, Some, None, refl, ap, ◌∙◌}
use Rattle.std.specs.Str.{bytes_eq}
use Rattle.asl_term.specs.declared.syntax.LiteralOf.{LiteralOf}
use Rattle.asl_term.specs.declared.syntax.Var.{Var}
use Rattle.asl_term.specs.declared.syntax.Term.{Term}
use Rattle.asl_term.specs.declared.syntax.Term.TheVariants as term
use Rattle.asl_term.specs.declared.syntax.Term.TheOpen.{Term-F}
use Rattle.asl_term.specs.declared.syntax.Term.TheOpen as layer
use Rattle.asl_term.specs.declared.syntax.Term.TheViews.{out-Term}
use Rattle.asl_term.specs.Layers.{made}
use Rattle.asl_term.specs.Variables.{occurs, occurs_step}
use Rattle.asl_term.proofs.Terms.{fold_lit, out_made}
use Rattle.asl_unify.specs.declared.subst.Pair.{Pair}
use Rattle.asl_unify.specs.Compare.{Question, ask, asks, find, look_var, var_in, var_of, with_left, with_right, by_vars, bind, plain, step, counted, Move, Go, End, Clash, Occurs, Outcome, Unified, Failed, goes, ends, finished, same_frame}
use Rattle.asl_unify.specs.Matches.{annots, matches, on_unified}
use Rattle.asl_unify.specs.Puts.{IsSubst, apply, value_of}
use Rattle.asl_unify.specs.Unified.{unified}
use Rattle.asl_unify.proofs.Unified.{leads_unified}
use Rattle.mas_artifact.specs.Tables.{atom, compound, literal}
use Rattle.mas_artifact.proofs.Trees.{put_atom}

-- ---- one step

module _ (w : List Question) (s : List Pair) (n : ℕ) where
  -- two terms that are no variables
  pub plain_step : (y z : Term-F Term) → var_in y ≡ None → var_in z ≡ None → step (ask (made y) (made z)) w s n ≡ plain y z w s n
  plain_step y z no_y no_z =
      let a = made y in
      let b = made z in
      let left : var_of a ≡ None = ap var_in (out_made y) ∙ no_y in
      let right : var_of b ≡ None = ap var_in (out_made z) ∙ no_z in
      ap (λ o. with_left (look_var s o) a b w s n) left
      ∙ ap (λ o. with_right (look_var s o) a b w s n) right
      ∙ ap (λ o. by_vars o (var_of b) a b w s n) left
      ∙ ap (λ o. by_vars None o a b w s n) right
      ∙ ap (λ l. plain l (out-Term b) w s n) (out_made y)
      ∙ ap (λ l. plain y l w s n) (out_made z)

  -- a variable without a pair on the left
  pub var_step : (x : Var) (b : Term) → find s x ≡ None → var_of b ≡ None → step (ask (term.Var x) b) w s n ≡ bind x b w s n
  var_step x b free right =
      let a = term.Var x in
      let left : var_of a ≡ Some x = ap var_in (out_made (layer.Var x)) in
      ap (λ o. with_left (look_var s o) a b w s n) left
      ∙ ap (λ o. with_left o a b w s n) free
      ∙ ap (λ o. with_right (look_var s o) a b w s n) right
      ∙ ap (λ o. by_vars o (var_of b) a b w s n) left
      ∙ ap (λ o. by_vars (Some x) o a b w s n) right

-- ---- whole comparisons

module _ (s : List Pair) (i : IsSubst s) where
  -- a term in a variable without a pair
  pub bound_term : (x : Var) (t : Term) → find s x ≡ None → var_of t ≡ None → occurs x (apply s t) ≡ false → unified s (ask (term.Var x) t ∷ []) ≡ Unified (s ++ record { var = x; term = t } ∷ [])
  bound_term x t free plain outside =
      leads_unified s _ _ i (goes (var_step [] s 0 x t free plain ∙ ap (λ b. cond b (End Occurs) (Go [] (s ++ record { var = x; term = t } ∷ []) (counted 0))) outside) finished)

  -- an atom
  pub bound_atom : (x : Var) (name : List ℕ) → find s x ≡ None → unified s (ask (term.Var x) (atom name) ∷ []) ≡ Unified (s ++ record { var = x; term = atom name } ∷ [])
  bound_atom x name free =
      bound_term x (atom name) free (ap var_in (out_made (layer.Lit (literal name []))))
      (ap (occurs x) (put_atom (value_of s) name) ∙ fold_lit Bool (occurs_step x) (literal name []))

  -- two atoms
  abbrev atoms_move : List Question → ℕ → Bool → Move
  atoms_move w n b = cond b (Go w s (counted n)) (End (Clash n))

  atoms_step : (w : List Question) (n : ℕ) (a b : List ℕ) (e : Bool) → bytes_eq a b ≡ e → step (ask (atom a) (atom b)) w s n ≡ atoms_move w n e
  atoms_step w n a b true e =
      plain_step w s n (layer.Lit (literal a [])) (layer.Lit (literal b [])) refl refl
      ∙ ap (λ z. atoms_move w n ((true && z && eqb 0 0) && eqb 0 0)) e
  atoms_step w n a b false e =
      plain_step w s n (layer.Lit (literal a [])) (layer.Lit (literal b [])) refl refl
      ∙ ap (λ z. atoms_move w n ((true && z && eqb 0 0) && eqb 0 0)) e

  pub atoms : (a b : List ℕ) (e : Bool) → bytes_eq a b ≡ e → unified s (ask (atom a) (atom b) ∷ []) ≡ cond e (Unified s) (Failed (Clash 0))
  atoms a b true e = leads_unified s _ _ i (goes (atoms_step [] 0 a b true e) finished)
  atoms a b false e = leads_unified s _ _ i (ends (atoms_step [] 0 a b false e))

  -- two compounds of the same functor with an atom each
  one_step : (f : List ℕ) (t u : Term) → bytes_eq f f ≡ true → step (ask (compound f (t ∷ [])) (compound f (u ∷ []))) [] s 0 ≡ Go (ask t u ∷ []) s (counted 0)
  one_step f t u e =
      plain_step [] s 0 (layer.Lit (literal f (t ∷ []))) (layer.Lit (literal f (u ∷ []))) refl refl
      ∙ ap (λ z. cond ((true && z && eqb 1 1) && eqb 0 0) (Go (ask t u ∷ []) s (counted 0)) (End (Clash 0))) e

  pub ones : (f a b : List ℕ) (e : Bool) → bytes_eq f f ≡ true → bytes_eq a b ≡ e → unified s (ask (compound f (atom a ∷ [])) (compound f (atom b ∷ [])) ∷ []) ≡ cond e (Unified s) (Failed (Clash 1))
  ones f a b true h e = leads_unified s _ _ i (goes (one_step f (atom a) (atom b) h) (goes (atoms_step [] 1 a b true e) finished))
  ones f a b false h e = leads_unified s _ _ i (goes (one_step f (atom a) (atom b) h) (ends (atoms_step [] 1 a b false e)))

  -- literals of other functors
  pub apart : (l m : LiteralOf Term) → bytes_eq l.functor m.functor ≡ false → l.neg ≡ false → m.neg ≡ false → unified s (ask (term.Lit l) (term.Lit m) ∷ []) ≡ Failed (Clash 0)
  apart l m e p q = leads_unified s _ _ i (ends (
      plain_step [] s 0 (layer.Lit l) (layer.Lit m) refl refl
      ∙ sign l.neg m.neg (bytes_eq l.functor m.functor) (eqb (length l.args) (length m.args)) (eqb (length l.annots) (length m.annots)) _ e p q))
    where
      sign : (x y b c d : Bool) (g : Move) → b ≡ false → x ≡ false → y ≡ false → cond ((Rattle.asl_unify.specs.Compare.same_sign x y && b && c) && d) g (End (Clash 0)) ≡ End (Clash 0)
      sign x true false c d g e p q = cc
      sign true false false c d g e p q = cc
      sign false false false c d g e p q = refl
      sign x y true c d g e p q = cc

-- ---- matches

none_asked : (ts : List Term) → asks [] ts [] ≡ []
none_asked [] = refl
none_asked (t ∷ ts) = refl

-- a literal without arguments and annotations against any
pub bare_matches : (f : List ℕ) (action : LiteralOf Term) (b : Bool) → same_frame (literal f []) action ≡ b → matches (literal f []) action [] ≡ cond b ([] ∷ []) []
bare_matches f action true e =
    ap (λ z. cond z (on_unified (annots [] action.annots) (unified [] (asks [] action.args []))) []) e
    ∙ ap (λ w. on_unified (annots [] action.annots) (unified [] w)) (none_asked action.args)
bare_matches f action false e = ap (λ z. cond z (on_unified (annots [] action.annots) (unified [] (asks [] action.args []))) []) e

-- two literals of one argument and the same functor
pub one_matches : (f : List ℕ) (t u : Term) (s : List Pair) → bytes_eq f f ≡ true → matches (literal f (t ∷ [])) (literal f (u ∷ [])) s ≡ on_unified (λ r. r ∷ []) (unified s (ask t u ∷ []))
one_matches f t u s e = ap (λ z. cond (true && z && eqb 1 1) (on_unified (λ r. r ∷ []) (unified s (ask t u ∷ []))) []) e
