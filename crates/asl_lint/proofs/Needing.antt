-- What `needs` is at each variant, and where it is nothing.
use Rattle.std.proofs.Common.{◌≡◌, ℕ, ℤ, List, [], ◌∷◌, map, length, take, drop, Some, None, refl, sym, ap, ◌∙◌, arith}
use Rattle.std.proofs.lemmas.List.{length-map}
use Rattle.std.specs.Option.{option_map}
use Rattle.asl_term.specs.declared.syntax.Var.{Var}
use Rattle.asl_term.specs.declared.syntax.LiteralOf.{LiteralOf}
use Rattle.asl_term.specs.declared.syntax.ListingOf.{ListingOf}
use Rattle.asl_term.specs.declared.syntax.ArithOf.{ArithOf}
use Rattle.asl_term.specs.declared.syntax.Term.{Term}
use Rattle.asl_term.specs.declared.syntax.Term.TheVariants as term
use Rattle.asl_term.specs.declared.syntax.Term.TheOpen.{Term-F}
use Rattle.asl_term.specs.declared.syntax.Term.TheOpen as layer
use Rattle.asl_term.specs.Layers.{made}
use Rattle.asl_term.proofs.Terms.{map_literal, map_listing, map_arith, fold_num, fold_str, fold_var, fold_lit, fold_list, fold_op, out_made}
use Rattle.asl_lint.specs.Covers.{Needs, need, both, all_need, nothing_if, is_empty, rest, list_needs, literal_needs, end_needs, plain_needs, needs_step, needs}

pub needs_var : (x : Var) (t : Term) → needs (term.Var x) t ≡ Some (need x t ∷ [])
needs_var x t = ap (λ f. f t) (fold_var (Term → Needs) needs_step x)

pub needs_num : (n : ℤ) (y : Term-F Term) → needs (term.Num n) (made y) ≡ plain_needs (layer.Num n) y
needs_num n y = ap (λ f. f (made y)) (fold_num (Term → Needs) needs_step n) ∙ ap (plain_needs (layer.Num n)) (out_made y)

pub needs_str : (b : List ℕ) (y : Term-F Term) → needs (term.Str b) (made y) ≡ plain_needs (layer.Str b) y
needs_str b y = ap (λ f. f (made y)) (fold_str (Term → Needs) needs_step b) ∙ ap (plain_needs (layer.Str b)) (out_made y)

pub needs_lit_layer : (l : LiteralOf Term) (y : Term-F Term) → needs (term.Lit l) (made y) ≡ plain_needs (layer.Lit (map_literal needs l)) y
needs_lit_layer l y = ap (λ f. f (made y)) (fold_lit (Term → Needs) needs_step l) ∙ ap (plain_needs (layer.Lit (map_literal needs l))) (out_made y)

pub needs_list_layer : (l : ListingOf Term) (y : Term-F Term) → needs (term.List l) (made y) ≡ plain_needs (layer.List (map_listing needs l)) y
needs_list_layer l y = ap (λ f. f (made y)) (fold_list (Term → Needs) needs_step l) ∙ ap (plain_needs (layer.List (map_listing needs l))) (out_made y)

pub needs_op_layer : (a : ArithOf Term) (y : Term-F Term) → needs (term.Op a) (made y) ≡ plain_needs (layer.Op (map_arith needs a)) y
needs_op_layer a y = ap (λ f. f (made y)) (fold_op (Term → Needs) needs_step a) ∙ ap (plain_needs (layer.Op (map_arith needs a))) (out_made y)

pub needs_lit : (l m : LiteralOf Term) → needs (term.Lit l) (term.Lit m) ≡ literal_needs l.neg l.functor (map needs l.args) (map needs l.annots) m
needs_lit l m = needs_lit_layer l (layer.Lit m)

pub needs_list : (l m : ListingOf Term) → needs (term.List l) (term.List m) ≡ list_needs (map needs l.items) (option_map needs l.tail) m.items m.tail
needs_list l m = needs_list_layer l (layer.List m)

pub needs_op : (a b : ArithOf Term) → needs (term.Op a) (term.Op b) ≡ plain_needs (layer.Op (map_arith needs a)) (layer.Op b)
needs_op a b = needs_op_layer a (layer.Op b)

-- ---- nothing

pub all_differ : (fs : List (Term → Needs)) (ts : List Term) → (length fs ≡ length ts → ⊥) → all_need fs ts ≡ None
all_differ [] [] n = absurd (n refl)
all_differ [] (t ∷ ts) n = refl
all_differ (f ∷ fs) [] n = refl
all_differ (f ∷ fs) (t ∷ ts) n = go (f t) (all_need fs ts) (all_differ fs ts (λ e. n (omega (arith, e)))) where
  go : (a b : Needs) → b ≡ None → both a b ≡ None
  go None b e = refl
  go (Some ps) b e = ap (both (Some ps)) e

pub all_short : (hs gs : List Term) → (length hs ≡ length gs → ⊥) → None ≡ all_need (map needs hs) gs
all_short hs gs n = sym (all_differ (map needs hs) gs (λ e. n (sym (length-map hs needs) ∙ e)))

-- ---- lists

module _ (h g : Term) (l m : ListingOf Term) (is : h ≡ term.List l) (are : g ≡ term.List m) where
  as_lists : needs h g ≡ list_needs (map needs l.items) (option_map needs l.tail) m.items m.tail
  as_lists = (λ i. needs (is i) (are i)) ∙ needs_list l m

  abbrev items_need : Needs
  items_need = all_need (map needs l.items) (take (length l.items) m.items)

  by_length : list_needs (map needs l.items) (option_map needs l.tail) m.items m.tail
      ≡ both items_need (end_needs (option_map needs l.tail) (drop (length l.items) m.items) m.tail)
  by_length = ap (λ n. both (all_need (map needs l.items) (take n m.items))
      (end_needs (option_map needs l.tail) (drop n m.items) m.tail)) (length-map l.items needs)

  pub list_ended : l.tail ≡ None → both items_need (nothing_if (is_empty (drop (length l.items) m.items) m.tail)) ≡ needs h g
  list_ended e = sym (as_lists ∙ by_length ∙ ap (λ t. both items_need (end_needs (option_map needs t) (drop (length l.items) m.items) m.tail)) e)

  pub list_going : (t : Term) → l.tail ≡ Some t → both items_need (needs t (rest (drop (length l.items) m.items) m.tail)) ≡ needs h g
  list_going t e = sym (as_lists ∙ by_length ∙ ap (λ t. both items_need (end_needs (option_map needs t) (drop (length l.items) m.items) m.tail)) e)
