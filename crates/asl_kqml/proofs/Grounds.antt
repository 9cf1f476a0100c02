-- What is told without variables is believed without variables.
use Rattle.std.proofs.Common.{◌≡◌, ℕ, Bool, true, false, List, [], ◌∷◌, map, filter, cond, refl, ap, sym, ◌∙◌, Option, None, Some}
use Rattle.std.specs.Prelude.{not, is_none}
use Rattle.std.specs.Option.{IfSome, option_map}
use Rattle.asl_term.specs.declared.syntax.LiteralOf.{LiteralOf}
use Rattle.asl_term.specs.declared.syntax.Term.{Term}
use Rattle.asl_term.specs.declared.syntax.Term.TheOpen.{Term-F}
use Rattle.asl_term.specs.declared.syntax.Term.TheOpen as layer
use Rattle.asl_term.specs.declared.syntax.Term.TheViews.{out-Term}
use Rattle.asl_term.specs.Exprs.{is_ground_literal}
use Rattle.asl_term.specs.Layers.{made}
use Rattle.asl_term.specs.Trees.{all, or_true, is_ground}
use Rattle.asl_term.proofs.Grounds.{ground_list}
use Rattle.asl_term.proofs.Terms.{made_out}
use Rattle.asl_beliefs.specs.Bases.{all_ground}
use Rattle.asl_beliefs.specs.Sources.{is_source, source}
use Rattle.asl_beliefs.proofs.Initial.{source_ground, all_ground_map}
use Rattle.asl_beliefs.proofs.Sound.{both_true, true_both, ground_parts, ground_with, ground_append, ground_filter}
use Rattle.asl_exec_circumstance.specs.Contents.{literal_layer, before, all_literals, literals_layer, literals_of, ground_literals}
use Rattle.asl_kqml.specs.Receive.{sourced}

-- literals without variables, where there are literals
abbrev pub Closed : Option (List (LiteralOf Term)) → Type 0
Closed o = IfSome o (λ ls. all_ground ls ≡ true)

literal_closed : (x : Term-F Term) → is_ground (made x) ≡ true → (o : Option (List (LiteralOf Term))) → Closed o → Closed (before (literal_layer x) o)
literal_closed (layer.Lit l) e None h = tt
literal_closed (layer.Lit l) e (Some ls) h = true_both (is_ground_literal l) (all_ground ls) e h
literal_closed (layer.Num n) e o h = tt
literal_closed (layer.Str b) e o h = tt
literal_closed (layer.Var v) e o h = tt
literal_closed (layer.List l) e o h = tt
literal_closed (layer.Op a) e o h = tt

items_closed : (ts : List Term) → all (map is_ground ts) ≡ true → Closed (all_literals ts)
items_closed [] e = refl
items_closed (t ∷ ts) e =
    let both = both_true (is_ground t) (all (map is_ground ts)) e in
    literal_closed (out-Term t) (ap is_ground (made_out t) ∙ both.0) (all_literals ts) (items_closed ts both.1)

layer_closed : (x : Term-F Term) → is_ground (made x) ≡ true → Closed (literals_layer x)
layer_closed (layer.Lit l) e = true_both (is_ground_literal l) true e refl
layer_closed (layer.List l) e = go (is_none l.tail) where
  both : (all (map is_ground l.items) ≡ true) × (or_true (option_map is_ground l.tail) ≡ true)
  both = both_true (all (map is_ground l.items)) (or_true (option_map is_ground l.tail)) (sym (ground_list l) ∙ e)

  go : (b : Bool) → Closed (cond b (all_literals l.items) None)
  go true = items_closed l.items both.0
  go false = tt
layer_closed (layer.Num n) e = tt
layer_closed (layer.Str b) e = tt
layer_closed (layer.Var v) e = tt
layer_closed (layer.Op a) e = tt

pub content_closed : (t : Term) → Closed (ground_literals t)
content_closed t = go (is_ground t) refl where
  go : (b : Bool) → is_ground t ≡ b → Closed (cond b (literals_of t) None)
  go true e = layer_closed (out-Term t) (ap is_ground (made_out t) ∙ e)
  go false e = tt

sourced_ground : (name : List ℕ) (l : LiteralOf Term) → is_ground_literal l ≡ true → is_ground_literal (sourced name l) ≡ true
sourced_ground name l e =
    let others = filter (λ a. not (is_source a)) l.annots in
    ground_with l _ e (ground_append others (source name ∷ []) (ground_filter _ l.annots (ground_parts l e).1) (source_ground name))

pub all_sourced_ground : (name : List ℕ) (ls : List (LiteralOf Term)) → all_ground ls ≡ true → all_ground (map (sourced name) ls) ≡ true
all_sourced_ground name = all_ground_map (sourced name) (sourced_ground name)
