-- The list of the texts of plans, and its limits.
use Rattle.std.proofs.Common.{◌≡◌, ◌≤◌, ◌<◌, ℕ, ◌+◌, true, false, List, [], ◌∷◌, ◌++◌, length, take, get_or, None, refl, ap, sym, ◌∙◌, cond, length-append, arith}
use Rattle.std.specs.Option.{option_to_list}
use Rattle.std.proofs.lemmas.List.{length-map}
use Rattle.std.proofs.lemmas.List.Folds.{length-flat_map-take}
use Rattle.asl_term.specs.Trees.{size, size_step, depth, depth_step}
use Rattle.asl_term.specs.declared.syntax.Term.{Term}
use Rattle.asl_term.specs.declared.syntax.Term.TheVariants as term
use Rattle.asl_term.proofs.Terms.{fold_str, fold_list}
use Rattle.asl_unify.specs.Limits.{within}
use Rattle.asl_unify.specs.Puts.{nil}
use Rattle.asl_unify.specs.inner.Leaves.{sizes, depths}
use Rattle.asl_unify.proofs.Sizes.{sizes_cons, fits_within, passes_within}
use Rattle.asl_plans.specs.declared.entry.OwnedPlan.{OwnedPlan}
use Rattle.asl_plans.specs.declared.library.Choice.{Choice}
use Rattle.asl_kqml.specs.Receive.{choice_text, texts_of, string_items, string_list, limited_strings}

string_sizes : (texts : List (List ℕ)) → sizes (string_items texts) ≡ length texts
string_sizes [] = refl
string_sizes (t ∷ ts) =
    let one = sizes_cons (term.Str t) (string_items ts) in
    let node = fold_str ℕ size_step t in
    let more = string_sizes ts in omega (arith, one, node, more)

string_depths : (texts : List (List ℕ)) → depths (string_items texts) ≤ 1
string_depths [] = omega arith
string_depths (t ∷ ts) =
    let level = fold_str ℕ depth_step t in
    let more = string_depths ts in omega (arith, level, more)

list_size : (texts : List (List ℕ)) → size (string_list texts) ≡ 1 + length texts
list_size texts =
    let whole = fold_list ℕ size_step (record { items = string_items texts; tail = None }) in
    let items = string_sizes texts in omega (arith, whole, items)

list_depth : (texts : List (List ℕ)) → depth (string_list texts) ≤ 2
list_depth texts =
    let whole = fold_list ℕ depth_step (record { items = string_items texts; tail = None }) in
    let items = string_depths texts in omega (arith, whole, items)

pub few_texts : (texts : List (List ℕ)) → length texts ≤ 9999 → limited_strings texts ≡ string_list texts
few_texts texts h =
    let nodes = list_size texts in
    let levels = list_depth texts in
    let inside : true ≡ within (string_list texts) = fits_within (string_list texts) (omega (arith, levels)) (omega (arith, nodes, h)) in
    ap (λ b. cond b (string_list texts) nil) (sym inside)

pub many_texts : (texts : List (List ℕ)) → 9999 < length texts → limited_strings texts ≡ nil
many_texts texts h =
    let nodes = list_size texts in
    let outside : false ≡ within (string_list texts) = passes_within (string_list texts) (λ d n. omega (arith, nodes, h, n)) in
    ap (λ b. cond b (string_list texts) nil) (sym outside)

-- ---- one more text

-- where the first texts are too many, all are
pub too_many : (lib : List OwnedPlan) (cs : List Choice) (k : ℕ) (c : Choice) (found : List Term) → k < length cs
    → found ≡ string_items (texts_of lib (take k cs)) ++ string_items (option_to_list (choice_text lib (get_or cs k c)))
    → 9999 < length found → 9999 < length (texts_of lib cs)
too_many lib cs k c found lt is h =
    let text = λ (d : Choice). option_to_list (choice_text lib d) in
    let before = texts_of lib (take k cs) in
    let here = text (get_or cs k c) in
    let both = ap length is ∙ length-append (string_items before) (string_items here) in
    let counted = length-map before term.Str in
    let one = length-map here term.Str in
    let all = length-flat_map-take text cs k c lt in omega (arith, both, counted, one, all, h)
