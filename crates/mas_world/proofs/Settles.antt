-- What settles has no operation left.
use Rattle.std.proofs.Common.{◌≡◌, ℤ, Bool, true, false, ◌&&◌, List, [], ◌∷◌, map, Option, Some, None, refl, ap, sym, ◌∙◌}
use Rattle.std.specs.List.{AllByRecursion}
use Rattle.std.specs.Option.{option_map}
use Rattle.std.specs.Prelude.{Ok, Err}
use Rattle.asl_term.specs.declared.syntax.ListingOf.{ListingOf}
use Rattle.asl_term.specs.declared.syntax.LiteralOf.{LiteralOf}
use Rattle.asl_term.specs.declared.syntax.Op.{Op}
use Rattle.asl_term.specs.declared.syntax.Term.{Term}
use Rattle.asl_term.specs.declared.syntax.Term.TheVariants as term
use Rattle.asl_term.specs.Trees.{all, or_true}
use Rattle.asl_term.proofs.Terms.{OfTail, by_cases, fold_num, fold_str, fold_var, fold_lit, fold_list, fold_op}
use Rattle.asl_unify.specs.Settling.{Settled, and_then, each, if_any, operation, settle, settle_literal, settle_step, with_parts}
use Rattle.mas_world.specs.Facts.{is_settled, is_settled_literal, settled_step}

pub both : (a b : Bool) → a ≡ true → b ≡ true → (a && b) ≡ true
both true b g h = h
both false b g h = cc

-- what is to be shown of each term
abbrev Settles : Term → Type 0
Settles t = (r : Term) → settle t ≡ Ok r → is_settled r ≡ true

-- and of a list of them
abbrev AllSettle : Settled (List Term) → Type 0
AllSettle s = (rs : List Term) → s ≡ Ok rs → all (map is_settled rs) ≡ true

-- a first and the others
pair : (s : Settled Term) (more : Settled (List Term)) → ((r : Term) → s ≡ Ok r → is_settled r ≡ true) → AllSettle more → AllSettle (and_then s (λ x. and_then more (λ xs. Ok (x ∷ xs))))
pair (Err e) more p q rs h = cc
pair (Ok x) (Err e) p q rs h = cc
pair (Ok x) (Ok xs) p q rs h =
    let is : x ∷ xs ≡ rs = cc in
    ap (λ z. all (map is_settled z)) (sym is) ∙ both (is_settled x) (all (map is_settled xs)) (p x refl) (q xs refl)

all_settle : (ts : List Term) → AllByRecursion Settles ts → AllSettle (each (map settle ts))
all_settle [] a rs h = let is : [] ≡ rs = cc in ap (λ z. all (map is_settled z)) (sym is)
all_settle (t ∷ ts) a rs h = pair (settle t) (each (map settle ts)) a.0 (all_settle ts a.1) rs h

settled_lit : (l : LiteralOf Term) → all (map is_settled l.args) ≡ true → all (map is_settled l.annots) ≡ true → is_settled (term.Lit l) ≡ true
settled_lit l p q = fold_lit Bool settled_step l ∙ both (all (map is_settled l.args)) (all (map is_settled l.annots)) p q

-- of a literal's parts
literal_of : (l : LiteralOf Term) (args annots : Settled (List Term)) → AllSettle args → AllSettle annots → (m : LiteralOf Term) → with_parts l args annots ≡ Ok m → is_settled (term.Lit m) ≡ true
literal_of l (Err e) annots p q m h = cc
literal_of l (Ok xs) (Err e) p q m h = cc
literal_of l (Ok xs) (Ok ys) p q m h =
    let new : LiteralOf Term = record { neg = l.neg; functor = l.functor; args = xs; annots = ys } in
    let is : new ≡ m = cc in
    ap (λ z. is_settled (term.Lit z)) (sym is) ∙ settled_lit new (p xs refl) (q ys refl)

made_literal : (s : Settled (LiteralOf Term)) (r : Term) → ((m : LiteralOf Term) → s ≡ Ok m → is_settled (term.Lit m) ≡ true) → and_then s (λ m. Ok (term.Lit m)) ≡ Ok r → is_settled r ≡ true
made_literal (Err e) r p h = cc
made_literal (Ok m) r p h = let is : term.Lit m ≡ r = cc in ap is_settled (sym is) ∙ p m refl

-- of a list's parts
tail_settles : (t : Option Term) → OfTail Settles t → (r : Option Term) → if_any (option_map settle t) ≡ Ok r → or_true (option_map is_settled r) ≡ true
tail_settles None a r h = let is : None ≡ r = cc in ap (λ z. or_true (option_map is_settled z)) (sym is)
tail_settles (Some t) a r h = go (settle t) a h where
  go : (s : Settled Term) → ((x : Term) → s ≡ Ok x → is_settled x ≡ true) → and_then s (λ x. Ok (Some x)) ≡ Ok r → or_true (option_map is_settled r) ≡ true
  go (Err e) p h = cc
  go (Ok x) p h = let is : Some x ≡ r = cc in ap (λ z. or_true (option_map is_settled z)) (sym is) ∙ p x refl

list_of : (items : Settled (List Term)) (tail : Settled (Option Term)) (r : Term) → AllSettle items → ((t : Option Term) → tail ≡ Ok t → or_true (option_map is_settled t) ≡ true) → and_then items (λ xs. and_then tail (λ t. Ok (term.List (record { items = xs; tail = t })))) ≡ Ok r → is_settled r ≡ true
list_of (Err e) tail r p q h = cc
list_of (Ok xs) (Err e) r p q h = cc
list_of (Ok xs) (Ok t) r p q h =
    let new : ListingOf Term = record { items = xs; tail = t } in
    let is : term.List new ≡ r = cc in
    ap is_settled (sym is) ∙ fold_list Bool settled_step new ∙ both (all (map is_settled xs)) (or_true (option_map is_settled t)) (p xs refl) (q t refl)

number : (n : ℤ) (r : Term) → term.Num n ≡ r → is_settled r ≡ true
number n r is = ap is_settled (sym is) ∙ fold_num Bool settled_step n

number_of : (op : Op) (left right : Settled Term) (r : Term) → and_then left (λ x. and_then right (λ y. and_then (operation op x y) (λ n. Ok (term.Num n)))) ≡ Ok r → is_settled r ≡ true
number_of op (Err e) right r h = cc
number_of op (Ok x) (Err e) r h = cc
number_of op (Ok x) (Ok y) r h = go (operation op x y) h where
  go : (s : Settled ℤ) → and_then s (λ n. Ok (term.Num n)) ≡ Ok r → is_settled r ≡ true
  go (Err e) h = cc
  go (Ok n) h = number n r (cc)

settles : (t : Term) → Settles t
settles = by_cases Settles (record {
  at_num = λ n r h. let e = fold_num (Settled Term) settle_step n in number n r (cc);
  at_str = λ b r h. let e = fold_str (Settled Term) settle_step b in let is : term.Str b ≡ r = cc in ap is_settled (sym is) ∙ fold_str Bool settled_step b;
  at_var = λ v r h. let e = fold_var (Settled Term) settle_step v in let is : term.Var v ≡ r = cc in ap is_settled (sym is) ∙ fold_var Bool settled_step v;
  at_lit = λ l args annots r h.
      made_literal (with_parts l (each (map settle l.args)) (each (map settle l.annots))) r
      (literal_of l (each (map settle l.args)) (each (map settle l.annots)) (all_settle l.args args) (all_settle l.annots annots))
      (sym (fold_lit (Settled Term) settle_step l) ∙ h);
  at_list = λ l items tail r h.
      list_of (each (map settle l.items)) (if_any (option_map settle l.tail)) r (all_settle l.items items) (tail_settles l.tail tail)
      (sym (fold_list (Settled Term) settle_step l) ∙ h);
  at_op = λ a left right r h. number_of a.op (settle a.left) (settle a.right) r (sym (fold_op (Settled Term) settle_step a) ∙ h);
})

every : (ts : List Term) → AllByRecursion Settles ts
every [] = tt
every (t ∷ ts) = (settles t, every ts)

-- a settled literal has none
pub literal_settles : (l m : LiteralOf Term) → settle_literal l ≡ Ok m → is_settled_literal m ≡ true
literal_settles l m h =
    literal_of l (each (map settle l.args)) (each (map settle l.annots)) (all_settle l.args (every l.args)) (all_settle l.annots (every l.annots)) m h
