-- Variables noted from left to right.
use Rattle.std.proofs.Common.{◌≡◌, ℕ, ◌<◌, ◌+◌, List, [], ◌∷◌, ◌++◌, map, take, length, get_or, refl, sym, ap, ◌∙◌}
use Rattle.std.specs.Prelude.{Some, unwrap_or}
use Rattle.std.specs.Option.{option_map}
use Rattle.std.proofs.lemmas.List.{map_more, flat_map_more}
use Rattle.asl_term.specs.declared.syntax.Var.{Var}
use Rattle.asl_term.specs.declared.syntax.LiteralOf.{LiteralOf}
use Rattle.asl_term.specs.declared.syntax.ListingOf.{ListingOf}
use Rattle.asl_term.specs.declared.syntax.ArithOf.{ArithOf}
use Rattle.asl_term.specs.declared.syntax.Term.{Term}
use Rattle.asl_term.specs.declared.syntax.Term.TheVariants as term
use Rattle.asl_term.proofs.Terms.{fold_lit, fold_list, fold_op}
use Rattle.asl_term.specs.Variables.{vars, vars_step, joined, with_var, noted}

pub noted_append : (found xs ys : List Var) → noted found (xs ++ ys) ≡ noted (noted found xs) ys
noted_append found [] ys = refl
noted_append found (x ∷ xs) ys = noted_append (with_var found x) xs ys

joined_push : (xss : List (List Var)) (xs : List Var) → joined (xss ++ xs ∷ []) ≡ joined xss ++ xs
joined_push xss xs = sym (flat_map_more (λ x. x) [] xss xs)

pub noted_more : (start now new : List Var) (ts : List Term) (k : ℕ) (t : Term) → now ≡ noted start (joined (map vars (take k ts))) → k < length ts → t ≡ get_or ts k t → new ≡ noted now (vars t) → new ≡ noted start (joined (map vars (take (k + 1) ts)))
noted_more start now new ts k t i h e g =
    g ∙ ap (λ z. noted z (vars t)) i
    ∙ sym (noted_append start (joined (map vars (take k ts))) (vars t))
    ∙ ap (noted start) (sym (joined_push (map vars (take k ts)) (vars t)))
    ∙ ap (λ z. noted start (joined (map vars (take k ts) ++ vars z ∷ []))) e
    ∙ ap (λ z. noted start (joined z)) (sym (map_more vars ts k t h))

module _ (t : Term) (old mid new : List Var) where
  both : (xs ys : List Var) → mid ≡ noted old xs → new ≡ noted mid ys → vars t ≡ xs ++ ys → new ≡ noted old (vars t)
  both xs ys e g is = g ∙ ap (λ z. noted z ys) e ∙ sym (noted_append old xs ys) ∙ ap (noted old) (sym is)

  pub noted_lit : (l : LiteralOf Term) → t ≡ term.Lit l → mid ≡ noted old (joined (map vars l.args)) → new ≡ noted mid (joined (map vars l.annots)) → new ≡ noted old (vars t)
  noted_lit l is e g = both (joined (map vars l.args)) (joined (map vars l.annots)) e g (ap vars is ∙ fold_lit (List Var) vars_step l)

  pub noted_list : (l : ListingOf Term) (u : Term) → t ≡ term.List l → l.tail ≡ Some u → mid ≡ noted old (joined (map vars l.items)) → new ≡ noted mid (vars u) → new ≡ noted old (vars t)
  noted_list l u is at e g =
      both (joined (map vars l.items)) (vars u) e g
      (ap vars is ∙ fold_list (List Var) vars_step l ∙ ap (λ z. joined (map vars l.items) ++ unwrap_or (option_map vars z) []) at)

  pub noted_op : (a : ArithOf Term) → t ≡ term.Op a → mid ≡ noted old (vars a.left) → new ≡ noted mid (vars a.right) → new ≡ noted old (vars t)
  noted_op a is e g = both (vars a.left) (vars a.right) e g (ap vars is ∙ fold_op (List Var) vars_step a)
