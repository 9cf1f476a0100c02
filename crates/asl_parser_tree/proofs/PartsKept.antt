-- What is kept of lists, literals and calls is what is made of what is kept of their parts.
use Rattle.std.proofs.Common.{◌≡◌, ℕ, suc, map, Bool, true, false, cond, ◌&&◌, ◌||◌, List, [], ◌∷◌, ◌++◌, length, Option, Some, None, refl, sym, ap, ◌∙◌, append_assoc}
use Rattle.std.specs.Option.{option_map}
use Rattle.std.specs.List.{list_all}
use Rattle.std.proofs.lemmas.List.{append-nil, length-map}
use Rattle.asl_term.specs.declared.syntax.LiteralOf.{LiteralOf}
use Rattle.asl_term.specs.declared.syntax.ListingOf.{ListingOf}
use Rattle.asl_term.specs.declared.syntax.CallOf.{CallOf}
use Rattle.asl_term.specs.declared.syntax.ArgOf.{ArgOf}
use Rattle.asl_term.specs.declared.syntax.ArgOf.TheVariants.{Plain, Logic}
use Rattle.asl_term.specs.declared.syntax.Term.{Term}
use Rattle.asl_term.specs.declared.syntax.Term.TheVariants as term
use Rattle.asl_term.specs.declared.syntax.Expr.{Expr}
use Rattle.asl_term.specs.Trees.{or_true}
use Rattle.asl_parser_tree.specs.declared.meaning.Meaning.{Meaning}
use Rattle.asl_parser_tree.specs.declared.meaning.Meaning.TheVariants as meaning
use Rattle.asl_parser_tree.specs.declared.bounded.Bounded.TheVariants.{Past}
use Rattle.asl_parser_tree.specs.Meanings.{◌>>=◌, is_pure, is_deed, wants_formula}
use Rattle.asl_parser_tree.specs.Meanings.{called as true_called, as_terms as true_terms, as_args as true_args}
use Rattle.asl_parser_tree.specs.Meanings as meanings
use Rattle.asl_parser_tree.specs.Conjuncts.{has_parts}
use Rattle.asl_parser_tree.specs.Plain.{is_plain, are_plain, is_plain_literal, is_plain_listing, is_none, is_action}
use Rattle.asl_parser_tree.specs.Holding.{Bounds, fits_term, fits_expr, Kept, KeptTerm, KeptTerms, KeptExpr, KeptArg, KeptArgs, term_outline, call_outline, literal_outline, keep_if, hold, hold_if, hold_term, hold_formula, hold_terms, hold_listing, has_small_parts, hold_literal, is_small_arg, hold_arg, hold_args, put_term, terms_behind, as_terms, listed, literal_of, literal_held, listing_held, term_arg, formula_arg, as_arg, put_arg, args_behind, as_args, call_of, called}
use Rattle.asl_parser_tree.proofs.Options.{some_is}
use Rattle.asl_parser_tree.proofs.Past.{literal_past, listing_past, call_past}
use Rattle.asl_parser_tree.proofs.Keeping.{listing_plain, term_held, formula_held}

all_append : {A : Type 0} (p : A → Bool) (xs ys : List A) → list_all p (xs ++ ys) ≡ (list_all p xs && list_all p ys)
all_append p [] ys = refl
all_append p (x ∷ xs) ys = go (p x) (all_append p xs ys)
  where
    go : (b : Bool) → list_all p (xs ++ ys) ≡ (list_all p xs && list_all p ys) → (b && list_all p (xs ++ ys)) ≡ ((b && list_all p xs) && list_all p ys)
    go true again = again
    go false again = refl

one : (b : Bool) → (b && true) ≡ b
one true = refl
one false = refl

pub all_one : {A : Type 0} (p : A → Bool) (xs : List A) (x : A) → list_all p (xs ++ x ∷ []) ≡ (list_all p xs && p x)
all_one p xs x = all_append p xs (x ∷ []) ∙ ap (λ (b : Bool). list_all p xs && b) (one (p x))

plain_append : (ts us : List Term) → are_plain (ts ++ us) ≡ (are_plain ts && are_plain us)
plain_append [] us = refl
plain_append (t ∷ ts) us = go (is_plain t) (plain_append ts us)
  where
    go : (b : Bool) → are_plain (ts ++ us) ≡ (are_plain ts && are_plain us) → (b && are_plain (ts ++ us)) ≡ ((b && are_plain ts) && are_plain us)
    go true again = again
    go false again = refl

plain_one : (ts : List Term) (t : Term) → are_plain (ts ++ t ∷ []) ≡ (are_plain ts && is_plain t)
plain_one ts t = plain_append ts (t ∷ []) ∙ ap (λ (b : Bool). are_plain ts && b) (one (is_plain t))

-- there are as many arguments as meanings
args_length : (name : List ℕ) (place : ℕ) (ms : List Meaning) (args : List (ArgOf Expr)) → true_args name place ms ≡ Some args → length args ≡ length ms
unfolding true_args
args_length name place [] args e = ap length (sym (some_is [] args e))
args_length name place (m ∷ ms) args e = go (meanings.as_arg (wants_formula name place) m) (true_args name (suc place) ms) refl e (λ others f. args_length name (suc place) ms others f)
  where
    go : (o : Option (ArgOf Expr)) (p : Option (List (ArgOf Expr))) → true_args name (suc place) ms ≡ p → (o >>= λ a. p >>= λ others. Some (a ∷ others)) ≡ Some args → ((others : List (ArgOf Expr)) → true_args name (suc place) ms ≡ Some others → length others ≡ length ms) → length args ≡ suc (length ms)
    go None p f e again = absurd cc
    go (Some a) None f e again = absurd cc
    go (Some a) (Some others) f e again = ap length (sym (some_is (a ∷ others) args e)) ∙ ap suc (again others f)

abbrev literal : Bool → List ℕ → List Term → List Term → LiteralOf Term
literal neg name args annots = record { neg = neg; functor = name; args = args; annots = annots }

abbrev longer : List Term → ListingOf Term → ListingOf Term
longer ts l = record { items = ts ++ l.items; tail = l.tail }

abbrev call : List ℕ → List (ArgOf Expr) → CallOf Expr
call name args = record { name = name; args = args }

module _ (bs : Bounds) where
  -- ---- tests of lists

  -- ---- terms

  put_held : (ts : List Term) (t : Term) → put_term (hold_terms bs ts) (hold_term bs t) ≡ hold_terms bs (ts ++ t ∷ [])
  put_held ts t =
      go (list_all (fits_term bs) ts) (fits_term bs t)
      ∙ ap (λ (b : Bool). keep_if b (ts ++ t ∷ []) (are_plain ts && is_plain t)) (sym (all_one (fits_term bs) ts t))
      ∙ ap (λ (p : Bool). keep_if (list_all (fits_term bs) (ts ++ t ∷ [])) (ts ++ t ∷ []) p) (sym (plain_one ts t))
    where
      go : (b c : Bool) → put_term (keep_if b ts (are_plain ts)) (keep_if c t (is_plain t)) ≡ keep_if (b && c) (ts ++ t ∷ []) (are_plain ts && is_plain t)
      go true true = refl
      go true false = refl
      go false true = refl
      go false false = refl

  abbrev behind_terms : List Term → Option (List Term) → Option KeptTerms
  behind_terms front o = option_map (λ ts. hold_terms bs (front ++ ts)) o

  regroup : (front : List Term) (t : Term) (o : Option (List Term)) → behind_terms (front ++ t ∷ []) o ≡ behind_terms front (o >>= λ ts. Some (t ∷ ts))
  regroup front t None = refl
  regroup front t (Some ts) = ap (λ (us : List Term). Some (hold_terms bs us)) (append_assoc front (t ∷ []) ts)

  terms_from : (front : List Term) (ms : List Meaning) → terms_behind bs (hold_terms bs front) (map (hold bs) ms) ≡ behind_terms front (true_terms ms)
  unfolding terms_behind
  terms_from front [] = ap (λ (ts : List Term). Some (hold_terms bs ts)) (sym (append-nil front))
  terms_from front (m ∷ ms) = ap (λ (o : Option KeptTerm). o >>= λ t. terms_behind bs (put_term (hold_terms bs front) t) (map (hold bs) ms)) (term_held bs m) ∙ go (meanings.as_term m) (λ k. terms_from k ms)
    where
      go : (o : Option Term) → ((k : List Term) → terms_behind bs (hold_terms bs k) (map (hold bs) ms) ≡ behind_terms k (true_terms ms)) → (option_map (hold_term bs) o >>= λ t. terms_behind bs (put_term (hold_terms bs front) t) (map (hold bs) ms)) ≡ behind_terms front (o >>= λ t. true_terms ms >>= λ ts. Some (t ∷ ts))
      go None again = refl
      go (Some t) again = ap (λ (k : KeptTerms). terms_behind bs k (map (hold bs) ms)) (put_held front t) ∙ again (front ++ t ∷ []) ∙ regroup front t (true_terms ms)

  pub terms_held : (ms : List Meaning) → as_terms bs (map (hold bs) ms) ≡ option_map (hold_terms bs) (true_terms ms)
  terms_held ms = terms_from [] ms

  -- ---- literals

  none_past : (ts : List Term) → list_all (fits_term bs) ts ≡ false → is_none ts ≡ false
  none_past [] e = absurd cc
  none_past (t ∷ ts) e = refl

  pub literal_made : (neg : Bool) (name : List ℕ) (args annots : List Term) → literal_of neg name (hold_terms bs args) (hold_terms bs annots) ≡ hold_literal bs (record { neg = neg; functor = name; args = args; annots = annots })
  literal_made neg name args annots = go (list_all (fits_term bs) args) (list_all (fits_term bs) annots) refl
    where
      go : (b c : Bool) → list_all (fits_term bs) annots ≡ c → literal_of neg name (keep_if b args (are_plain args)) (keep_if c annots (are_plain annots)) ≡ keep_if (b && c) (literal neg name args annots) (literal_outline (is_action (literal neg name args annots)) (is_plain_literal (literal neg name args annots)))
      go true true e = refl
      go true false e = ap (λ (n : Bool). Past (literal_outline (cond neg false n) (are_plain args && are_plain annots))) (sym (none_past annots e))
      go false true e = refl
      go false false e = ap (λ (n : Bool). Past (literal_outline (cond neg false n) (are_plain args && are_plain annots))) (sym (none_past annots e))

  pub literal_settled : (l : LiteralOf Term) → literal_held bs (hold_literal bs l) ≡ hold bs (meaning.Literal l)
  literal_settled l = go (has_small_parts bs l) refl
    where
      go : (b : Bool) → has_small_parts bs l ≡ b → literal_held bs (keep_if b l (literal_outline (is_action l) (is_plain_literal l))) ≡ hold bs (meaning.Literal l)
      go true e = refl
      go false e = ap (λ (b : Bool). keep_if b (meaning.Literal l) (literal_outline (is_action l) (is_plain_literal l))) (sym (literal_past bs l e))

  -- ---- lists

  pub listing_made : (ts : List Term) (l : ListingOf Term) → listed (hold_terms bs ts) (hold_listing bs l) ≡ hold_listing bs (record { items = ts ++ l.items; tail = l.tail })
  listing_made ts l =
      go (list_all (fits_term bs) ts) (list_all (fits_term bs) l.items)
      ∙ ap (λ (b : Bool). keep_if b (longer ts l) (are_plain ts && is_plain_listing l)) (sym (all_append (fits_term bs) ts l.items))
      ∙ ap (λ (p : Bool). keep_if (list_all (fits_term bs) (ts ++ l.items)) (longer ts l) p) (grouped (are_plain ts) (are_plain l.items) ∙ ap (λ (b : Bool). b && or_true (option_map is_plain l.tail)) (sym (plain_append ts l.items)))
    where
      go : (b c : Bool) → listed (keep_if b ts (are_plain ts)) (keep_if c l (is_plain_listing l)) ≡ keep_if (b && c) (longer ts l) (are_plain ts && is_plain_listing l)
      go true true = refl
      go true false = refl
      go false true = refl
      go false false = refl

      grouped : (b c : Bool) → (b && (c && or_true (option_map is_plain l.tail))) ≡ ((b && c) && or_true (option_map is_plain l.tail))
      grouped true c = refl
      grouped false c = refl

  pub listing_settled : (l : ListingOf Term) → listing_held bs (hold_listing bs l) ≡ hold bs (meaning.Term (term.List l))
  listing_settled l = go (list_all (fits_term bs) l.items) refl
    where
      go : (b : Bool) → list_all (fits_term bs) l.items ≡ b → listing_held bs (keep_if b l (is_plain_listing l)) ≡ hold bs (meaning.Term (term.List l))
      go true e = refl
      go false e = ap (λ (p : Bool). Past (term_outline p)) (sym (listing_plain l)) ∙ ap (λ (b : Bool). keep_if b (meaning.Term (term.List l)) (term_outline (is_plain (term.List l)))) (sym (listing_past bs l e))

  -- ---- calls

  arg_held : (logic : Bool) (m : Meaning) → as_arg bs logic (hold bs m) ≡ option_map (hold_arg bs) (meanings.as_arg logic m)
  arg_held true m = ap (λ (o : Option KeptExpr). option_map formula_arg o) (formula_held bs m) ∙ go (meanings.as_formula m)
    where
      at : (b : Bool) (e : Expr) → formula_arg (keep_if b e (has_parts e)) ≡ keep_if b (Logic e) tt
      at true e = refl
      at false e = refl

      go : (o : Option Expr) → option_map formula_arg (option_map (hold_formula bs) o) ≡ option_map (hold_arg bs) (option_map Logic o)
      go None = refl
      go (Some e) = ap (λ (k : KeptArg). Some k) (at (fits_expr bs e) e)
  arg_held false m = ap (λ (o : Option KeptTerm). option_map term_arg o) (term_held bs m) ∙ go (meanings.as_term m)
    where
      at : (b : Bool) (t : Term) → term_arg (keep_if b t (is_plain t)) ≡ keep_if b (Plain t) tt
      at true t = refl
      at false t = refl

      go : (o : Option Term) → option_map term_arg (option_map (hold_term bs) o) ≡ option_map (hold_arg bs) (option_map Plain o)
      go None = refl
      go (Some t) = ap (λ (k : KeptArg). Some k) (at (fits_term bs t) t)

  put_arg_held : (args : List (ArgOf Expr)) (a : ArgOf Expr) → put_arg (hold_args bs args) (hold_arg bs a) ≡ hold_args bs (args ++ a ∷ [])
  put_arg_held args a = go (list_all (is_small_arg bs) args) (is_small_arg bs a) ∙ ap (λ (b : Bool). keep_if b (args ++ a ∷ []) tt) (sym (all_one (is_small_arg bs) args a))
    where
      go : (b c : Bool) → put_arg (keep_if b args tt) (keep_if c a tt) ≡ keep_if (b && c) (args ++ a ∷ []) tt
      go true true = refl
      go true false = refl
      go false true = refl
      go false false = refl

  abbrev behind_args : List (ArgOf Expr) → Option (List (ArgOf Expr)) → Option KeptArgs
  behind_args front o = option_map (λ args. hold_args bs (front ++ args)) o

  regroup_args : (front : List (ArgOf Expr)) (a : ArgOf Expr) (o : Option (List (ArgOf Expr))) → behind_args (front ++ a ∷ []) o ≡ behind_args front (o >>= λ args. Some (a ∷ args))
  regroup_args front a None = refl
  regroup_args front a (Some args) = ap (λ (xs : List (ArgOf Expr)). Some (hold_args bs xs)) (append_assoc front (a ∷ []) args)

  args_from : (name : List ℕ) (place : ℕ) (front : List (ArgOf Expr)) (ms : List Meaning) → args_behind bs name place (hold_args bs front) (map (hold bs) ms) ≡ behind_args front (true_args name place ms)
  unfolding args_behind true_args
  args_from name place front [] = ap (λ (args : List (ArgOf Expr)). Some (hold_args bs args)) (sym (append-nil front))
  args_from name place front (m ∷ ms) = ap (λ (o : Option KeptArg). o >>= λ a. args_behind bs name (suc place) (put_arg (hold_args bs front) a) (map (hold bs) ms)) (arg_held (wants_formula name place) m) ∙ go (meanings.as_arg (wants_formula name place) m) (λ k. args_from name (suc place) k ms)
    where
      go : (o : Option (ArgOf Expr)) → ((k : List (ArgOf Expr)) → args_behind bs name (suc place) (hold_args bs k) (map (hold bs) ms) ≡ behind_args k (true_args name (suc place) ms)) → (option_map (hold_arg bs) o >>= λ a. args_behind bs name (suc place) (put_arg (hold_args bs front) a) (map (hold bs) ms)) ≡ behind_args front (o >>= λ a. true_args name (suc place) ms >>= λ args. Some (a ∷ args))
      go None again = refl
      go (Some a) again = ap (λ (k : KeptArgs). args_behind bs name (suc place) k (map (hold bs) ms)) (put_arg_held front a) ∙ again (front ++ a ∷ []) ∙ regroup_args front a (true_args name (suc place) ms)

  call_made : (name : List ℕ) (n : ℕ) (args : List (ArgOf Expr)) → length args ≡ n → call_of bs name n (hold_args bs args) ≡ hold bs (meaning.Call (record { name = name; args = args }))
  call_made name n args e = go (list_all (is_small_arg bs) args) refl
    where
      go : (b : Bool) → list_all (is_small_arg bs) args ≡ b → call_of bs name n (keep_if b args tt) ≡ hold bs (meaning.Call (call name args))
      go true h = refl
      go false h = ap (λ (k : ℕ). Past (call_outline (is_pure name k))) (sym e) ∙ ap (λ (b : Bool). keep_if b (meaning.Call (call name args)) (call_outline (is_pure name (length args)))) (sym (call_past bs (call name args) h))

  abbrev known : List ℕ → ℕ → Option KeptArgs → ℕ → Option Kept
  known name n o k = cond (is_pure name n || is_deed name n) (o >>= λ args. Some (call_of bs name k args)) None

  pub called_held : (name : List ℕ) (ms : List Meaning) → called bs name (map (hold bs) ms) ≡ hold_if bs (true_called name ms)
  unfolding called true_called
  called_held name ms = ap (λ (n : ℕ). known name n (as_args bs name (map (hold bs) ms)) n) (length-map ms (hold bs)) ∙ go (is_pure name (length ms) || is_deed name (length ms))
    where
      made : (o : Option (List (ArgOf Expr))) → true_args name 0 ms ≡ o → (option_map (hold_args bs) o >>= λ args. Some (call_of bs name (length ms) args)) ≡ hold_if bs (o >>= λ args. Some (meaning.Call (record { name = name; args = args })))
      made None e = refl
      made (Some args) e = ap (λ (k : Kept). Some k) (call_made name (length ms) args (args_length name 0 ms args e))

      go : (b : Bool) → cond b (as_args bs name (map (hold bs) ms) >>= λ args. Some (call_of bs name (length ms) args)) None ≡ hold_if bs (cond b (true_args name 0 ms >>= λ args. Some (meaning.Call (record { name = name; args = args }))) None)
      go false = refl
      go true = ap (λ (o : Option KeptArgs). o >>= λ args. Some (call_of bs name (length ms) args)) (args_from name 0 [] ms) ∙ made (true_args name 0 ms) refl
