-- The grammar of expressions, seen by what is kept of the meanings.
use Rattle.std.proofs.Common.{◌≡◌, ℕ, ℤ, suc, map, Bool, true, false, List, [], ◌∷◌, ◌++◌, Option, Some, None, refl, sym, ap, ◌∙◌}
use Rattle.std.specs.Option.{option_map}
use Rattle.asl_lexer.specs.declared.token.Sign.TheVariants as sign
use Rattle.asl_term.specs.declared.syntax.RelOp.{RelOp}
use Rattle.asl_term.specs.declared.syntax.Term.{Term}
use Rattle.asl_term.specs.declared.syntax.Term.TheVariants as term
use Rattle.asl_parser_tree.specs.declared.lexeme.Lexeme.{Lexeme}
use Rattle.asl_parser_tree.specs.declared.lexeme.Lexeme.TheVariants.{Num, Str, Var, Inner, Atom, Truth, Not, Sign}
use Rattle.asl_parser_tree.specs.declared.meaning.Meaning.{Meaning}
use Rattle.asl_parser_tree.specs.declared.meaning.Meaning.TheVariants as meaning
use Rattle.asl_parser_tree.specs.declared.meaning.Joint.{Joint}
use Rattle.asl_parser_tree.specs.declared.meaning.Prefix.TheVariants as prefix
use Rattle.asl_parser_tree.specs.declared.leaves.BracketShape.{BracketShape}
use Rattle.asl_parser_tree.specs.declared.leaves.BracketShape.TheVariants as shape
use Rattle.asl_parser_tree.specs.declared.bounded.Bounded.TheVariants.{Within}
use Rattle.asl_parser_tree.specs.Meanings.{truth, joined as true_joined, compared as true_compared, prefixed as true_prefixed, called as true_called, as_terms as true_terms}
use Rattle.asl_parser_tree.specs.Leaves.{positive, negative, starts_number, variable, string_of, variable_of}
use Rattle.asl_parser_expr.specs.Grammar.{listing, Rule, disjunction, conjunction, negation, relation, sum, product, signed, primary, Joins, Relates, operand}
use Rattle.asl_parser_expr.specs.Grammar as grammar
use Rattle.asl_parser_tree.specs.Holding.{Bounds, Kept, KeptTerms, KeptListing, KeptLiteral, hold, hold_terms, hold_listing, hold_literal, joined, compared, prefixed, as_terms, listed, literal_of, literal_held, listing_held, called}
use Rattle.asl_parser_expr.specs.Reading.{no_items, open_tail}
use Rattle.asl_parser_tree.proofs.Options.{some_is}
use Rattle.asl_parser_tree.proofs.Keeping.{joined_held, compared_held, prefixed_held, number_held, string_held, variable_held}
use Rattle.asl_parser_tree.proofs.PartsKept.{terms_held, literal_made, literal_settled, listing_made, listing_settled, called_held}

-- R holds of a value of which this is kept
pub record Holds {A B : Type 0} (keep : A → B) (R : A → Type 0) (kept : B) : Type 0 where
  pub value : A
  pub holds : R value
  pub same : keep value ≡ kept

pub mapped_some : {A B : Type 0} (f : A → B) (o : Option A) (y : B) → option_map f o ≡ Some y → (x : A) × (o ≡ Some x) × (f x ≡ y)
mapped_some f None y e = absurd cc
mapped_some f (Some x) y e = (x, refl, some_is (f x) y e)

-- the same meaning by another rule
lifted : {A B : Type 0} {keep : A → B} {R S : A → Type 0} {kept : B} → ((x : A) → R x → S x) → Holds keep R kept → Holds keep S kept
lifted f r = record { value = r.value; holds = f r.value r.holds; same = r.same }

module _ (bs : Bounds) where
  abbrev pub Reads : ℕ → Rule → List Lexeme → List Lexeme → Kept → Type 0
  Reads n rule xs ys h = Holds (hold bs) (grammar.Reads n rule xs ys) h

  abbrev pub ReadsItems : ℕ → Rule → List Lexeme → List Lexeme → List Kept → Type 0
  ReadsItems n rule xs ys hs = Holds (map (hold bs)) (grammar.ReadsItems n rule xs ys) hs

  abbrev pub ReadsParts : ℕ → Rule → BracketShape → List Lexeme → List Lexeme → List Kept → Type 0
  ReadsParts n rule s xs ys hs = Holds (map (hold bs)) (grammar.ReadsParts n rule s xs ys) hs

  abbrev pub ReadsAtom : ℕ → Bool → List Lexeme → List Lexeme → KeptLiteral → Type 0
  ReadsAtom n neg xs ys l = Holds (hold_literal bs) (grammar.ReadsAtom n neg xs ys) l

  abbrev pub ReadsLiteral : ℕ → List Lexeme → List Lexeme → KeptLiteral → Type 0
  ReadsLiteral n xs ys l = Holds (hold_literal bs) (grammar.ReadsLiteral n xs ys) l

  abbrev pub ReadsList : ℕ → List Lexeme → List Lexeme → KeptListing → Type 0
  ReadsList n xs ys l = Holds (hold_listing bs) (grammar.ReadsList n xs ys) l

  abbrev pub ReadsTail : ℕ → List Lexeme → List Lexeme → KeptListing → Type 0
  ReadsTail n xs ys l = Holds (hold_listing bs) (grammar.ReadsTail n xs ys) l

  module _ {n : ℕ} {xs ys : List Lexeme} {m : Kept} where
    pub just_or : Reads n conjunction xs ys m → Reads n disjunction xs ys m
    just_or = lifted (λ x r. grammar.just_or r)

    pub just_and : Reads n negation xs ys m → Reads n conjunction xs ys m
    just_and = lifted (λ x r. grammar.just_and r)

    pub just_negation : Reads n relation xs ys m → Reads n negation xs ys m
    just_negation = lifted (λ x r. grammar.just_negation r)

    pub just_relation : Reads n sum xs ys m → Reads n relation xs ys m
    just_relation = lifted (λ x r. grammar.just_relation r)

    pub just_sum : Reads n product xs ys m → Reads n sum xs ys m
    just_sum = lifted (λ x r. grammar.just_sum r)

    pub just_product : Reads n signed xs ys m → Reads n product xs ys m
    just_product = lifted (λ x r. grammar.just_product r)

    pub just_signed : Reads n primary xs ys m → Reads n signed xs ys m
    just_signed = lifted (λ x r. grammar.just_signed r)

    pub in_brackets : Reads n disjunction xs (Sign sign.Close ∷ ys) m → Reads (suc n) primary (Sign sign.Open ∷ xs) ys m
    in_brackets = lifted (λ x r. grammar.in_brackets r)

  pub chained : {n : ℕ} {rule : Rule} {x : Lexeme} {o : Joint} {xs ys zs : List Lexeme} {l r m : Kept} → Joins rule x o → Reads n rule xs (x ∷ ys) l → Reads n (operand rule) ys zs r → joined bs o l r ≡ Some m → Reads n rule xs zs m
  chained {o = o} {l = l} {m = m} j a b e =
      let kept = sym (joined_held bs o a.value b.value) ∙ ap (λ (k : Kept). joined bs o k (hold bs b.value)) a.same ∙ ap (λ (k : Kept). joined bs o l k) b.same ∙ e in
      let d = mapped_some (hold bs) (true_joined o a.value b.value) m kept in
      record { value = d.0; holds = grammar.chained j a.holds b.holds d.1; same = d.2 }

  pub related : {n : ℕ} {x : Lexeme} {o : RelOp} {xs ys zs : List Lexeme} {l r m : Kept} → Relates x o → Reads n sum xs (x ∷ ys) l → Reads n sum ys zs r → compared bs o l r ≡ Some m → Reads n relation xs zs m
  related {o = o} {l = l} {m = m} j a b e =
      let kept = sym (compared_held bs o a.value b.value) ∙ ap (λ (k : Kept). compared bs o k (hold bs b.value)) a.same ∙ ap (λ (k : Kept). compared bs o l k) b.same ∙ e in
      let d = mapped_some (hold bs) (true_compared o a.value b.value) m kept in
      record { value = d.0; holds = grammar.related j a.holds b.holds d.1; same = d.2 }

  pub negated : {n : ℕ} {xs ys : List Lexeme} {r m : Kept} → Reads n negation xs ys r → prefixed bs prefix.Not r ≡ Some m → Reads n negation (Not ∷ xs) ys m
  negated {m = m} a e =
      let d = mapped_some (hold bs) (true_prefixed prefix.Not a.value) m (sym (prefixed_held bs prefix.Not a.value) ∙ ap (prefixed bs prefix.Not) a.same ∙ e) in
      record { value = d.0; holds = grammar.negated a.holds d.1; same = d.2 }

  pub subtracted : {n : ℕ} {xs ys : List Lexeme} {r m : Kept} → starts_number xs ≡ false → Reads n signed xs ys r → prefixed bs prefix.Minus r ≡ Some m → Reads n signed (Sign sign.Minus ∷ xs) ys m
  subtracted {m = m} f a e =
      let d = mapped_some (hold bs) (true_prefixed prefix.Minus a.value) m (sym (prefixed_held bs prefix.Minus a.value) ∙ ap (prefixed bs prefix.Minus) a.same ∙ e) in
      record { value = d.0; holds = grammar.subtracted f a.holds d.1; same = d.2 }

  pub a_number : {n k : ℕ} {z : ℤ} {xs : List Lexeme} → positive k ≡ Some z → Reads n primary (Num k ∷ xs) xs (Within (meaning.Term (term.Num z)))
  a_number {z = z} e = record { value = meaning.Term (term.Num z); holds = grammar.a_number e; same = number_held bs z }

  pub a_negative : {n k : ℕ} {z : ℤ} {xs : List Lexeme} → negative k ≡ Some z → Reads n primary (Sign sign.Minus ∷ Num k ∷ xs) xs (Within (meaning.Term (term.Num z)))
  a_negative {z = z} e = record { value = meaning.Term (term.Num z); holds = grammar.a_negative e; same = number_held bs z }

  pub a_string : {n : ℕ} {s : List ℕ} {xs : List Lexeme} → Reads n primary (Str s ∷ xs) xs (string_of s)
  a_string {s = s} = record { value = meaning.Term (term.Str s); holds = grammar.a_string; same = string_held bs s }

  pub a_variable : {n : ℕ} {name : List ℕ} {xs : List Lexeme} → Reads n primary (Var name ∷ xs) xs (variable_of name)
  a_variable {name = name} = record { value = meaning.Term (variable name); holds = grammar.a_variable; same = variable_held bs name }

  pub a_truth : {n : ℕ} {b : Bool} {xs : List Lexeme} → Reads n primary (Truth b ∷ xs) xs (Within (truth b))
  a_truth {b = b} = record { value = truth b; holds = grammar.a_truth; same = refl }

  pub a_literal : {n : ℕ} {xs ys : List Lexeme} {l : KeptLiteral} → ReadsLiteral n xs ys l → Reads n primary xs ys (literal_held bs l)
  a_literal r = record { value = meaning.Literal r.value; holds = grammar.a_literal r.holds; same = sym (literal_settled bs r.value) ∙ ap (literal_held bs) r.same }

  pub a_list : {n : ℕ} {xs ys : List Lexeme} {l : KeptListing} → ReadsList n xs ys l → Reads n primary xs ys (listing_held bs l)
  a_list r = record { value = meaning.Term (term.List r.value); holds = grammar.a_list r.holds; same = sym (listing_settled bs r.value) ∙ ap (listing_held bs) r.same }

  pub a_call : {n : ℕ} {name : List ℕ} {xs ys : List Lexeme} {ms : List Kept} {m : Kept} → ReadsParts n disjunction shape.Round xs ys ms → called bs name ms ≡ Some m → Reads n primary (Inner name ∷ xs) ys m
  a_call {name = name} {m = m} r e =
      let d = mapped_some (hold bs) (true_called name r.value) m (sym (called_held bs name r.value) ∙ ap (called bs name) r.same ∙ e) in
      record { value = d.0; holds = grammar.a_call r.holds d.1; same = d.2 }

  pub last_item : {n : ℕ} {rule : Rule} {xs ys : List Lexeme} {m : Kept} → Reads n rule xs ys m → ReadsItems n rule xs ys (m ∷ [])
  last_item r = record { value = r.value ∷ []; holds = grammar.last_item r.holds; same = ap (λ (k : Kept). k ∷ []) r.same }

  pub next_item : {n : ℕ} {rule : Rule} {xs ys zs : List Lexeme} {m : Kept} {ms : List Kept} → Reads n rule xs (Sign sign.Comma ∷ ys) m → ReadsItems n rule ys zs ms → ReadsItems n rule xs zs (m ∷ ms)
  next_item {m = m} r s = record { value = r.value ∷ s.value; holds = grammar.next_item r.holds s.holds; same = ap (λ (k : Kept). k ∷ map (hold bs) s.value) r.same ∙ ap (λ (ks : List Kept). m ∷ ks) s.same }

  pub no_parts : {n : ℕ} {rule : Rule} {s : BracketShape} {xs : List Lexeme} → ReadsParts n rule s xs xs []
  no_parts = record { value = []; holds = grammar.no_parts; same = refl }

  pub round_parts : {n : ℕ} {rule : Rule} {xs ys : List Lexeme} {ms : List Kept} → ReadsItems n rule xs (Sign sign.Close ∷ ys) ms → ReadsParts (suc n) rule shape.Round (Sign sign.Open ∷ xs) ys ms
  round_parts = lifted (λ x r. grammar.round_parts r)

  pub square_parts : {n : ℕ} {rule : Rule} {xs ys : List Lexeme} {ms : List Kept} → ReadsItems n rule xs (Sign sign.CloseSquare ∷ ys) ms → ReadsParts (suc n) rule shape.Square (Sign sign.OpenSquare ∷ xs) ys ms
  square_parts = lifted (λ x r. grammar.square_parts r)

  -- terms, of which this is kept
  terms_of : {R : List Meaning → Type 0} {ms : List Kept} {ts : KeptTerms} (r : Holds (map (hold bs)) R ms) → as_terms bs ms ≡ Some ts → (us : List Term) × (true_terms r.value ≡ Some us) × (hold_terms bs us ≡ ts)
  terms_of {ts = ts} r e = mapped_some (hold_terms bs) (true_terms r.value) ts (sym (terms_held bs r.value) ∙ ap (as_terms bs) r.same ∙ e)

  pub an_atom : {n : ℕ} {neg : Bool} {name : List ℕ} {xs ys zs : List Lexeme} {ms ns : List Kept} {args annots : KeptTerms} → ReadsParts n sum shape.Round xs ys ms → as_terms bs ms ≡ Some args → ReadsParts n sum shape.Square ys zs ns → as_terms bs ns ≡ Some annots → ReadsAtom n neg (Atom name ∷ xs) zs (literal_of neg name args annots)
  an_atom {neg = neg} {name = name} {args = args} r e s f =
      let a = terms_of r e in
      let b = terms_of s f in
      record {
        value = record { neg = neg; functor = name; args = a.0; annots = b.0 };
        holds = grammar.an_atom r.holds a.1 s.holds b.1;
        same = sym (literal_made bs neg name a.0 b.0) ∙ ap (λ (k : KeptTerms). literal_of neg name k (hold_terms bs b.0)) a.2 ∙ ap (λ (k : KeptTerms). literal_of neg name args k) b.2;
      }

  pub is_held : {n : ℕ} {xs ys : List Lexeme} {l : KeptLiteral} → ReadsAtom n false xs ys l → ReadsLiteral n xs ys l
  is_held = lifted (λ x r. grammar.is_held r)

  pub is_denied : {n : ℕ} {xs ys : List Lexeme} {l : KeptLiteral} → ReadsAtom n true xs ys l → ReadsLiteral n (Sign sign.Tilde ∷ xs) ys l
  is_denied = lifted (λ x r. grammar.is_denied r)

  pub empty_list : {n : ℕ} {xs : List Lexeme} → ReadsList (suc n) (Sign sign.OpenSquare ∷ Sign sign.CloseSquare ∷ xs) xs no_items
  empty_list = record { value = listing [] None; holds = grammar.empty_list; same = refl }

  pub some_list : {n : ℕ} {xs ys zs : List Lexeme} {ms : List Kept} {ts : KeptTerms} {l : KeptListing} → ReadsItems n sum xs ys ms → as_terms bs ms ≡ Some ts → ReadsTail n ys (Sign sign.CloseSquare ∷ zs) l → ReadsList (suc n) (Sign sign.OpenSquare ∷ xs) zs (listed ts l)
  some_list {ts = ts} r e s =
      let a = terms_of r e in
      record {
        value = listing (a.0 ++ s.value.items) s.value.tail;
        holds = grammar.some_list r.holds a.1 s.holds;
        same = sym (listing_made bs a.0 s.value) ∙ ap (λ (k : KeptTerms). listed k (hold_listing bs s.value)) a.2 ∙ ap (λ (k : KeptListing). listed ts k) s.same;
      }

  pub no_tail : {n : ℕ} {xs : List Lexeme} → ReadsTail n xs xs no_items
  no_tail = record { value = listing [] None; holds = grammar.no_tail; same = refl }

  pub variable_tail : {n : ℕ} {name : List ℕ} {xs : List Lexeme} → ReadsTail n (Sign sign.Bar ∷ Var name ∷ xs) xs (open_tail name)
  variable_tail {name = name} = record { value = listing [] (Some (variable name)); holds = grammar.variable_tail; same = refl }

  pub list_tail : {n : ℕ} {xs ys : List Lexeme} {l : KeptListing} → ReadsList n xs ys l → ReadsTail n (Sign sign.Bar ∷ xs) ys l
  list_tail = lifted (λ x r. grammar.list_tail r)
