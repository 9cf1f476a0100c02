-- What is in the grammar is read.
use Rattle.std.proofs.Common.{◌≡◌, ℕ, ℤ, zero, suc, map, ◌<◌, ◌≤◌, Bool, true, false, cond, List, [], ◌∷◌, length, Option, Some, None, refl, sym, ap, subst, ◌∙◌, arith}
use Rattle.std.specs.Option.{option_map, option_map_or}
use Rattle.asl_lexer.specs.declared.token.Sign.TheVariants as sign
use Rattle.asl_term.specs.declared.syntax.RelOp.{RelOp}
use Rattle.asl_term.specs.declared.syntax.LiteralOf.{LiteralOf}
use Rattle.asl_term.specs.declared.syntax.ListingOf.{ListingOf}
use Rattle.asl_term.specs.declared.syntax.Term.{Term}
use Rattle.asl_term.specs.declared.syntax.Term.TheVariants as term
use Rattle.asl_parser_tree.specs.declared.lexeme.Lexeme.{Lexeme}
use Rattle.asl_parser_tree.specs.declared.lexeme.Lexeme.TheVariants.{Num, Str, Var, Inner, Atom, Truth, Not, Sign}
use Rattle.asl_parser_tree.specs.declared.meaning.Meaning.{Meaning}
use Rattle.asl_parser_tree.specs.declared.meaning.Meaning.TheVariants as meaning
use Rattle.asl_parser_tree.specs.declared.meaning.Joint.{Joint}
use Rattle.asl_parser_tree.specs.declared.meaning.Prefix.{Prefix}
use Rattle.asl_parser_tree.specs.declared.meaning.Prefix.TheVariants as prefix
use Rattle.asl_parser_tree.specs.declared.leaves.OperatorLevel.{OperatorLevel}
use Rattle.asl_parser_tree.specs.declared.leaves.OperatorLevel.TheVariants as levels
use Rattle.asl_parser_tree.specs.declared.leaves.BracketShape.{BracketShape}
use Rattle.asl_parser_tree.specs.declared.leaves.BracketShape.TheVariants as shape
use Rattle.asl_parser_tree.specs.declared.leaves.Start.{Start}
use Rattle.asl_parser_tree.specs.declared.leaves.Start.TheVariants as start
use Rattle.asl_parser_tree.specs.declared.bounded.Bounded.TheVariants.{Within}
use Rattle.asl_parser_tree.specs.Meanings.{◌>>=◌, truth, as_terms as true_terms, joined as true_joined, compared as true_compared, prefixed as true_prefixed, called as true_called}
use Rattle.asl_parser_tree.specs.Holding.{Bounds, Kept, KeptTerms, KeptListing, KeptLiteral, hold, hold_if, hold_terms, hold_listing, hold_literal, joined, compared, prefixed, as_terms, listed, literal_of, literal_held, listing_held, called}
use Rattle.asl_parser_tree.specs.Leaves.{positive, negative, starts_number, Front, Read, after_comma, after_bar, after_open, after_close, variable_at, joint_of, joint_at, relation_of, relation_at, start_of, number_by, string_of, variable_of, token_by}
use Rattle.asl_parser_expr.specs.Grammar.{Rule, disjunction, conjunction, negation, relation, sum, product, signed, primary, or, and, plus, minus, times, over, modulo, less, less_same, more, more_same, same, differ, unify, operand}
use Rattle.asl_parser_expr.specs.Grammar.{Reads, just_or, just_and, just_negation, just_relation, just_sum, just_product, just_signed, chained, related, negated, subtracted, a_number, a_negative, a_string, a_variable, a_truth, a_literal, a_list, in_brackets, a_call, ReadsItems, last_item, next_item, ReadsParts, no_parts, round_parts, square_parts, an_atom, ReadsLiteral, is_held, is_denied, ReadsList, empty_list, some_list, ReadsTail, no_tail, variable_tail, list_tail}
use Rattle.asl_parser_expr.specs.Reading.{step_by, more_by, chain_by, wrap, prefix_by, items_by, bracketed_by, filled_by, parts_by, terms_by, atom_by, literal_by, list_by, call_by, as_literal, as_list, primary_from, primary_by, signed_by, product_by, sum_by, compared_by, relation_by, negation_by, and_by, or_by, operand_by, level_by, no_items, open_tail, tail_after, tail_by, some_by, body_by, inside}
use Rattle.asl_parser_expr.proofs.Items.{item_step}
use Rattle.asl_parser_expr.proofs.Shorter.{shorter}
use Rattle.asl_parser_expr.proofs.Sound.{rule_of}
use Rattle.asl_parser_tree.proofs.Keeping.{joined_held, compared_held, prefixed_held, number_held, string_held, variable_held}
use Rattle.asl_parser_tree.proofs.PartsKept.{terms_held, literal_made, literal_settled, listing_made, listing_settled, called_held}

abbrev pub StopsPrimary : List Lexeme → Type 0
StopsPrimary ts = (after_open shape.Round ts ≡ None) × (after_open shape.Square ts ≡ None)

abbrev StopsProduct : List Lexeme → Type 0
StopsProduct ts = (joint_at levels.Product ts ≡ None) × StopsPrimary ts

abbrev StopsSum : List Lexeme → Type 0
StopsSum ts = (joint_at levels.Sum ts ≡ None) × StopsProduct ts

abbrev StopsRelation : List Lexeme → Type 0
StopsRelation ts = (relation_at ts ≡ None) × StopsSum ts

abbrev StopsAnd : List Lexeme → Type 0
StopsAnd ts = (joint_at levels.And ts ≡ None) × StopsRelation ts

abbrev pub StopsOr : List Lexeme → Type 0
StopsOr ts = (joint_at levels.Or ts ≡ None) × StopsAnd ts

-- no expression by the rule goes on with these tokens
abbrev pub Stops : Rule → List Lexeme → Type 0
Stops disjunction = StopsOr
Stops conjunction = StopsAnd
Stops negation = StopsRelation
Stops relation = StopsRelation
Stops sum = StopsSum
Stops product = StopsProduct
Stops signed = StopsPrimary
Stops primary = StopsPrimary

stops_comma : (rule : Rule) (ys : List Lexeme) → Stops rule (Sign sign.Comma ∷ ys)
stops_comma disjunction ys = (refl, (refl, (refl, (refl, (refl, (refl, refl))))))
stops_comma conjunction ys = (refl, (refl, (refl, (refl, (refl, refl)))))
stops_comma negation ys = (refl, (refl, (refl, (refl, refl))))
stops_comma relation ys = (refl, (refl, (refl, (refl, refl))))
stops_comma sum ys = (refl, (refl, (refl, refl)))
stops_comma product ys = (refl, (refl, refl))
stops_comma signed ys = (refl, refl)
stops_comma primary ys = (refl, refl)

stops_close : (rule : Rule) (ys : List Lexeme) → Stops rule (Sign sign.Close ∷ ys)
stops_close disjunction ys = (refl, (refl, (refl, (refl, (refl, (refl, refl))))))
stops_close conjunction ys = (refl, (refl, (refl, (refl, (refl, refl)))))
stops_close negation ys = (refl, (refl, (refl, (refl, refl))))
stops_close relation ys = (refl, (refl, (refl, (refl, refl))))
stops_close sum ys = (refl, (refl, (refl, refl)))
stops_close product ys = (refl, (refl, refl))
stops_close signed ys = (refl, refl)
stops_close primary ys = (refl, refl)

stops_square : (rule : Rule) (ys : List Lexeme) → Stops rule (Sign sign.CloseSquare ∷ ys)
stops_square disjunction ys = (refl, (refl, (refl, (refl, (refl, (refl, refl))))))
stops_square conjunction ys = (refl, (refl, (refl, (refl, (refl, refl)))))
stops_square negation ys = (refl, (refl, (refl, (refl, refl))))
stops_square relation ys = (refl, (refl, (refl, (refl, refl))))
stops_square sum ys = (refl, (refl, (refl, refl)))
stops_square product ys = (refl, (refl, refl))
stops_square signed ys = (refl, refl)
stops_square primary ys = (refl, refl)

-- no argument begins where annotations or nothing begins
not_round : {n : ℕ} {rule : Rule} {xs ys : List Lexeme} {ms : List Meaning} → ReadsParts n rule shape.Square xs ys ms → after_open shape.Round ys ≡ None → after_open shape.Round xs ≡ None
not_round no_parts e = e
not_round (square_parts r) e = refl

pub literal_starts : {n : ℕ} {xs ys : List Lexeme} {l : LiteralOf Term} → ReadsLiteral n xs ys l → start_of xs ≡ start.Name
literal_starts (is_held (an_atom r e s f)) = refl
literal_starts (is_denied (an_atom r e s f)) = refl

list_starts : {n : ℕ} {xs ys : List Lexeme} {l : ListingOf Term} → ReadsList n xs ys l → start_of xs ≡ start.Square
list_starts empty_list = refl
list_starts (some_list r e s) = refl

tail_stops : {n : ℕ} {xs zs : List Lexeme} {l : ListingOf Term} → ReadsTail n xs (Sign sign.CloseSquare ∷ zs) l → Stops sum xs × (after_comma xs ≡ None)
tail_stops no_tail = ((refl, (refl, (refl, refl))), refl)
tail_stops variable_tail = ((refl, (refl, (refl, refl))), refl)
tail_stops (list_tail r) = ((refl, (refl, (refl, refl))), refl)

no_variable : {n : ℕ} {xs ys : List Lexeme} {l : ListingOf Term} → ReadsList n xs ys l → variable_at xs ≡ None
no_variable empty_list = refl
no_variable (some_list r e s) = refl

module _ (bs : Bounds) where
  -- what reads by a rule
  abbrev pub read_by : ℕ → Rule → List Lexeme → Read
  read_by n disjunction = or_by bs (inside bs n)
  read_by n conjunction = and_by bs (inside bs n)
  read_by n negation = negation_by bs (inside bs n)
  read_by n relation = relation_by bs (inside bs n)
  read_by n sum = sum_by bs (inside bs n)
  read_by n product = product_by bs (inside bs n)
  read_by n signed = signed_by bs (inside bs n)
  read_by n primary = primary_by bs (inside bs n)

  pub record Whole (n : ℕ) (rule : Rule) (xs ys : List Lexeme) (m : Kept) : Type 0 where
    pub reads : Stops rule ys → read_by n rule xs ≡ Some (m, ys)

  pub record Goes (n : ℕ) (level : OperatorLevel) (xs ys : List Lexeme) (m : Kept) : Type 0 where
    pub count : ℕ
    pub enough : length ys ≤ count
    pub same : level_by bs (inside bs n) level xs ≡ more_by bs (operand_by bs (inside bs n) level) level count m ys

  -- a chain that has come so far
  pub record Chained (n : ℕ) (level : OperatorLevel) (xs ys : List Lexeme) (m : Kept) : Type 0 where
    pub goes : Stops (operand (rule_of level)) ys → Goes n level xs ys m

  abbrev more_from : (List Lexeme → Read) → OperatorLevel → ℕ → Kept → List Lexeme → Front Joint → Read
  more_from item level k left us o = option_map_or (λ o. step_by bs item left o >>= λ s. more_by bs item level k s.0 s.1) o (Some (left, us))

  more_stops : (item : List Lexeme → Read) (level : OperatorLevel) (k : ℕ) (left : Kept) (ts : List Lexeme) → joint_at level ts ≡ None → more_by bs item level k left ts ≡ Some (left, ts)
  unfolding more_by
  more_stops item level zero left ts e = refl
  more_stops item level (suc k) left ts e = ap (λ (x : Front Joint). more_from item level k left ts x) e

  -- a chain that was read, where no operator follows
  ended : {n : ℕ} {level : OperatorLevel} {xs ys : List Lexeme} {m : Kept} → Chained n level xs ys m → joint_at level ys ≡ None → Stops (operand (rule_of level)) ys → level_by bs (inside bs n) level xs ≡ Some (m, ys)
  ended {n} {level} {xs} {ys} {m} h e s = let g = h.goes s in g.same ∙ more_stops (operand_by bs (inside bs n) level) level g.count m ys e

  begun : {n : ℕ} {level : OperatorLevel} {xs ys : List Lexeme} {m : Kept} → (Stops (operand (rule_of level)) ys → operand_by bs (inside bs n) level xs ≡ Some (m, ys)) → Chained n level xs ys m
  unfolding chain_by
  begun {n} {level} {xs} {ys} {m} h = record { goes = λ s. record { count = length ys; enough = omega arith; same = rw (h s) refl } }

  step_some : (item : List Lexeme → Read) (left : Kept) (o : Joint) (ys : List Lexeme) (r : Kept) (zs : List Lexeme) (m : Kept) → item ys ≡ Some (r, zs) → joined bs o left r ≡ Some m → step_by bs item left (o, ys) ≡ Some (m, zs)
  unfolding step_by
  step_some item left o ys r zs m e j = ap (λ (x : Read). x >>= λ r. joined bs o left r.0 >>= λ m. Some (m, r.1)) e ∙ ap (λ (x : Option Kept). x >>= λ m. Some (m, zs)) j

  one_more : {n : ℕ} {level : OperatorLevel} {x : Lexeme} {o : Joint} {xs ys zs : List Lexeme} {l r m : Kept} → Chained n level xs (x ∷ ys) l → joint_of level x ≡ Some o → Stops (operand (rule_of level)) (x ∷ ys) → (Stops (operand (rule_of level)) zs → operand_by bs (inside bs n) level ys ≡ Some (r, zs)) → length zs < length ys → joined bs o l r ≡ Some m → Chained n level xs zs m
  unfolding more_by
  one_more {n} {level} {x} {o} {xs} {ys} {zs} {l} {r} {m} h a stops right lt j = record { goes = λ s. go s (h.goes stops).count (h.goes stops).enough (h.goes stops).same }
    where
      go : Stops (operand (rule_of level)) zs → (k : ℕ) → length (x ∷ ys) ≤ k → level_by bs (inside bs n) level xs ≡ more_by bs (operand_by bs (inside bs n) level) level k l (x ∷ ys) → Goes n level xs zs m
      go s zero le e = absurd (omega arith)
      go s (suc k) le e =
          let item = operand_by bs (inside bs n) level in
          let first : more_by bs item level (suc k) l (x ∷ ys) ≡ (step_by bs item l (o, ys) >>= λ s. more_by bs item level k s.0 s.1) = ap (λ (p : Option Joint). more_from item level k l (x ∷ ys) (option_map (λ o. (o, ys)) p)) a in
          record { count = k; enough = omega arith; same = e ∙ first ∙ ap (λ (p : Read). p >>= λ s. more_by bs item level k s.0 s.1) (step_some item l o ys r zs m (right s) j) }

  -- ---- the rules

  -- what is shown of a reading by each rule
  abbrev pub Complete : ℕ → Rule → List Lexeme → List Lexeme → Kept → Type 0
  Complete n disjunction = Chained n levels.Or
  Complete n conjunction = Chained n levels.And
  Complete n negation = Whole n negation
  Complete n relation = Whole n relation
  Complete n sum = Chained n levels.Sum
  Complete n product = Chained n levels.Product
  Complete n signed = Whole n signed
  Complete n primary = Whole n primary

  whole : (n : ℕ) (rule : Rule) (xs ys : List Lexeme) (m : Kept) → Complete n rule xs ys m → Stops rule ys → read_by n rule xs ≡ Some (m, ys)
  whole n disjunction xs ys m h s = ended h s.0 s.1
  whole n conjunction xs ys m h s = ended h s.0 s.1
  whole n negation xs ys m h s = h.reads s
  whole n relation xs ys m h s = h.reads s
  whole n sum xs ys m h s = ended h s.0 s.1
  whole n product xs ys m h s = ended h s.0 s.1
  whole n signed xs ys m h s = h.reads s
  whole n primary xs ys m h s = h.reads s

  -- expressions with commas between them
  pub record WholeItems (n : ℕ) (rule : Rule) (xs ys : List Lexeme) (ms : List Kept) : Type 0 where
    pub reads : Stops rule ys → after_comma ys ≡ None → (k : ℕ) → length xs ≤ k → items_by (read_by n rule) k xs ≡ Some (ms, ys)

  one_item : {n : ℕ} {rule : Rule} {xs ys : List Lexeme} {m : Kept} → Complete n rule xs ys m → length ys < length xs → WholeItems n rule xs ys (m ∷ [])
  one_item {n} {rule} {xs} {ys} {m} h lt = record { reads = λ s a k le. go s a k le }
    where
      go : Stops rule ys → after_comma ys ≡ None → (k : ℕ) → length xs ≤ k → items_by (read_by n rule) k xs ≡ Some (m ∷ [], ys)
      go s a zero le = absurd (omega arith)
      go s a (suc k) le = item_step (read_by n rule) k xs m ys None (whole _ rule _ _ _ h s) a

  more_items : {n : ℕ} {rule : Rule} {xs ys zs : List Lexeme} {m : Kept} {ms : List Kept} → Complete n rule xs (Sign sign.Comma ∷ ys) m → length (Sign sign.Comma ∷ ys) < length xs → WholeItems n rule ys zs ms → WholeItems n rule xs zs (m ∷ ms)
  more_items {n} {rule} {xs} {ys} {zs} {m} {ms} h lt w = record { reads = λ s a k le. go s a k le }
    where
      go : Stops rule zs → after_comma zs ≡ None → (k : ℕ) → length xs ≤ k → items_by (read_by n rule) k xs ≡ Some (m ∷ ms, zs)
      go s a zero le = absurd (omega arith)
      go s a (suc k) le = item_step (read_by n rule) k xs m (Sign sign.Comma ∷ ys) (Some ys) (whole _ rule _ _ _ h (stops_comma rule ys)) refl ∙ ap (λ (r : Front (List Kept)). r >>= λ r. Some (m ∷ r.0, r.1)) (w.reads s a k (omega arith))

  level_read : (n : ℕ) (level : OperatorLevel) → read_by n (rule_of level) ≡ level_by bs (inside bs n) level
  level_read n levels.Or = refl
  level_read n levels.And = refl
  level_read n levels.Sum = refl
  level_read n levels.Product = refl

  -- the same in brackets, or nothing
  pub record WholeParts (n : ℕ) (rule : Rule) (s : BracketShape) (xs ys : List Lexeme) (ms : List Kept) : Type 0 where
    pub reads : (level : OperatorLevel) → rule ≡ rule_of level → after_open s ys ≡ None → parts_by (inside bs n) level s xs ≡ Some (ms, ys)

  nothing_there : (n : ℕ) (rule : Rule) (s : BracketShape) (xs : List Lexeme) → WholeParts n rule s xs xs []
  unfolding parts_by
  nothing_there n rule s xs = record { reads = λ level e a. rw a refl }

  level_items : (n : ℕ) (level : OperatorLevel) (rule : Rule) (xs ys : List Lexeme) (ms : List Kept) → rule ≡ rule_of level → items_by (read_by n rule) (length xs) xs ≡ Some (ms, ys) → items_by (level_by bs (inside bs n) level) (length xs) xs ≡ Some (ms, ys)
  level_items n level rule xs ys ms e h = ap (λ (f : List Lexeme → Read). items_by f (length xs) xs) (sym (ap (read_by n) e ∙ level_read n level)) ∙ h

  round_there : {n : ℕ} {rule : Rule} {xs ys : List Lexeme} {ms : List Kept} → WholeItems n rule xs (Sign sign.Close ∷ ys) ms → WholeParts (suc n) rule shape.Round (Sign sign.Open ∷ xs) ys ms
  unfolding parts_by filled_by inside
  round_there {n} {rule} {xs} {ys} {ms} w = record { reads = λ level e a. rw (level_items n level rule xs (Sign sign.Close ∷ ys) ms e (w.reads (stops_close rule ys) refl (length xs) (omega arith))) refl }

  square_there : {n : ℕ} {rule : Rule} {xs ys : List Lexeme} {ms : List Kept} → WholeItems n rule xs (Sign sign.CloseSquare ∷ ys) ms → WholeParts (suc n) rule shape.Square (Sign sign.OpenSquare ∷ xs) ys ms
  unfolding parts_by filled_by inside
  square_there {n} {rule} {xs} {ys} {ms} w = record { reads = λ level e a. rw (level_items n level rule xs (Sign sign.CloseSquare ∷ ys) ms e (w.reads (stops_square rule ys) refl (length xs) (omega arith))) refl }

  terms_there : {n : ℕ} {s : BracketShape} {xs ys : List Lexeme} {ms : List Kept} {ts : KeptTerms} → WholeParts n sum s xs ys ms → as_terms bs ms ≡ Some ts → after_open s ys ≡ None → terms_by bs (inside bs n) s xs ≡ Some (ts, ys)
  unfolding terms_by
  terms_there {n} {s} {xs} {ys} {ms} {ts} w e a = ap (λ (p : Front (List Kept)). p >>= λ x. as_terms bs x.0 >>= λ terms. Some (terms, x.1)) (w.reads levels.Sum refl a) ∙ ap (λ (o : Option KeptTerms). o >>= λ terms. Some (terms, ys)) e

  -- literals
  pub record WholeLiteral (n : ℕ) (xs ys : List Lexeme) (l : KeptLiteral) : Type 0 where
    pub reads : StopsPrimary ys → literal_by bs (inside bs n) xs ≡ Some (l, ys)

  atom_there : (neg : Bool) (name : List ℕ) {n : ℕ} {xs ys zs : List Lexeme} {ms ns : List Kept} {args annots : KeptTerms} → WholeParts n sum shape.Round xs ys ms → as_terms bs ms ≡ Some args → (after_open shape.Round zs ≡ None → after_open shape.Round ys ≡ None) → WholeParts n sum shape.Square ys zs ns → as_terms bs ns ≡ Some annots → StopsPrimary zs → atom_by bs (inside bs n) neg (Atom name ∷ xs) ≡ Some (literal_of neg name args annots, zs)
  unfolding atom_by
  atom_there neg name w e f v g s = rw (terms_there w e (f s.0), terms_there v g s.1) refl

  held_there : {n : ℕ} {name : List ℕ} {xs ys zs : List Lexeme} {ms ns : List Kept} {args annots : KeptTerms} → WholeParts n sum shape.Round xs ys ms → as_terms bs ms ≡ Some args → (after_open shape.Round zs ≡ None → after_open shape.Round ys ≡ None) → WholeParts n sum shape.Square ys zs ns → as_terms bs ns ≡ Some annots → WholeLiteral n (Atom name ∷ xs) zs (literal_of false name args annots)
  unfolding literal_by
  held_there {name = name} w e f v g = record { reads = λ s. atom_there false name w e f v g s }

  denied_there : {n : ℕ} {name : List ℕ} {xs ys zs : List Lexeme} {ms ns : List Kept} {args annots : KeptTerms} → WholeParts n sum shape.Round xs ys ms → as_terms bs ms ≡ Some args → (after_open shape.Round zs ≡ None → after_open shape.Round ys ≡ None) → WholeParts n sum shape.Square ys zs ns → as_terms bs ns ≡ Some annots → WholeLiteral n (Sign sign.Tilde ∷ Atom name ∷ xs) zs (literal_of true name args annots)
  unfolding literal_by
  denied_there {name = name} w e f v g = record { reads = λ s. atom_there true name w e f v g s }

  whole_literal : {n : ℕ} {xs ys : List Lexeme} {l : KeptLiteral} → start_of xs ≡ start.Name → WholeLiteral n xs ys l → Whole n primary xs ys (literal_held bs l)
  unfolding primary_by
  whole_literal {n} {xs} {ys} {l} e w = record { reads = λ s. ap (λ (st : Start). primary_from bs st (inside bs n) xs) e ∙ ap (λ (p : Front (KeptLiteral)). p >>= as_literal bs) (w.reads s) }

  -- lists
  pub record WholeList (n : ℕ) (xs ys : List Lexeme) (l : KeptListing) : Type 0 where
    pub reads : list_by (inside bs n) xs ≡ Some (l, ys)

  pub record WholeTail (n : ℕ) (xs ys : List Lexeme) (l : KeptListing) : Type 0 where
    pub reads : after_bar ys ≡ None → tail_by (inside bs n) xs ≡ Some (l, ys)

  whole_list : {n : ℕ} {xs ys : List Lexeme} {l : KeptListing} → start_of xs ≡ start.Square → WholeList n xs ys l → Whole n primary xs ys (listing_held bs l)
  unfolding primary_by
  whole_list {n} {xs} {ys} {l} e w = record { reads = λ s. ap (λ (st : Start). primary_from bs st (inside bs n) xs) e ∙ ap (λ (p : Front (KeptListing)). p >>= as_list bs) w.reads }

  empty_there : (n : ℕ) (xs : List Lexeme) → WholeList (suc n) (Sign sign.OpenSquare ∷ Sign sign.CloseSquare ∷ xs) xs no_items
  unfolding list_by body_by inside
  empty_there n xs = record { reads = refl }

  -- no item begins with `]`
  not_closed : (n k : ℕ) (xs : List Lexeme) (y : List Kept × List Lexeme) → items_by (sum_by bs (inside bs n)) k xs ≡ Some y → after_close shape.Square xs ≡ None
  unfolding items_by chain_by prefix_by primary_by token_by
  not_closed n zero xs y e = absurd cc
  not_closed n (suc k) [] y e = refl
  not_closed n (suc k) (Sign sign.CloseSquare ∷ xs) y e = absurd cc
  not_closed n (suc k) (x ∷ xs) y e = refl

  some_there : {n : ℕ} {xs ys zs : List Lexeme} {ms : List Kept} {ts : KeptTerms} {l : KeptListing} → WholeItems n sum xs ys ms → as_terms bs ms ≡ Some ts → Stops sum ys × (after_comma ys ≡ None) → WholeTail n ys (Sign sign.CloseSquare ∷ zs) l → WholeList (suc n) (Sign sign.OpenSquare ∷ xs) zs (listed ts l)
  unfolding list_by body_by some_by inside
  some_there {n} {xs} {ys} {zs} {ms} {ts} {l} w e s v =
      let items = w.reads s.0 s.1 (length xs) (omega arith) in
      record { reads = rw (not_closed n (length xs) xs (ms, ys) items, items, e, v.reads refl) refl }

  no_tail_there : (n : ℕ) (xs : List Lexeme) → WholeTail n xs xs no_items
  unfolding tail_by
  no_tail_there n xs = record { reads = λ a. rw a refl }

  variable_there : (n : ℕ) (name : List ℕ) (xs : List Lexeme) → WholeTail n (Sign sign.Bar ∷ Var name ∷ xs) xs (open_tail name)
  unfolding tail_by tail_after
  variable_there n name xs = record { reads = λ a. refl }

  list_there : {n : ℕ} {xs ys : List Lexeme} {l : KeptListing} → variable_at xs ≡ None → WholeList n xs ys l → WholeTail n (Sign sign.Bar ∷ xs) ys l
  unfolding tail_by tail_after
  list_there {n} {xs} {ys} {l} e w = record { reads = λ a. ap (λ (v : Front (List ℕ)). option_map_or (λ v. Some (open_tail v.0, v.1)) v (list_by (inside bs n) xs)) e ∙ w.reads }

  -- other primaries
  whole_brackets : {n : ℕ} {xs ys : List Lexeme} {m : Kept} → Chained n levels.Or xs (Sign sign.Close ∷ ys) m → Whole (suc n) primary (Sign sign.Open ∷ xs) ys m
  unfolding primary_by bracketed_by inside
  whole_brackets {n} {xs} {ys} {m} h = record { reads = λ _. rw (whole _ disjunction _ _ _ h (stops_close disjunction ys)) refl }

  whole_call : {n : ℕ} {name : List ℕ} {xs ys : List Lexeme} {ms : List Kept} {m : Kept} → WholeParts n disjunction shape.Round xs ys ms → called bs name ms ≡ Some m → Whole n primary (Inner name ∷ xs) ys m
  unfolding primary_by call_by
  whole_call {n} {name} {xs} {ys} {ms} {m} w e = record { reads = λ s. ap (λ (p : Front (List Kept)). p >>= λ x. called bs name x.0 >>= λ m. Some (m, x.1)) (w.reads levels.Or refl s.0) ∙ ap (λ (o : Option Kept). o >>= λ m. Some (m, ys)) e }

  whole_token : (n : ℕ) (xs ys : List Lexeme) (m : Kept) → start_of xs ≡ start.Other → token_by xs ≡ Some (m, ys) → Whole n primary xs ys m
  unfolding primary_by
  whole_token n xs ys m a e = record { reads = λ _. ap (λ (st : Start). primary_from bs st (inside bs n) xs) a ∙ e }

  whole_number : (n k : ℕ) (z : ℤ) (xs : List Lexeme) → positive k ≡ Some z → Whole n primary (Num k ∷ xs) xs (Within (meaning.Term (term.Num z)))
  unfolding token_by
  whole_number n k z xs e = whole_token n (Num k ∷ xs) xs (Within (meaning.Term (term.Num z))) refl (ap (λ (o : Option ℤ). number_by o xs) e)

  whole_negative : (n k : ℕ) (z : ℤ) (xs : List Lexeme) → negative k ≡ Some z → Whole n primary (Sign sign.Minus ∷ Num k ∷ xs) xs (Within (meaning.Term (term.Num z)))
  unfolding token_by
  whole_negative n k z xs e = whole_token n (Sign sign.Minus ∷ Num k ∷ xs) xs (Within (meaning.Term (term.Num z))) refl (ap (λ (o : Option ℤ). number_by o xs) e)

  whole_string : (n : ℕ) (s : List ℕ) (xs : List Lexeme) → Whole n primary (Str s ∷ xs) xs (string_of s)
  unfolding token_by
  whole_string n s xs = whole_token n (Str s ∷ xs) xs (string_of s) refl refl

  whole_variable : (n : ℕ) (name : List ℕ) (xs : List Lexeme) → Whole n primary (Var name ∷ xs) xs (variable_of name)
  unfolding token_by
  whole_variable n name xs = whole_token n (Var name ∷ xs) xs (variable_of name) refl refl

  whole_truth : (n : ℕ) (b : Bool) (xs : List Lexeme) → Whole n primary (Truth b ∷ xs) xs (Within (truth b))
  unfolding token_by
  whole_truth n b xs = whole_token n (Truth b ∷ xs) xs (Within (truth b)) refl refl

  -- relations and prefixes
  relation_alone : {n : ℕ} {xs ys : List Lexeme} {m : Kept} → Chained n levels.Sum xs ys m → Whole n relation xs ys m
  unfolding relation_by
  relation_alone {n} {xs} {ys} {m} h = record { reads = λ s. rw (whole _ sum _ _ _ h s.1, s.0) refl }

  relation_two : {n : ℕ} {x : Lexeme} {o : RelOp} {xs ys zs : List Lexeme} {l r m : Kept} → relation_of x ≡ Some o → StopsSum (x ∷ ys) → Chained n levels.Sum xs (x ∷ ys) l → Chained n levels.Sum ys zs r → compared bs o l r ≡ Some m → Whole n relation xs zs m
  unfolding relation_by compared_by
  relation_two {n} {x} {o} {xs} {ys} {zs} {l} {r} {m} a stops h k c = record { reads = λ s. rw (whole _ sum _ _ _ h stops, a, whole _ sum _ _ _ k s.1, c) refl }

  negation_same : (n : ℕ) (xs : List Lexeme) (y : Kept × List Lexeme) → relation_by bs (inside bs n) xs ≡ Some y → negation_by bs (inside bs n) xs ≡ Some y
  unfolding prefix_by relation_by chain_by primary_by token_by
  negation_same n [] y e = e
  negation_same n (Not ∷ xs) y e = absurd cc
  negation_same n (x ∷ xs) y e = e

  negation_alone : {n : ℕ} {xs ys : List Lexeme} {m : Kept} → Whole n relation xs ys m → Whole n negation xs ys m
  negation_alone {n} {xs} {ys} {m} h = record { reads = λ s. negation_same n xs (m, ys) (h.reads s) }

  negation_not : {n : ℕ} {xs ys : List Lexeme} {r m : Kept} → Whole n negation xs ys r → prefixed bs prefix.Not r ≡ Some m → Whole n negation (Not ∷ xs) ys m
  unfolding prefix_by
  negation_not {n} {xs} {ys} {r} {m} h e = record { reads = λ s. ap (λ (p : Read). p >>= wrap bs prefix.Not) (h.reads s) ∙ ap (λ (o : Option Kept). o >>= λ m. Some (m, ys)) e }

  minus_same : (n : ℕ) (xs : List Lexeme) (y : Kept × List Lexeme) → primary_by bs (inside bs n) (Sign sign.Minus ∷ xs) ≡ Some y → signed_by bs (inside bs n) (Sign sign.Minus ∷ xs) ≡ Some y
  unfolding prefix_by primary_by token_by
  minus_same n (Num k ∷ xs) y e = e
  minus_same n _ y e = absurd cc

  signed_same : (n : ℕ) (xs : List Lexeme) (y : Kept × List Lexeme) → primary_by bs (inside bs n) xs ≡ Some y → signed_by bs (inside bs n) xs ≡ Some y
  unfolding prefix_by
  signed_same n [] y e = e
  signed_same n (Sign sign.Minus ∷ xs) y e = minus_same n xs y e
  signed_same n (x ∷ xs) y e = e

  signed_alone : {n : ℕ} {xs ys : List Lexeme} {m : Kept} → Whole n primary xs ys m → Whole n signed xs ys m
  signed_alone {n} {xs} {ys} {m} h = record { reads = λ s. signed_same n xs (m, ys) (h.reads s) }

  signed_minus : {n : ℕ} {xs ys : List Lexeme} {r m : Kept} → starts_number xs ≡ false → Whole n signed xs ys r → prefixed bs prefix.Minus r ≡ Some m → Whole n signed (Sign sign.Minus ∷ xs) ys m
  unfolding prefix_by
  signed_minus {n} {xs} {ys} {r} {m} f h e = record { reads = λ s. ap (λ (b : Bool). cond (cond b false true) (signed_by bs (inside bs n) xs >>= wrap bs prefix.Minus) (primary_by bs (inside bs n) (Sign sign.Minus ∷ xs))) f ∙ ap (λ (p : Read). p >>= wrap bs prefix.Minus) (h.reads s) ∙ ap (λ (o : Option Kept). o >>= λ m. Some (m, ys)) e }

  -- what is kept of a whole, from what is kept of its parts
  joined_is : (o : Joint) (l r m : Meaning) → true_joined o l r ≡ Some m → joined bs o (hold bs l) (hold bs r) ≡ Some (hold bs m)
  joined_is o l r m e = joined_held bs o l r ∙ ap (λ (x : Option Meaning). hold_if bs x) e

  compared_is : (o : RelOp) (l r m : Meaning) → true_compared o l r ≡ Some m → compared bs o (hold bs l) (hold bs r) ≡ Some (hold bs m)
  compared_is o l r m e = compared_held bs o l r ∙ ap (λ (x : Option Meaning). hold_if bs x) e

  prefixed_is : (p : Prefix) (r m : Meaning) → true_prefixed p r ≡ Some m → prefixed bs p (hold bs r) ≡ Some (hold bs m)
  prefixed_is p r m e = prefixed_held bs p r ∙ ap (λ (x : Option Meaning). hold_if bs x) e

  called_is : (name : List ℕ) (ms : List Meaning) (m : Meaning) → true_called name ms ≡ Some m → called bs name (map (hold bs) ms) ≡ Some (hold bs m)
  called_is name ms m e = called_held bs name ms ∙ ap (λ (x : Option Meaning). hold_if bs x) e

  terms_are : (ms : List Meaning) (ts : List Term) → true_terms ms ≡ Some ts → as_terms bs (map (hold bs) ms) ≡ Some (hold_terms bs ts)
  terms_are ms ts e = terms_held bs ms ∙ ap (λ (x : Option (List Term)). option_map (hold_terms bs) x) e

  mutual
    pub complete : {n : ℕ} {rule : Rule} {xs ys : List Lexeme} {m : Meaning} → Reads n rule xs ys m → Complete n rule xs ys (hold bs m)
    complete (just_or r) = begun (whole _ conjunction _ _ _ (complete r))
    complete (just_and r) = begun (complete r).reads
    complete (just_negation r) = negation_alone (complete r)
    complete (just_relation r) = relation_alone (complete r)
    complete (just_sum r) = begun (whole _ product _ _ _ (complete r))
    complete (just_product r) = begun (complete r).reads
    complete (just_signed r) = signed_alone (complete r)
    complete (chained or r s e) = one_more (complete r) refl (refl, (refl, (refl, (refl, (refl, refl))))) (whole _ conjunction _ _ _ (complete s)) (shorter s) (joined_is _ _ _ _ e)
    complete (chained and r s e) = one_more (complete r) refl (refl, (refl, (refl, (refl, refl)))) (complete s).reads (shorter s) (joined_is _ _ _ _ e)
    complete (chained plus r s e) = one_more (complete r) refl (refl, (refl, refl)) (whole _ product _ _ _ (complete s)) (shorter s) (joined_is _ _ _ _ e)
    complete (chained minus r s e) = one_more (complete r) refl (refl, (refl, refl)) (whole _ product _ _ _ (complete s)) (shorter s) (joined_is _ _ _ _ e)
    complete (chained times r s e) = one_more (complete r) refl (refl, refl) (complete s).reads (shorter s) (joined_is _ _ _ _ e)
    complete (chained over r s e) = one_more (complete r) refl (refl, refl) (complete s).reads (shorter s) (joined_is _ _ _ _ e)
    complete (chained modulo r s e) = one_more (complete r) refl (refl, refl) (complete s).reads (shorter s) (joined_is _ _ _ _ e)
    complete (related less r s e) = relation_two refl (refl, (refl, (refl, refl))) (complete r) (complete s) (compared_is _ _ _ _ e)
    complete (related less_same r s e) = relation_two refl (refl, (refl, (refl, refl))) (complete r) (complete s) (compared_is _ _ _ _ e)
    complete (related more r s e) = relation_two refl (refl, (refl, (refl, refl))) (complete r) (complete s) (compared_is _ _ _ _ e)
    complete (related more_same r s e) = relation_two refl (refl, (refl, (refl, refl))) (complete r) (complete s) (compared_is _ _ _ _ e)
    complete (related same r s e) = relation_two refl (refl, (refl, (refl, refl))) (complete r) (complete s) (compared_is _ _ _ _ e)
    complete (related differ r s e) = relation_two refl (refl, (refl, (refl, refl))) (complete r) (complete s) (compared_is _ _ _ _ e)
    complete (related unify r s e) = relation_two refl (refl, (refl, (refl, refl))) (complete r) (complete s) (compared_is _ _ _ _ e)
    complete (negated r e) = negation_not (complete r) (prefixed_is _ _ _ e)
    complete (subtracted f r e) = signed_minus f (complete r) (prefixed_is _ _ _ e)
    complete (a_number {n = n} {k = k} {z = z} {xs = xs} e) = subst (Whole n primary (Num k ∷ xs) xs) (sym (number_held bs z)) (whole_number n k z xs e)
    complete (a_negative {n = n} {k = k} {z = z} {xs = xs} e) = subst (Whole n primary (Sign sign.Minus ∷ Num k ∷ xs) xs) (sym (number_held bs z)) (whole_negative n k z xs e)
    complete (a_string {n = n} {s = s} {xs = xs}) = subst (Whole n primary (Str s ∷ xs) xs) (sym (string_held bs s)) (whole_string n s xs)
    complete (a_variable {n = n} {name = name} {xs = xs}) = subst (Whole n primary (Var name ∷ xs) xs) (sym (variable_held bs name)) (whole_variable n name xs)
    complete a_truth = whole_truth _ _ _
    complete (a_literal {n = n} {xs = xs} {ys = ys} {l = l} r) = subst (Whole n primary xs ys) (literal_settled bs l) (whole_literal (literal_starts r) (complete_literal r))
    complete (a_list {n = n} {xs = xs} {ys = ys} {l = l} r) = subst (Whole n primary xs ys) (listing_settled bs l) (whole_list (list_starts r) (complete_list r))
    complete (in_brackets r) = whole_brackets (complete r)
    complete (a_call r e) = whole_call (complete_parts r) (called_is _ _ _ e)

    complete_items : {n : ℕ} {rule : Rule} {xs ys : List Lexeme} {ms : List Meaning} → ReadsItems n rule xs ys ms → WholeItems n rule xs ys (map (hold bs) ms)
    complete_items (last_item r) = one_item (complete r) (shorter r)
    complete_items (next_item r s) = more_items (complete r) (shorter r) (complete_items s)

    complete_parts : {n : ℕ} {rule : Rule} {s : BracketShape} {xs ys : List Lexeme} {ms : List Meaning} → ReadsParts n rule s xs ys ms → WholeParts n rule s xs ys (map (hold bs) ms)
    complete_parts no_parts = nothing_there _ _ _ _
    complete_parts (round_parts r) = round_there (complete_items r)
    complete_parts (square_parts r) = square_there (complete_items r)

    pub complete_literal : {n : ℕ} {xs ys : List Lexeme} {l : LiteralOf Term} → ReadsLiteral n xs ys l → WholeLiteral n xs ys (hold_literal bs l)
    complete_literal (is_held {n = n} (an_atom {name = name} {xs = xs} {zs = zs} {args = args} {annots = annots} r e s f)) = subst (WholeLiteral n (Atom name ∷ xs) zs) (literal_made bs false name args annots) (held_there (complete_parts r) (terms_are _ _ e) (not_round s) (complete_parts s) (terms_are _ _ f))
    complete_literal (is_denied {n = n} (an_atom {name = name} {xs = xs} {zs = zs} {args = args} {annots = annots} r e s f)) = subst (WholeLiteral n (Sign sign.Tilde ∷ Atom name ∷ xs) zs) (literal_made bs true name args annots) (denied_there (complete_parts r) (terms_are _ _ e) (not_round s) (complete_parts s) (terms_are _ _ f))

    complete_list : {n : ℕ} {xs ys : List Lexeme} {l : ListingOf Term} → ReadsList n xs ys l → WholeList n xs ys (hold_listing bs l)
    complete_list empty_list = empty_there _ _
    complete_list (some_list {n = n} {xs = xs} {zs = zs} {ts = ts} {l = l} r e s) = subst (WholeList (suc n) (Sign sign.OpenSquare ∷ xs) zs) (listing_made bs ts l) (some_there (complete_items r) (terms_are _ _ e) (tail_stops s) (complete_tail s))

    complete_tail : {n : ℕ} {xs ys : List Lexeme} {l : ListingOf Term} → ReadsTail n xs ys l → WholeTail n xs ys (hold_listing bs l)
    complete_tail no_tail = no_tail_there _ _
    complete_tail variable_tail = variable_there _ _ _
    complete_tail (list_tail r) = list_there (no_variable r) (complete_list r)

  -- what is in the grammar, with nothing behind it that goes on, is read
  pub reads_or : (n : ℕ) (xs ys : List Lexeme) (m : Meaning) → Reads n disjunction xs ys m → StopsOr ys → or_by bs (inside bs n) xs ≡ Some (hold bs m, ys)
  reads_or n xs ys m r s = whole _ disjunction _ _ _ (complete r) s

  pub reads_literal : (n : ℕ) (xs ys : List Lexeme) (l : LiteralOf Term) → ReadsLiteral n xs ys l → StopsPrimary ys → literal_by bs (inside bs n) xs ≡ Some (hold_literal bs l, ys)
  reads_literal n xs ys l r s = (complete_literal r).reads s
