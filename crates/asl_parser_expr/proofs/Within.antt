-- A clause whose brackets are within the limit is read within it.
use Rattle.std.proofs.Common.{◌≡◌, ℕ, zero, suc, ◌+◌, ◌-◌, ◌<◌, Bool, true, false, cond, ltb, List, [], ◌∷◌, ◌++◌, None, refl, subst, add-one, arith}
use Rattle.std.proofs.lemmas.Bool.{ltb-true}
use Rattle.asl_lexer.specs.declared.token.Sign.TheVariants as sign
use Rattle.asl_term.specs.declared.syntax.RelOp.{RelOp}
use Rattle.asl_term.specs.declared.syntax.LiteralOf.{LiteralOf}
use Rattle.asl_term.specs.declared.syntax.ListingOf.{ListingOf}
use Rattle.asl_term.specs.declared.syntax.Term.{Term}
use Rattle.asl_parser_tree.specs.declared.lexeme.Lexeme.{Lexeme}
use Rattle.asl_parser_tree.specs.declared.lexeme.Lexeme.TheVariants.{Sign}
use Rattle.asl_parser_tree.specs.declared.meaning.Meaning.{Meaning}
use Rattle.asl_parser_tree.specs.declared.meaning.Joint.{Joint}
use Rattle.asl_parser_tree.specs.declared.leaves.BracketShape.{BracketShape}
use Rattle.asl_parser_tree.specs.declared.leaves.BracketShape.TheVariants as shape
use Rattle.asl_parser_expr.specs.Grammar.{listing, Rule, disjunction, sum, primary, Joins, or, and, plus, minus, times, over, modulo, Relates, less, less_same, more, more_same, same, differ, unify}
use Rattle.asl_parser_expr.specs.Grammar.{Reads, just_or, just_and, just_negation, just_relation, just_sum, just_product, just_signed, chained, related, negated, subtracted, a_number, a_negative, a_string, a_variable, a_truth, a_literal, a_list, in_brackets, a_call, ReadsItems, last_item, next_item, ReadsParts, no_parts, round_parts, square_parts, ReadsAtom, an_atom, ReadsLiteral, is_held, is_denied, ReadsList, empty_list, some_list, ReadsTail, no_tail, variable_tail, list_tail}
use Rattle.asl_parser_tree.specs.Limits.{too_deep}

-- what fits: within the room, and the brackets behind it are within the limit
abbrev pub Fits : ℕ → ℕ → ℕ → (ℕ → Type 0) → List Lexeme → Type 0
Fits limit count room R ys = R room × (too_deep limit count ys ≡ false)

opened : (limit count : ℕ) (ts : List Lexeme) → cond (ltb count limit) (too_deep limit (count + 1) ts) true ≡ false → (count < limit) × (too_deep limit (suc count) ts ≡ false)
opened limit count ts e = go (ltb count limit) refl e
  where
    go : (b : Bool) → ltb count limit ≡ b → cond b (too_deep limit (count + 1) ts) true ≡ false → (count < limit) × (too_deep limit (suc count) ts ≡ false)
    go true h e = (ltb-true count limit h, rw add-one at e)
    go false h e = absurd cc

-- one more bracket is open inside
enters : (limit count room : ℕ) (R S : ℕ → Type 0) (ys : List Lexeme) → limit ≡ count + room → count < limit → ((k : ℕ) → R k → S (suc k)) → ((k : ℕ) → limit ≡ suc count + k → R k × (too_deep limit (suc count - 1) ys ≡ false)) → Fits limit count room S ys
enters limit count zero R S ys e lt up f = absurd (omega arith)
enters limit count (suc room) R S ys e lt up f = let w = f room (omega arith) in let back : suc count - 1 ≡ count = omega arith in (up room w.0, subst (λ (k : ℕ). too_deep limit k ys ≡ false) back w.1)

joint_fits : (limit count : ℕ) {rule : Rule} {x : Lexeme} {o : Joint} (ys : List Lexeme) → Joins rule x o → too_deep limit count (x ∷ ys) ≡ false → too_deep limit count ys ≡ false
unfolding too_deep
joint_fits limit count ys or h = h
joint_fits limit count ys and h = h
joint_fits limit count ys plus h = h
joint_fits limit count ys minus h = h
joint_fits limit count ys times h = h
joint_fits limit count ys over h = h
joint_fits limit count ys modulo h = h

relation_fits : (limit count : ℕ) {x : Lexeme} {o : RelOp} (ys : List Lexeme) → Relates x o → too_deep limit count (x ∷ ys) ≡ false → too_deep limit count ys ≡ false
unfolding too_deep
relation_fits limit count ys less h = h
relation_fits limit count ys less_same h = h
relation_fits limit count ys more h = h
relation_fits limit count ys more_same h = h
relation_fits limit count ys same h = h
relation_fits limit count ys differ h = h
relation_fits limit count ys unify h = h

mutual
  unfolding too_deep

  pub within : {m : ℕ} {rule : Rule} {xs ys : List Lexeme} {v : Meaning} → Reads m rule xs ys v → (limit count room : ℕ) → limit ≡ count + room → too_deep limit count xs ≡ false → Fits limit count room (λ k. Reads k rule xs ys v) ys
  within (just_or r) limit count room e h = let w = within r limit count room e h in (just_or w.0, w.1)
  within (just_and r) limit count room e h = let w = within r limit count room e h in (just_and w.0, w.1)
  within (just_negation r) limit count room e h = let w = within r limit count room e h in (just_negation w.0, w.1)
  within (just_relation r) limit count room e h = let w = within r limit count room e h in (just_relation w.0, w.1)
  within (just_sum r) limit count room e h = let w = within r limit count room e h in (just_sum w.0, w.1)
  within (just_product r) limit count room e h = let w = within r limit count room e h in (just_product w.0, w.1)
  within (just_signed r) limit count room e h = let w = within r limit count room e h in (just_signed w.0, w.1)
  within (chained {ys = ys} j r s f) limit count room e h = let w = within r limit count room e h in let v = within s limit count room e (joint_fits limit count ys j w.1) in (chained j w.0 v.0 f, v.1)
  within (related {ys = ys} j r s f) limit count room e h = let w = within r limit count room e h in let v = within s limit count room e (relation_fits limit count ys j w.1) in (related j w.0 v.0 f, v.1)
  within (negated r f) limit count room e h = let w = within r limit count room e h in (negated w.0 f, w.1)
  within (subtracted g r f) limit count room e h = let w = within r limit count room e h in (subtracted g w.0 f, w.1)
  within (a_number f) limit count room e h = (a_number f, h)
  within (a_negative f) limit count room e h = (a_negative f, h)
  within a_string limit count room e h = (a_string, h)
  within a_variable limit count room e h = (a_variable, h)
  within a_truth limit count room e h = (a_truth, h)
  within (a_literal r) limit count room e h = let w = within_literal r limit count room e h in (a_literal w.0, w.1)
  within (a_list r) limit count room e h = let w = within_list r limit count room e h in (a_list w.0, w.1)
  within (in_brackets {xs = xs} {ys = ys} {m = v} r) limit count room e h =
      let o = opened limit count xs h in
      enters limit count room (λ k. Reads k disjunction xs (Sign sign.Close ∷ ys) v) (λ k. Reads k primary (Sign sign.Open ∷ xs) ys v) ys e o.0 (λ k r. in_brackets r) (λ k e. within r limit (suc count) k e o.1)
  within (a_call r f) limit count room e h = let w = within_parts r limit count room e h in (a_call w.0 f, w.1)

  pub within_items : {m : ℕ} {rule : Rule} {xs ys : List Lexeme} {vs : List Meaning} → ReadsItems m rule xs ys vs → (limit count room : ℕ) → limit ≡ count + room → too_deep limit count xs ≡ false → Fits limit count room (λ k. ReadsItems k rule xs ys vs) ys
  within_items (last_item r) limit count room e h = let w = within r limit count room e h in (last_item w.0, w.1)
  within_items (next_item r s) limit count room e h = let w = within r limit count room e h in let v = within_items s limit count room e w.1 in (next_item w.0 v.0, v.1)

  within_parts : {m : ℕ} {rule : Rule} {s : BracketShape} {xs ys : List Lexeme} {vs : List Meaning} → ReadsParts m rule s xs ys vs → (limit count room : ℕ) → limit ≡ count + room → too_deep limit count xs ≡ false → Fits limit count room (λ k. ReadsParts k rule s xs ys vs) ys
  within_parts no_parts limit count room e h = (no_parts, h)
  within_parts (round_parts {rule = rule} {xs = xs} {ys = ys} {ms = vs} r) limit count room e h =
      let o = opened limit count xs h in
      enters limit count room (λ k. ReadsItems k rule xs (Sign sign.Close ∷ ys) vs) (λ k. ReadsParts k rule shape.Round (Sign sign.Open ∷ xs) ys vs) ys e o.0 (λ k r. round_parts r) (λ k e. within_items r limit (suc count) k e o.1)
  within_parts (square_parts {rule = rule} {xs = xs} {ys = ys} {ms = vs} r) limit count room e h =
      let o = opened limit count xs h in
      enters limit count room (λ k. ReadsItems k rule xs (Sign sign.CloseSquare ∷ ys) vs) (λ k. ReadsParts k rule shape.Square (Sign sign.OpenSquare ∷ xs) ys vs) ys e o.0 (λ k r. square_parts r) (λ k e. within_items r limit (suc count) k e o.1)

  within_atom : {m : ℕ} {neg : Bool} {xs ys : List Lexeme} {l : LiteralOf Term} → ReadsAtom m neg xs ys l → (limit count room : ℕ) → limit ≡ count + room → too_deep limit count xs ≡ false → Fits limit count room (λ k. ReadsAtom k neg xs ys l) ys
  within_atom (an_atom r f s g) limit count room e h = let w = within_parts r limit count room e h in let v = within_parts s limit count room e w.1 in (an_atom w.0 f v.0 g, v.1)

  pub within_literal : {m : ℕ} {xs ys : List Lexeme} {l : LiteralOf Term} → ReadsLiteral m xs ys l → (limit count room : ℕ) → limit ≡ count + room → too_deep limit count xs ≡ false → Fits limit count room (λ k. ReadsLiteral k xs ys l) ys
  within_literal (is_held r) limit count room e h = let w = within_atom r limit count room e h in (is_held w.0, w.1)
  within_literal (is_denied r) limit count room e h = let w = within_atom r limit count room e h in (is_denied w.0, w.1)

  within_list : {m : ℕ} {xs ys : List Lexeme} {l : ListingOf Term} → ReadsList m xs ys l → (limit count room : ℕ) → limit ≡ count + room → too_deep limit count xs ≡ false → Fits limit count room (λ k. ReadsList k xs ys l) ys
  within_list (empty_list {xs = xs}) limit count room e h =
      let o = opened limit count (Sign sign.CloseSquare ∷ xs) h in
      enters limit count room (λ k. Unit {0}) (λ k. ReadsList k (Sign sign.OpenSquare ∷ Sign sign.CloseSquare ∷ xs) xs (listing [] None)) xs e o.0 (λ k u. empty_list) (λ k e. (tt, o.1))
  within_list (some_list {xs = xs} {ys = ys} {zs = zs} {ms = ms} {ts = ts} {l = l} r f s) limit count room e h =
      let o = opened limit count xs h in
      enters limit count room (λ k. ReadsItems k sum xs ys ms × ReadsTail k ys (Sign sign.CloseSquare ∷ zs) l) (λ k. ReadsList k (Sign sign.OpenSquare ∷ xs) zs (listing (ts ++ l.items) l.tail)) zs e o.0 (λ k r. some_list r.0 f r.1) (λ k e. let w = within_items r limit (suc count) k e o.1 in let v = within_tail s limit (suc count) k e w.1 in ((w.0, v.0), v.1))

  within_tail : {m : ℕ} {xs ys : List Lexeme} {l : ListingOf Term} → ReadsTail m xs ys l → (limit count room : ℕ) → limit ≡ count + room → too_deep limit count xs ≡ false → Fits limit count room (λ k. ReadsTail k xs ys l) ys
  within_tail no_tail limit count room e h = (no_tail, h)
  within_tail variable_tail limit count room e h = (variable_tail, h)
  within_tail (list_tail r) limit count room e h = let w = within_list r limit count room e h in (list_tail w.0, w.1)

pub within_limit : (m : ℕ) (xs ys : List Lexeme) (v : Meaning) → Reads m disjunction xs ys v → too_deep 250 0 xs ≡ false → Reads 250 disjunction xs ys v
within_limit m xs ys v r h = (within r 250 0 250 refl h).0
