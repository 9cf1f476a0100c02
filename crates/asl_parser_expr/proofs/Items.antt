-- Reading expressions with commas between them, as a loop does.
use Rattle.std.proofs.Common.{◌≡◌, ℕ, zero, suc, ◌<◌, ◌≤◌, List, [], ◌∷◌, ◌++◌, length, Option, Some, None, refl, sym, ap, ◌∙◌, append_assoc, arith}
use Rattle.std.specs.Option.{option_map_or}
use Rattle.asl_parser_tree.specs.declared.lexeme.Lexeme.{Lexeme}
use Rattle.asl_parser_tree.specs.Holding.{Kept}
use Rattle.asl_parser_tree.specs.Meanings.{◌>>=◌}
use Rattle.asl_parser_tree.specs.Leaves.{Front, Read, after_comma}
use Rattle.asl_parser_expr.specs.Reading.{items_by}

-- what was read before, and what is still read
abbrev pub behind : List Kept → Front (List Kept) → Front (List Kept)
behind front r = r >>= λ x. Some (front ++ x.0, x.1)

pub record ItemsLeft (item : List Lexeme → Read) (front : List Kept) (ts : List Lexeme) (total : Front (List Kept)) : Type 0 where
  pub count : ℕ
  pub enough : length ts ≤ count
  pub same : behind front (items_by item count ts) ≡ total

behind_none : (r : Front (List Kept)) → behind [] r ≡ r
behind_none None = refl
behind_none (Some x) = refl

pub items_begin : (item : List Lexeme → Read) (ts : List Lexeme) → ItemsLeft item [] ts (items_by item (length ts) ts)
items_begin item ts = record { count = length ts; enough = omega arith; same = behind_none (items_by item (length ts) ts) }

regroup : (front : List Kept) (m : Kept) (r : Front (List Kept)) → behind front (r >>= λ x. Some (m ∷ x.0, x.1)) ≡ behind (front ++ m ∷ []) r
regroup front m None = refl
regroup front m (Some x) = ap (λ (ms : List Kept). Some (ms, x.1)) (sym (append_assoc front (m ∷ []) x.0))

pub items_stop : (item : List Lexeme → Read) (front : List Kept) (ts : List Lexeme) (total : Front (List Kept)) → ItemsLeft item front ts total → item ts ≡ None → total ≡ None
unfolding items_by
items_stop item front ts total h e = sym h.same ∙ go h.count
  where
    go : (k : ℕ) → behind front (items_by item k ts) ≡ None
    go zero = refl
    go (suc k) = rw e refl

-- one item, with enough left
pub item_step : (item : List Lexeme → Read) (k : ℕ) (ts : List Lexeme) (m : Kept) (us : List Lexeme) (o : Option (List Lexeme)) → item ts ≡ Some (m, us) → after_comma us ≡ o → items_by item (suc k) ts ≡ option_map_or {U = Front (List Kept)} (λ vs. items_by item k vs >>= λ r. Some (m ∷ r.0, r.1)) o (Some (m ∷ [], us))
unfolding items_by
item_step item k ts m us o e a = rw e refl ∙ ap (λ (o : Option (List Lexeme)). option_map_or {U = Front (List Kept)} (λ vs. items_by item k vs >>= λ r. Some (m ∷ r.0, r.1)) o (Some (m ∷ [], us))) a

pub items_more : (item : List Lexeme → Read) (front : List Kept) (ts : List Lexeme) (m : Kept) (us vs : List Lexeme) (total : Front (List Kept)) → ItemsLeft item front ts total → item ts ≡ Some (m, us) → length vs < length ts → after_comma us ≡ Some vs → ItemsLeft item (front ++ m ∷ []) vs total
items_more item front ts m us vs total h e lt a = go h.count h.enough h.same
  where
    go : (k : ℕ) → length ts ≤ k → behind front (items_by item k ts) ≡ total → ItemsLeft item (front ++ m ∷ []) vs total
    go zero le s = absurd (omega arith)
    go (suc k) le s = record { count = k; enough = omega arith; same = sym (regroup front m (items_by item k vs)) ∙ sym (ap (behind front) (item_step item k ts m us (Some vs) e a)) ∙ s }

pub items_end : (item : List Lexeme → Read) (front : List Kept) (ts : List Lexeme) (m : Kept) (us : List Lexeme) (total : Front (List Kept)) → ItemsLeft item front ts total → item ts ≡ Some (m, us) → length us < length ts → after_comma us ≡ None → total ≡ Some (front ++ m ∷ [], us)
items_end item front ts m us total h e lt a = go h.count h.enough h.same
  where
    go : (k : ℕ) → length ts ≤ k → behind front (items_by item k ts) ≡ total → total ≡ Some (front ++ m ∷ [], us)
    go zero le s = absurd (omega arith)
    go (suc k) le s = sym s ∙ ap (behind front) (item_step item k ts m us None e a)

-- what a turn of the loop asks
pub ruleset turns = (items_begin, items_stop, items_more, items_end)
