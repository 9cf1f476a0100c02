-- Reading the items of a body, as a loop does.
use Rattle.std.proofs.Common.{◌≡◌, ℕ, zero, suc, ◌<◌, ◌≤◌, List, [], ◌∷◌, ◌++◌, length, Option, Some, None, refl, sym, ap, ◌∙◌, append_assoc, arith}
use Rattle.std.proofs.lemmas.List.{append-nil}
use Rattle.std.specs.Option.{option_map_or}
use Rattle.asl_term.specs.declared.syntax.Formula.{Formula}
use Rattle.asl_parser_tree.specs.declared.lexeme.Lexeme.{Lexeme}
use Rattle.asl_parser_tree.specs.Meanings.{◌>>=◌}
use Rattle.asl_parser_tree.specs.Leaves.{Front}
use Rattle.asl_parser_tree.specs.declared.bounded.Bounded.TheVariants.{Within, Past}
use Rattle.asl_parser_tree.specs.Holding.{limited}
use Rattle.asl_parser.specs.Holding.{KeptItem, KeptBody, before, put_item}
use Rattle.asl_parser.specs.Speaking.{item_by, item_list_by, after_semicolon}
use Rattle.asl_parser.proofs.Spoken.{sound_item, semicolon_only}
use Rattle.asl_parser.proofs.Spelled as spelled

abbrev pub Items : Type 0
Items = Front KeptBody

abbrev pub Item : Type 0
Item = List Lexeme → Front (Option KeptItem)

-- one body before another
abbrev pub onto : KeptBody → KeptBody → KeptBody
onto (Within fs) (Within gs) = Within (fs ++ gs)
onto fs gs = Past tt

-- what was read before, and what is still read
abbrev pub behind : KeptBody → Items → Items
behind front r = r >>= λ x. Some (onto front x.0, x.1)

pub record ItemsLeft (item : Item) (front : KeptBody) (ts : List Lexeme) (total : Items) : Type 0 where
  pub count : ℕ
  pub enough : length ts ≤ count
  pub same : behind front (item_list_by item count ts) ≡ total

onto_none : (fs : KeptBody) → onto (Within []) fs ≡ fs
onto_none (Within fs) = refl
onto_none (Past u) = refl

behind_none : (r : Items) → behind (Within []) r ≡ r
behind_none None = refl
behind_none (Some x) = ap (λ (fs : KeptBody). Some (fs, x.1)) (onto_none x.0)

pub items_begin : (item : Item) (ts : List Lexeme) → ItemsLeft item (Within []) ts (item_list_by item (length ts) ts)
items_begin item ts = record { count = length ts; enough = omega arith; same = behind_none (item_list_by item (length ts) ts) }

onto_item : (front : KeptBody) (f : Option KeptItem) (fs : KeptBody) → onto front (before f fs) ≡ onto (put_item front f) fs
onto_item front None fs = refl
onto_item (Within front) (Some (Within f)) (Within fs) = ap (λ (gs : List Formula). Within gs) (sym (append_assoc front (f ∷ []) fs))
onto_item (Within front) (Some (Within f)) (Past u) = refl
onto_item (Within front) (Some (Past v)) fs = refl
onto_item (Past w) (Some (Within f)) (Within fs) = refl
onto_item (Past w) (Some (Within f)) (Past u) = refl
onto_item (Past w) (Some (Past v)) fs = refl

onto_end : (front : KeptBody) (f : Option KeptItem) → onto front (before f (Within [])) ≡ put_item front f
onto_end (Within front) None = ap (λ (gs : List Formula). Within gs) (append-nil front)
onto_end (Past w) None = refl
onto_end (Within front) (Some (Within f)) = refl
onto_end (Within front) (Some (Past v)) = refl
onto_end (Past w) (Some (Within f)) = refl
onto_end (Past w) (Some (Past v)) = refl

regroup : (front : KeptBody) (f : Option KeptItem) (r : Items) → behind front (r >>= λ x. Some (before f x.0, x.1)) ≡ behind (put_item front f) r
regroup front f None = refl
regroup front f (Some x) = ap (λ (fs : KeptBody). Some (fs, x.1)) (onto_item front f x.0)

pub items_stop : (item : Item) (front : KeptBody) (ts : List Lexeme) (total : Items) → ItemsLeft item front ts total → item ts ≡ None → total ≡ None
unfolding item_list_by
items_stop item front ts total h e = sym h.same ∙ go h.count
  where
    go : (k : ℕ) → behind front (item_list_by item k ts) ≡ None
    go zero = refl
    go (suc k) = rw e refl

item_step : (item : Item) (k : ℕ) (ts : List Lexeme) (f : Option KeptItem) (us : List Lexeme) (o : Option (List Lexeme)) → item ts ≡ Some (f, us) → after_semicolon us ≡ o → item_list_by item (suc k) ts ≡ option_map_or {U = Items} (λ vs. item_list_by item k vs >>= λ r. Some (before f r.0, r.1)) o (Some (before f (Within []), us))
unfolding item_list_by
item_step item k ts f us o e a = rw e refl ∙ ap (λ (o : Option (List Lexeme)). option_map_or {U = Items} (λ vs. item_list_by item k vs >>= λ r. Some (before f r.0, r.1)) o (Some (before f (Within []), us))) a

pub items_more : (item : Item) (front : KeptBody) (ts : List Lexeme) (f : Option KeptItem) (us vs : List Lexeme) (total : Items) → ItemsLeft item front ts total → item ts ≡ Some (f, us) → length vs < length ts → after_semicolon us ≡ Some vs → ItemsLeft item (put_item front f) vs total
items_more item front ts f us vs total h e lt a = go h.count h.enough h.same
  where
    go : (k : ℕ) → length ts ≤ k → behind front (item_list_by item k ts) ≡ total → ItemsLeft item (put_item front f) vs total
    go zero le s = absurd (omega arith)
    go (suc k) le s = record { count = k; enough = omega arith; same = sym (regroup front f (item_list_by item k vs)) ∙ sym (ap (behind front) (item_step item k ts f us (Some vs) e a)) ∙ s }

pub items_end : (item : Item) (front : KeptBody) (ts : List Lexeme) (f : Option KeptItem) (us : List Lexeme) (total : Items) → ItemsLeft item front ts total → item ts ≡ Some (f, us) → length us < length ts → after_semicolon us ≡ None → total ≡ Some (put_item front f, us)
items_end item front ts f us total h e lt a = go h.count h.enough h.same
  where
    go : (k : ℕ) → length ts ≤ k → behind front (item_list_by item k ts) ≡ total → total ≡ Some (put_item front f, us)
    go zero le s = absurd (omega arith)
    go (suc k) le s = sym s ∙ ap (behind front) (item_step item k ts f us None e a) ∙ ap (λ (fs : KeptBody). Some (fs, us)) (onto_end front f)

pub item_shorter : (n : ℕ) (ts : List Lexeme) (f : Option KeptItem) (us : List Lexeme) → item_by limited n ts ≡ Some (f, us) → length us < length ts
item_shorter n ts f us e = spelled.item_shorter (sound_item limited n ts us f e).holds

pub semicolon_shorter : (us vs : List Lexeme) → after_semicolon us ≡ Some vs → length vs < length us
semicolon_shorter us vs e = omega (arith, ap length (semicolon_only us vs e))

-- what a turn of the loop asks
pub ruleset turns = (items_begin, items_stop, items_more, items_end, item_shorter, semicolon_shorter)
