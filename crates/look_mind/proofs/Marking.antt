-- The turns of agents, and those that are marked.
use Rattle.std.proofs.Common.{ℕ, ◌≡◌, ◌≤◌, ◌<◌, ◌+◌, ◌-◌, ◌&&◌, Bool, true, false, List, [], ◌∷◌, ◌++◌}
use Rattle.std.proofs.Common.{length, drop, get_or, replicate, refl, sym, ap, subst, ◌∙◌}
use Rattle.std.proofs.Common.{arith, append_assoc, append-nil, below_more, if◌then◌else◌}
use Rattle.std.specs.Prelude.{nat_eq, nat_le, slice_set, All}
use Rattle.std.proofs.lemmas.Bool.{and_from, and_parts, eqb-true, eqb-false, le-leb, leb-true}
use Rattle.std.proofs.lemmas.List.{at_drop_all, at_drop_more, get_or-replicate, get_or_default, get_or-set_other}
use Rattle.std.proofs.lemmas.List.{get_or-set_same, length-replicate, length-set, replicate_more}
use Rattle.look_lines.specs.declared.falls.FallLine.{FallLine}
use Rattle.look_mind.specs.Marks.{AreMarked, AreOwn, Grows, IsMarked, Marks, MarksAll, own_from, own_turns, turn_of, turns_at, with_turn}

pub empties_step : (n : ℕ) (all new : List (List ℕ)) → all ≡ replicate n [] → new ≡ all ++ [] ∷ [] → new ≡ replicate (n + 1) []
empties_step n all new h e = e ∙ ap (λ x. x ++ [] ∷ []) h ∙ replicate_more n []

-- ---- a turn of one agent

with_number : (own : List (List ℕ)) (a t : ℕ) → length (with_turn own a t) ≡ length own
with_number own a t = go (nat_le 1 a && nat_le a (length own))
  where
    go : (b : Bool) → length (if b then slice_set own (a - 1) (get_or own (a - 1) [] ++ t ∷ []) else own) ≡ length own
    go true = length-set own (a - 1) (get_or own (a - 1) [] ++ t ∷ [])
    go false = refl

is_one : (own : List (List ℕ)) (a k : ℕ) → a ≡ k + 1 → k < length own → (nat_le 1 a && nat_le a (length own)) ≡ true
is_one own a k e l = and_from (nat_le 1 a) (nat_le a (length own)) (le-leb 1 a (omega arith)) (le-leb a (length own) (omega arith))

with_own : (own : List (List ℕ)) (a k t : ℕ) → a ≡ k + 1 → k < length own → get_or (with_turn own a t) k [] ≡ get_or own k [] ++ t ∷ []
with_own own a k t e l =
    let at : a - 1 ≡ k = omega arith in
    let changed = λ (j : ℕ). slice_set own j (get_or own j [] ++ t ∷ []) in
    ap (λ (b : Bool). get_or (if b then changed (a - 1) else own) k []) (is_one own a k e l)
    ∙ ap (λ j. get_or (changed j) k []) at
    ∙ get_or-set_same own k (get_or own k [] ++ t ∷ []) [] l

with_other : (own : List (List ℕ)) (a k t : ℕ) → (a ≡ k + 1 → ⊥) → get_or (with_turn own a t) k [] ≡ get_or own k []
with_other own a k t n = go (nat_le 1 a && nat_le a (length own)) refl
  where
    changed : List (List ℕ)
    changed = slice_set own (a - 1) (get_or own (a - 1) [] ++ t ∷ [])

    apart : 1 ≤ a → k ≡ a - 1 → ⊥
    apart l e = n (omega arith)

    go : (b : Bool) → (nat_le 1 a && nat_le a (length own)) ≡ b → get_or (if b then changed else own) k [] ≡ get_or own k []
    go true e =
        let some = leb-true 1 a (and_parts (nat_le 1 a) (nat_le a (length own)) e).0 in
        get_or-set_other own (a - 1) k (get_or own (a - 1) [] ++ t ∷ []) [] (apart some)
    go false e = refl

-- ---- the turns of all agents, of which so many are read

pub record Owning (turns : List ℕ) (agents : ℕ) (own : List (List ℕ)) (i : ℕ) : Type 0 where
  pub number : length own ≡ agents
  pub each : (k : ℕ) → k < agents → get_or own k [] ++ own_from (k + 1) i (drop i turns) ≡ own_turns turns k

pub own_begun : (turns : List ℕ) (agents : ℕ) (own : List (List ℕ)) → own ≡ replicate agents [] → Owning turns agents own 0
own_begun turns agents own e = record {
  number = ap length e ∙ length-replicate agents [];
  each = λ k l. ap (λ x. x ++ own_turns turns k) (ap (λ o. get_or o k []) e ∙ get_or-replicate agents k [] [] l);
}

module _ (turns : List ℕ) (agents : ℕ) (own : List (List ℕ)) (i : ℕ) (h : Owning turns agents own i) where
  module _ (d : ℕ) (l : i < length turns) (new : List (List ℕ)) (w : new ≡ with_turn own (get_or turns i d) (i + 1)) where
    abbrev rest : ℕ → List ℕ
    rest k = own_from (k + 1) (i + 1) (drop (i + 1) turns)

    next : (k : ℕ) (b : Bool) → nat_eq (get_or turns i d) (k + 1) ≡ b →
        own_from (k + 1) i (drop i turns) ≡ (if b then (i + 1) ∷ rest k else rest k)
    next k b e =
        at_drop_more (own_from (k + 1) i) turns i d l ∙ ap (λ (x : Bool). if x then (i + 1) ∷ rest k else rest k) e

    gains : (k : ℕ) → k < agents → (b : Bool) → nat_eq (get_or turns i d) (k + 1) ≡ b → get_or new k [] ++ rest k ≡ own_turns turns k
    gains k less true e =
        let one = (i + 1) ∷ [] in
        let theirs = with_own own (get_or turns i d) k (i + 1) (eqb-true (get_or turns i d) (k + 1) e) (subst (λ n. k < n) (sym h.number) less) in
        ap (λ x. x ++ rest k) (ap (λ o. get_or o k []) w ∙ theirs)
        ∙ append_assoc (get_or own k []) one (rest k)
        ∙ sym (ap (λ x. get_or own k [] ++ x) (next k true e)) ∙ h.each k less
    gains k less false e =
        ap (λ x. x ++ rest k) (ap (λ o. get_or o k []) w ∙ with_other own (get_or turns i d) k (i + 1) (eqb-false (get_or turns i d) (k + 1) e))
        ∙ sym (ap (λ x. get_or own k [] ++ x) (next k false e)) ∙ h.each k less

    pub own_step : Owning turns agents new (i + 1)
    own_step = record {
      number = ap length w ∙ with_number own (get_or turns i d) (i + 1) ∙ h.number;
      each = λ k less. gains k less (nat_eq (get_or turns i d) (k + 1)) refl;
    }

  pub own_end : length turns ≤ i → AreOwn turns agents own
  own_end l = record {
    number = h.number;
    each = λ k less.
        sym (append-nil (get_or own k [])) ∙ sym (ap (λ x. get_or own k [] ++ x) (at_drop_all (own_from (k + 1) i) turns i l)) ∙ h.each k less;
  }

-- ---- a mark

stays : (marks : List Bool) → Grows marks marks
stays marks = record { number = refl; kept = λ turn m. m }

and_then : (a b c : List Bool) → Grows a b → Grows b c → Grows a c
and_then a b c g h = record { number = h.number ∙ g.number; kept = λ turn m. h.kept turn (g.kept turn m) }

pub unmarked_zero : (marks : List Bool) (turn : ℕ) → turn ≡ 0 → Marks marks marks turn
unmarked_zero marks turn e = record { grows = stays marks; marked = λ some here. absurd (omega arith) }

pub unmarked_past : (marks : List Bool) (turn : ℕ) → length marks < turn → Marks marks marks turn
unmarked_past marks turn e = record { grows = stays marks; marked = λ some here. absurd (omega arith) }

kept_by : (marks : List Bool) (at turn : ℕ) → at < length marks → IsMarked marks turn → IsMarked (slice_set marks at true) turn
kept_by marks at turn l m = λ some here. go some here (nat_eq (turn - 1) at) refl
  where
    go : 1 ≤ turn → turn ≤ length (slice_set marks at true) → (b : Bool) → nat_eq (turn - 1) at ≡ b → get_or (slice_set marks at true) (turn - 1) false ≡ true
    go some here true e =
        ap (λ k. get_or (slice_set marks at true) k false) (eqb-true (turn - 1) at e) ∙ get_or-set_same marks at true false l
    go some here false e =
        get_or-set_other marks at (turn - 1) true false (eqb-false (turn - 1) at e) ∙ m some (subst (λ n. turn ≤ n) (length-set marks at true) here)

pub marked : (marks new : List Bool) (turn : ℕ) → 1 ≤ turn → turn ≤ length marks → new ≡ slice_set marks (turn - 1) true → Marks marks new turn
marked marks new turn some here e =
    let less : turn - 1 < length marks = omega arith in
    subst (λ (x : List Bool). Marks marks x turn) (sym e) (record {
      grows = record { number = length-set marks (turn - 1) true; kept = λ t m. kept_by marks (turn - 1) t less m };
      marked = λ s h. get_or-set_same marks (turn - 1) true false less;
    })

-- ---- the marks for an agent's failures, of which so many are read

pub record MarkingAll (old new : List Bool) (own : List ℕ) (falls : List FallLine) (i : ℕ) : Type 0 where
  pub grows : Grows old new
  pub marked : (k : ℕ) → k < i → (d : FallLine) → IsMarked new (turn_of own (get_or falls k d))

pub all_begun : (old : List Bool) (own : List ℕ) (falls : List FallLine) → MarkingAll old old own falls 0
all_begun old own falls = record { grows = stays old; marked = λ k l. absurd (omega arith) }

module _ (old new : List Bool) (own : List ℕ) (falls : List FallLine) (i : ℕ) (h : MarkingAll old new own falls i) where
  pub all_step : (d : FallLine) (next : List Bool) → i < length falls → Marks new next (turn_of own (get_or falls i d)) → MarkingAll old next own falls (i + 1)
  all_step d next l m = record {
    grows = and_then old new next h.grows m.grows;
    marked = below_more (λ k. (e : FallLine) → IsMarked next (turn_of own (get_or falls k e))) i
        (λ k less e. m.grows.kept (turn_of own (get_or falls k e)) (h.marked k less e))
        (λ e. subst (λ (f : FallLine). IsMarked next (turn_of own f)) (get_or_default falls i d e l) m.marked);
  }

  pub all_end : length falls ≤ i → MarksAll old new own falls
  all_end l = record { grows = h.grows; marked = λ k d less. h.marked k (omega arith) d }

-- ---- the marks for the failures of all agents, of which so many are read

pub record MarkingAgents (own : List (List ℕ)) (all : List (List FallLine)) (turns : ℕ) (marks : List Bool) (i : ℕ) : Type 0 where
  pub number : length marks ≡ turns
  pub each : (k : ℕ) → k < i → (d : List FallLine) → All (λ f. IsMarked marks (turn_of (turns_at own k) f)) (get_or all k d)

pub agents_begun : (own : List (List ℕ)) (all : List (List FallLine)) (turns : ℕ) (marks : List Bool) → length marks ≡ turns →
    MarkingAgents own all turns marks 0
agents_begun own all turns marks e = record { number = e; each = λ k l. absurd (omega arith) }

module _ (own : List (List ℕ)) (all : List (List FallLine)) (turns : ℕ) (marks : List Bool) (i : ℕ) (h : MarkingAgents own all turns marks i) where
  pub agents_step : (d : List FallLine) (next : List Bool) → i < length all → MarksAll marks next (turns_at own i) (get_or all i d) →
      MarkingAgents own all turns next (i + 1)
  agents_step d next l m = record {
    number = m.grows.number ∙ h.number;
    each = below_more (λ k. (e : List FallLine) → All (λ f. IsMarked next (turn_of (turns_at own k) f)) (get_or all k e)) i
        (λ k less e j f inside. m.grows.kept (turn_of (turns_at own k) (get_or (get_or all k e) j f)) (h.each k less e j f inside))
        (λ e. subst (λ (fs : List FallLine). All (λ f. IsMarked next (turn_of (turns_at own i) f)) fs) (get_or_default all i d e l) m.marked);
  }

  pub agents_end : length all ≤ i → AreMarked own all turns marks
  agents_end l = record { number = h.number; each = λ k d less. h.each k (omega arith) d }
