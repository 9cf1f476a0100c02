-- Comparisons that come again while no variable is bound.
use Rattle.std.proofs.Common.{◌≡◌, ◌≤◌, ◌<◌, ℕ, ◌+◌, ◌-◌, min, Bool, true, false, List, [], ◌∷◌, ◌++◌, length, take, get_or, Option, Some, None, cond, refl, sym, ap, subst, ◌∙◌, append_assoc, arith}
use Rattle.std.proofs.lemmas.List.{append-nil, take_more, take_all}
use Rattle.std.specs.List.{AllByRecursion}
use Rattle.std.specs.Ordering.{int_eq}
use Rattle.std.specs.Str.{bytes_eq}
use Rattle.asl_term.specs.Trees.{capped, same_var as same}
use Rattle.asl_term.specs.Same.{same_op}
use Rattle.asl_term.specs.Variables.{occurs}
use Rattle.asl_term.specs.declared.syntax.Var.{Var}
use Rattle.asl_term.specs.declared.syntax.Term.{Term}
use Rattle.asl_term.specs.declared.syntax.Term.TheOpen.{Term-F}
use Rattle.asl_term.specs.declared.syntax.Term.TheOpen as layer
use Rattle.asl_term.specs.declared.syntax.Term.TheViews.{out-Term}
use Rattle.asl_unify.specs.declared.subst.Pair.{Pair}
use Rattle.asl_unify.specs.declared.solve.Work.{Work}
use Rattle.asl_unify.specs.declared.solve.Work.TheVariants.{Two, Args, Items}
use Rattle.asl_unify.specs.declared.solve.Pairing.{Pairing}
use Rattle.asl_unify.specs.declared.solve.UnifyFault.{UnifyFault}
use Rattle.asl_unify.specs.declared.solve.UnifyFault.TheVariants as code
use Rattle.asl_unify.specs.declared.rounds.LongRound.{LongRound}
use Rattle.asl_unify.specs.declared.rounds.Known.{Known}
use Rattle.asl_unify.specs.Puts.{IsSubst, apply}
use Rattle.asl_unify.specs.Compare.{Question, ask, Fault, Clash, Occurs, Move, Go, End, counted, look, var_of, same_head, bind, asks, item_asks, lists, plain, by_vars, with_right, with_left, step, Leads, goes}
use Rattle.asl_unify.specs.Unified.{question_costs}
use Rattle.asl_unify.specs.inner.Views.{now_of, asked, before, Led, Stops, FailsFrom}
use Rattle.asl_unify.specs.inner.Repeats.{question, under, Passes, IsKnown, Came, AllCame, Kept}
use Rattle.asl_unify.proofs.Loop.{led-step, led-fault, less-step}
use Rattle.asl_unify.proofs.Measures.{cost_measure}

-- what a step asks stands before whatever stood behind its question
abbrev tally : Bool → ℕ → ℕ
tally true n = counted n
tally false n = n

data Framed (f : List Question → ℕ → Move) : Type 0 where
  on : (p : List Question) (s : List Pair) (b : Bool) → ((w : List Question) (n : ℕ) → f w n ≡ Go (p ++ w) s (tally b n)) → Framed f
  off : (g : ℕ → Fault) → ((w : List Question) (n : ℕ) → f w n ≡ End (g n)) → Framed f

asks_behind : (xs ys : List Term) (w : List Question) → asks xs ys w ≡ asks xs ys [] ++ w
asks_behind [] [] w = refl
asks_behind [] (y ∷ ys) w = refl
asks_behind (x ∷ xs) [] w = refl
asks_behind (x ∷ xs) (y ∷ ys) w = ap (λ z. ask x y ∷ z) (asks_behind xs ys w)

items_behind : (xs : List Term) (t : Option Term) (ys : List Term) (u : Option Term) (w : List Question) → item_asks xs t ys u w ≡ item_asks xs t ys u [] ++ w
items_behind [] t [] u w = refl
items_behind [] t (y ∷ ys) u w = refl
items_behind (x ∷ xs) t [] u w = refl
items_behind (x ∷ xs) t (y ∷ ys) u w = ap (λ z. ask x y ∷ z) (items_behind xs t ys u w)

before_behind : (q : Work) (w : List Question) → before q w ≡ before q [] ++ w
before_behind (Two a b) w = refl
before_behind (Args xs ys) w = asks_behind xs.now ys.now w
before_behind (Items xs t ys u) w = items_behind xs.now (now_of t) ys.now (now_of u) w

pub asked_behind : (work : List Work) (w : List Question) → asked work w ≡ asked work [] ++ w
asked_behind [] w = refl
asked_behind (q ∷ up) w =
    asked_behind up (before q w) ∙ ap (λ z. asked up [] ++ z) (before_behind q w) ∙ sym (append_assoc (asked up []) (before q []) w)
    ∙ ap (λ z. z ++ w) (sym (asked_behind up (before q [])))

module _ (s : List Pair) where
  by_test : (b : Bool) (p : List Question) → Framed (λ w n. cond b (Go (p ++ w) s (counted n)) (End (Clash n)))
  by_test true p = on p s true (λ w n. refl)
  by_test false p = off (λ n. Clash n) (λ w n. refl)

  framed_bind : (x : Var) (t : Term) → Framed (λ w n. bind x t w s n)
  framed_bind x t = go (occurs x (apply s t)) where
    go : (b : Bool) → Framed (λ w n. cond b (End Occurs) (Go w (s ++ record { var = x; term = t } ∷ []) (counted n)))
    go true = off (λ n. Occurs) (λ w n. refl)
    go false = on [] (s ++ record { var = x; term = t } ∷ []) true (λ w n. refl)

  framed_items : (xs : List Term) (t : Option Term) (ys : List Term) (u : Option Term) → Framed (λ w n. Go (item_asks xs t ys u w) s (counted n))
  framed_items xs t ys u = on (item_asks xs t ys u []) s true (λ w n. ap (λ z. Go z s (counted n)) (items_behind xs t ys u w))

  framed_lists : (xs : List Term) (t : Option Term) (ys : List Term) (u : Option Term) → Framed (λ w n. lists xs t ys u w s n)
  framed_lists [] None [] None = on [] s true (λ w n. refl)
  framed_lists [] None (y ∷ ys) u = off (λ n. Clash n) (λ w n. refl)
  framed_lists (x ∷ xs) t [] None = off (λ n. Clash n) (λ w n. refl)
  framed_lists [] (Some a) [] u = framed_items [] (Some a) [] u
  framed_lists [] (Some a) (y ∷ ys) u = framed_items [] (Some a) (y ∷ ys) u
  framed_lists [] None [] (Some b) = framed_items [] None [] (Some b)
  framed_lists (x ∷ xs) t [] (Some b) = framed_items (x ∷ xs) t [] (Some b)
  framed_lists (x ∷ xs) t (y ∷ ys) u = framed_items (x ∷ xs) t (y ∷ ys) u

  framed_args : (b : Bool) (xs ys us vs : List Term) → Framed (λ w n. cond b (Go (asks xs ys (asks us vs w)) s (counted n)) (End (Clash n)))
  framed_args true xs ys us vs =
      on (asks xs ys (asks us vs [])) s true (λ w n. ap (λ z. Go z s (counted n))
      (asks_behind xs ys (asks us vs w) ∙ ap (λ z. asks xs ys [] ++ z) (asks_behind us vs w) ∙ sym (append_assoc (asks xs ys []) (asks us vs []) w)
      ∙ ap (λ z. z ++ w) (sym (asks_behind xs ys (asks us vs [])))))
  framed_args false xs ys us vs = off (λ n. Clash n) (λ w n. refl)

  framed_plain : (y z : Term-F Term) → Framed (λ w n. plain y z w s n)
  framed_plain (layer.Num a) (layer.Num b) = by_test (int_eq a b) []
  framed_plain (layer.Str a) (layer.Str b) = by_test (bytes_eq a b) []
  framed_plain (layer.Lit a) (layer.Lit b) = framed_args (same_head a b) a.args b.args a.annots b.annots
  framed_plain (layer.List a) (layer.List b) = framed_lists a.items a.tail b.items b.tail
  framed_plain (layer.Op a) (layer.Op b) = by_test (same_op a.op b.op) (ask a.left b.left ∷ ask a.right b.right ∷ [])
  framed_plain _ _ = off (λ n. Clash n) (λ w n. refl)

  framed_vars : (o p : Option Var) (a b : Term) → Framed (λ w n. by_vars o p a b w s n)
  framed_vars (Some x) (Some y) a b = go (same x y) (framed_bind x b) where
    go : (c : Bool) → Framed (λ w n. bind x b w s n) → Framed (λ w n. cond c (Go w s (counted n)) (bind x b w s n))
    go true f = on [] s true (λ w n. refl)
    go false f = f
  framed_vars (Some x) None a b = framed_bind x b
  framed_vars None (Some y) a b = framed_bind y a
  framed_vars None None a b = framed_plain (out-Term a) (out-Term b)

  framed_right : (o : Option Term) (a b : Term) → Framed (λ w n. with_right o a b w s n)
  framed_right (Some t) a b = on (ask a t ∷ []) s false (λ w n. refl)
  framed_right None a b = framed_vars (var_of a) (var_of b) a b

  framed_left : (o : Option Term) (a b : Term) → Framed (λ w n. with_left o a b w s n)
  framed_left (Some t) a b = on (ask t b ∷ []) s false (λ w n. refl)
  framed_left None a b = framed_right (look s b) a b

  framed_step : (q : Question) → Framed (λ w n. step q w s n)
  framed_step q = framed_left (look s q.left) q.left q.right

-- the capped sums
capped_sum : (m k d e : ℕ) → min (min (k + d) m + e) m ≡ min (k + (d + e)) m
capped_sum m k d e = omega arith

capped_up : (m n k d : ℕ) → n ≤ k → min (n + d) m ≤ min (k + d) m
capped_up m n k d h = omega arith

capped_twice : (m k : ℕ) → min (min k m) m ≡ min k m
capped_twice m k = omega arith

capped_more : (m n k d : ℕ) → n ≡ min k m → n ≤ min (n + d) m
capped_more m n k d h = omega arith

capped_rest : (m c n k d : ℕ) → c ≤ n → n ≡ min (c + d) m → n ≤ k → min k m ≡ k → min (k + (n - c)) m ≡ min (k + d) m
capped_rest m c n k d f e h i = omega arith

-- one way after another, and the same way with more behind it or from a higher count
passes_then : (s : List Pair) (n m d e : ℕ) (u v x : List Question) → Passes s n u d v → m ≡ capped (n + d) → Passes s m v e x → Passes s n u (d + e) x
passes_then s n m d e u v x p i r w k h f o l =
    p w k h f o (r w (capped (k + d)) (subst (λ z. z ≤ capped (k + d)) (sym i) (capped_up 18446744073709551615 n k d h)) (capped_twice 18446744073709551615 (k + d)) o
    (subst (λ z. Leads (x ++ w) s z o) (sym (capped_sum 18446744073709551615 k d e)) l))

passes_over : (s : List Pair) (n d : ℕ) (u v b : List Question) → Passes s n u d v → Passes s n (u ++ b) d (v ++ b)
passes_over s n d u v b p w k h f o l =
    subst (λ z. Leads z s k o) (sym (append_assoc u b w)) (p (b ++ w) k h f o (subst (λ z. Leads z s (capped (k + d)) o) (append_assoc v b w) l))

passes_later : (s : List Pair) (n m d : ℕ) (u v : List Question) → n ≤ m → Passes s n u d v → Passes s m u d v
passes_later s n m d u v h p w k i f = p w k (omega (arith, h, i)) f

passes_none : (s : List Pair) (n : ℕ) (u : List Question) → Passes s n u 0 u
passes_none s n u w k h f o l = subst (λ z. Leads (u ++ w) s z o) (omega (arith, f)) l

known_later : (s : List Pair) (n m : ℕ) (known : List Known) → n ≤ m → AllByRecursion (IsKnown s n) known → AllByRecursion (IsKnown s m) known
known_later s n m [] h a = tt
known_later s n m (k ∷ known) h a = (passes_later s n m k.pairs (question k.question ∷ []) [] h a.0, known_later s n m known h a.1)

-- all comparisons that were begun came further
came_on : (s : List Pair) (begun : List LongRound) (n m e : ℕ) (v x : List Question) → Passes s n v e x → m ≡ capped (n + e) → AllCame s begun v n → AllCame s begun x m
came_on s [] n m e v x p i a = tt
came_on s (b ∷ up) n m e v x p i a =
    let c = a.0 in (
      record {
        pairs = c.pairs + e;
        from = (let g : n ≤ m = subst (λ z. n ≤ z) (sym i) (capped_more 18446744073709551615 n (b.count + c.pairs) e c.count) in let h = c.from in omega (arith, g, h));
        count = i ∙ ap (λ z. capped (z + e)) c.count ∙ capped_sum 18446744073709551615 b.count c.pairs e;
        passes = passes_then s b.count n c.pairs e (question b.question ∷ []) (v ++ under up []) (x ++ under up []) c.passes c.count (passes_over s n e v x (under up []) p);
      },
      came_on s up n m e v x p i a.1,
    )

pub kept_on : (s : List Pair) (begun : List LongRound) (known : List Known) (n m e : ℕ) (v x : List Question) → Passes s n v e x → m ≡ capped (n + e) → Kept s begun known v n → Kept s begun known x m
kept_on s begun known n m e v x p i k = record {
  came = came_on s begun n m e v x p i k.came;
  finished = known_later s n m known (subst (λ z. n ≤ z) (sym i) (capped_more 18446744073709551615 n n e (sym k.fits))) k.finished;
  fits = ap capped i ∙ capped_twice 18446744073709551615 (n + e) ∙ sym i;
}

under_push : (begun : List LongRound) (b : LongRound) (behind : List Question) → under (begun ++ b ∷ []) behind ≡ asked b.rest.items (under begun behind)
under_push [] b behind = refl
under_push (c ∷ up) b behind = under_push up b (asked c.rest.items behind)

pub under_over : (begun : List LongRound) (b : LongRound) → under (begun ++ b ∷ []) [] ≡ asked b.rest.items [] ++ under begun []
under_over begun b = under_push begun b [] ∙ asked_behind b.rest.items (under begun [])

-- what a comparison leads to, with what was set aside for it
over_last : (up : List LongRound) (b : LongRound) (v : List Question) → v ++ under (up ++ b ∷ []) [] ≡ (v ++ asked b.rest.items []) ++ under up []
over_last up b v = ap (λ z. v ++ z) (under_over up b) ∙ sym (append_assoc v (asked b.rest.items []) (under up []))

came_push : (s : List Pair) (n : ℕ) (b : LongRound) (v : List Question) (begun : List LongRound) → AllCame s begun (v ++ asked b.rest.items []) n → Came s b v n → AllCame s (begun ++ b ∷ []) v n
came_push s n b v [] a c = (subst (λ z. Came s b z n) (sym (append-nil v)) c, tt)
came_push s n b v (d ∷ up) a c = (subst (λ z. Came s d z n) (sym (over_last up b v)) a.0, came_push s n b v up a.1 c)

came_under : (s : List Pair) (n : ℕ) (b : LongRound) (v : List Question) (begun : List LongRound) → AllCame s (begun ++ b ∷ []) v n → AllCame s begun (v ++ asked b.rest.items []) n
came_under s n b v [] a = tt
came_under s n b v (d ∷ up) a = (subst (λ z. Came s d z n) (over_last up b v) a.0, came_under s n b v up a.1)

came_last : (s : List Pair) (n : ℕ) (b : LongRound) (v : List Question) (begun : List LongRound) → AllCame s (begun ++ b ∷ []) v n → Came s b v n
came_last s n b v [] a = subst (λ z. Came s b z n) (append-nil v) a.0
came_last s n b v (d ∷ up) a = came_last s n b v up a.1

-- a comparison is begun
pub kept_begin : (s : List Pair) (begun more : List LongRound) (known : List Known) (q : Pairing) (b : LongRound) (old new : List Work) (n : ℕ)
    → b.question ≡ q → b.count ≡ n → b.rest.items ≡ old → more ≡ begun ++ b ∷ [] → new ≡ []
    → Kept s begun known (question q ∷ asked old []) n → Kept s more known (question q ∷ asked new []) n
kept_begin s begun more known q b old new n eq ec er em en k =
    subst (λ z. Kept s z known (question q ∷ asked new []) n) (sym em) (subst (λ z. Kept s (begun ++ b ∷ []) known (question q ∷ asked z []) n) (sym en) (record {
      came = came_push s n b (question q ∷ []) begun (subst (λ z. AllCame s begun (question q ∷ asked z []) n) (sym er) k.came) (record {
        pairs = 0;
        from = omega (arith, ec);
        count = sym k.fits ∙ ap capped (omega (arith, ec));
        passes = subst (λ z. Passes s b.count (question z ∷ []) 0 (question q ∷ [])) (sym eq) (passes_none s b.count (question q ∷ []));
      });
      finished = k.finished;
      fits = k.fits;
    }))

pub same_begin : (begun more : List LongRound) (b : LongRound) (old new : List Work) → b.rest.items ≡ old → more ≡ begun ++ b ∷ [] → new ≡ []
    → asked new [] ++ under more [] ≡ asked old [] ++ under begun []
same_begin begun more b old new er em en =
    ap (λ z. asked z [] ++ under more []) en ∙ ap (λ z. under z []) em ∙ under_over begun b ∙ ap (λ z. asked z [] ++ under begun []) er

-- a comparison was gone through
known_last : (s : List Pair) (n : ℕ) (b : LongRound) → capped n ≡ n → Came s b [] n → Passes s n (question b.question ∷ []) (n - b.count) []
known_last s n b f c w k h g o l =
    c.passes w k (let i = c.from in omega (arith, h, i)) g o
    (subst (λ z. Leads w s z o) (capped_rest 18446744073709551615 b.count n k c.pairs c.from c.count h g) l)

pub kept_finish : (s : List Pair) (begun less : List LongRound) (known more : List Known) (b : LongRound) (k : Known) (new : List Work) (n : ℕ)
    → begun ≡ less ++ b ∷ [] → k.question ≡ b.question → k.pairs ≡ n - b.count → new ≡ b.rest.items
    → (AllByRecursion (IsKnown s n) known → IsKnown s n k → AllByRecursion (IsKnown s n) more)
    → Kept s begun known [] n → Kept s less more (asked new []) n
kept_finish s begun less known more b k new n eb eq ep en all h =
    let came : AllCame s (less ++ b ∷ []) [] n = subst (λ z. AllCame s z [] n) eb h.came in
    let last : IsKnown s n k =
    subst (λ z. Passes s n (question z ∷ []) k.pairs []) (sym eq) (subst (λ z. Passes s n (question b.question ∷ []) z []) (sym ep) (known_last s n b h.fits (came_last s n b [] less came))) in
    record {
      came = subst (λ z. AllCame s less (asked z []) n) (sym en) (came_under s n b [] less came);
      finished = all h.finished last;
      fits = h.fits;
    }

pub same_finish : (begun less : List LongRound) (b : LongRound) (new : List Work) → begun ≡ less ++ b ∷ [] → new ≡ b.rest.items → asked new [] ++ under less [] ≡ under begun []
same_finish begun less b new eb en = ap (λ z. asked z [] ++ under less []) en ∙ sym (under_over less b) ∙ ap (λ z. under z []) (sym eb)

-- a step, with more behind its question
module _ (q : Question) (v : List Question) (s : List Pair) (n : ℕ) where
  pub step_over : (x : List Question) (t : List Pair) (m : ℕ) → step q v s n ≡ Go x t m → (u : List Question) → step q (v ++ u) s n ≡ Go (x ++ u) t m
  step_over x t m e u = go (framed_step s q) where
    go : Framed (λ w k. step q w s k) → step q (v ++ u) s n ≡ Go (x ++ u) t m
    go (on p r b h) =
        let is : Go (p ++ v) r (tally b n) ≡ Go x t m = sym (h v n) ∙ e in
        let i : p ++ v ≡ x = cc in
        let j : r ≡ t = cc in
        let k : tally b n ≡ m = cc in
        h (v ++ u) n ∙ ap (λ z. Go z r (tally b n)) (sym (append_assoc p v u)) ∙ (λ a. Go (i a ++ u) (j a) (k a))
    go (off g h) = let is : End (g n) ≡ Go x t m = sym (h v n) ∙ e in cc

  end_over : (f : Fault) → step q v s n ≡ End f → (u : List Question) → step q (v ++ u) s n ≡ End f
  end_over f e u = go (framed_step s q) where
    go : Framed (λ w k. step q w s k) → step q (v ++ u) s n ≡ End f
    go (on p r b h) = let is : Go (p ++ v) r (tally b n) ≡ End f = sym (h v n) ∙ e in cc
    go (off g h) = h (v ++ u) n ∙ sym (h v n) ∙ e

  pub stops_over : (e : UnifyFault) → Stops (step q v s n) e → (u : List Question) → Stops (step q (v ++ u) s n) e
  stops_over code.Memory h u = tt
  stops_over (code.Clash m) h u = end_over (Clash m) h u
  stops_over code.Occurs h u = end_over Occurs h u

  -- where it binds nothing, it leads from whatever count to as many more
  record Went (x : List Question) (m : ℕ) : Type 0 where
    pairs : ℕ
    count : m ≡ capped (n + pairs)
    passes : Passes s n (q ∷ v) pairs x

  went : (x : List Question) (t : List Pair) (m : ℕ) → step q v s n ≡ Go x t m → t ≡ s → capped n ≡ n → Went x m
  went x t m e d f = go (framed_step s q) where
    go : Framed (λ w k. step q w s k) → Went x m
    go (on p r b h) = by b refl where
      is : (c : Bool) → b ≡ c → Go (p ++ v) r (tally c n) ≡ Go x t m
      is c y = ap (λ z. Go (p ++ v) r (tally z n)) (sym y) ∙ sym (h v n) ∙ e

      to : (c : Bool) → b ≡ c → (w : List Question) (k : ℕ) → step q (v ++ w) s k ≡ Go (x ++ w) s (tally c k)
      to c y w k =
          let i : p ++ v ≡ x = (let j = is c y in cc) in
          let g : r ≡ t = (let j = is c y in cc) in
          h (v ++ w) k ∙ ap (λ z. Go z r (tally b k)) (sym (append_assoc p v w)) ∙ (λ a. Go (i a ++ w) ((g ∙ d) a) (tally (y a) k))

      by : (c : Bool) → b ≡ c → Went x m
      by true y = record {
        pairs = 1;
        count = (let j = is true y in let g : counted n ≡ m = cc in sym g);
        passes = λ w k i g o l. goes (to true y w k) l;
      }
      by false y = record {
        pairs = 0;
        count = (let j = is false y in let g : n ≡ m = cc in sym g ∙ sym f ∙ ap capped (omega arith));
        passes = λ w k i g o l. goes (to false y w k) (subst (λ z. Leads (x ++ w) s z o) (omega (arith, g)) l);
      }
    go (off g h) = let is : End (g n) ≡ Go x t m = sym (h v n) ∙ e in cc

  pub kept_step : (begun : List LongRound) (known : List Known) (x : List Question) (t : List Pair) (m : ℕ) → step q v s n ≡ Go x t m → t ≡ s
      → Kept s begun known (q ∷ v) n → Kept s begun known x m
  kept_step begun known x t m e d k = let g = went x t m e d k.fits in kept_on s begun known n m g.pairs (q ∷ v) x g.passes g.count k

pub kept_recall : (s : List Pair) (begun : List LongRound) (known : List Known) (q : Question) (v : List Question) (n m d : ℕ) → Passes s n (q ∷ []) d [] → m ≡ capped (n + d)
    → Kept s begun known (q ∷ v) n → Kept s begun known v m
kept_recall s begun known q v n m d p i k = kept_on s begun known n m d (q ∷ v) v (passes_over s n d (q ∷ []) [] v p) i k

-- what was set aside, put back
pub asked_append : (work more : List Work) (w : List Question) → asked (work ++ more) w ≡ asked more (asked work w)
asked_append [] more w = refl
asked_append (q ∷ work) more w = asked_append work more (before q w)

pub back_more : (begun : List LongRound) (i : ℕ) (d b : LongRound) (all new : List Work) → asked all [] ≡ under (take i begun) [] → i < length begun → b ≡ get_or begun i d
    → asked new [] ≡ asked b.rest.items (asked all []) → asked new [] ≡ under (take (i + 1) begun) []
back_more begun i d b all new a h e f =
    f ∙ ap (asked b.rest.items) a ∙ ap (λ z. asked z.rest.items (under (take i begun) [])) e ∙ sym (under_push (take i begun) (get_or begun i d) [])
    ∙ ap (λ z. under z []) (sym (take_more begun i d h))

pub back_all : (begun : List LongRound) (i : ℕ) (old all new : List Work) → asked all [] ≡ under (take i begun) [] → length begun ≤ i
    → asked new [] ≡ asked old (asked all []) → asked new [] ≡ asked old [] ++ under begun []
back_all begun i old all new a h f =
    f ∙ asked_behind old (asked all []) ∙ ap (λ z. asked old [] ++ z) (a ∙ ap (λ z. under z []) (take_all i begun h))

-- the start of a long round
pub led_start : (w : List Question) (s : List Pair) (n : ℕ) (begun : List LongRound) → begun ≡ [] → Led w s n (w ++ under begun []) s n
led_start w s n begun e o l = subst (λ z. Leads z s n o) (ap (λ z. w ++ under z []) e ∙ append-nil w) l

pub kept_start : (s : List Pair) (begun : List LongRound) (known : List Known) (v : List Question) (n : ℕ) → begun ≡ [] → known ≡ [] → capped n ≡ n → Kept s begun known v n
kept_start s begun known v n b k f = record {
  came = subst (λ z. AllCame s z v n) (sym b) tt;
  finished = subst (AllByRecursion (IsKnown s n)) (sym k) tt;
  fits = f;
}

-- The loop of a long round: it has come to w, before what was set aside, u. It takes a question q from w, of which m is left.
module _ (w0 : List Question) (s0 : List Pair) (n0 : ℕ) (s : List Pair) (n : ℕ) (w u : List Question) (h : Led w0 s0 n0 (w ++ u) s n) where
  module _ (q : Question) (m : List Question) (is : w ≡ q ∷ m) where
    pub led_recall : (d k : ℕ) → Passes s n (q ∷ []) d [] → capped n ≡ n → k ≡ capped (n + d) → Led w0 s0 n0 (m ++ u) s k
    led_recall d k p f e =
        let l : Led w0 s0 n0 (q ∷ (m ++ u)) s n = subst (λ z. Led w0 s0 n0 (z ++ u) s n) is h in
        subst (λ z. Led w0 s0 n0 (m ++ u) s z) (sym e) (λ o a. l o (p (m ++ u) n (omega arith) f o a))

    pub less_recall : IsSubst s → question_costs s (m ++ u) < question_costs s (w ++ u)
    less_recall i =
        subst (λ z. question_costs s (m ++ u) < question_costs s (z ++ u)) (sym is)
        (let a = (cost_measure s i).any_term q.left in omega (arith, a))

    module _ (x v : List Question) (same : x ++ v ≡ m ++ u) where
      is_before : w ++ u ≡ q ∷ (x ++ v)
      is_before = ap (λ z. z ++ u) is ∙ ap (λ z. q ∷ z) (sym same)

      pub led_stop : (e : UnifyFault) → Stops (step q x s n) e → FailsFrom w0 s0 n0 e
      led_stop e g = led-fault w0 s0 s n0 n (w ++ u) (x ++ v) q e h is_before (stops_over q x s n e g v)

      module _ (y : List Question) (t : List Pair) (k : ℕ) (g : step q x s n ≡ Go y t k) where
        pub led_advance : Led w0 s0 n0 (y ++ v) t k
        led_advance = led-step w0 s0 s t n0 n k (w ++ u) (x ++ v) (y ++ v) q h is_before (step_over q x s n y t k g v)

        pub led_back : (z : List Question) → z ≡ y ++ v → Led w0 s0 n0 z t k
        led_back z e = subst (λ a. Led w0 s0 n0 a t k) (sym e) led_advance

        pub less_advance : IsSubst s → t ≡ s → question_costs t (y ++ v) < question_costs s (w ++ u)
        less_advance i e = less-step s t n k (w ++ u) (x ++ v) (y ++ v) q i is_before (step_over q x s n y t k g v) e

        pub kept_advance : (begun : List LongRound) (known : List Known) → t ≡ s → Kept s begun known (q ∷ x) n → Kept t begun known y k
        kept_advance begun known e a = subst (λ z. Kept z begun known y k) (sym e) (kept_step q x s n begun known y t k g e a)
