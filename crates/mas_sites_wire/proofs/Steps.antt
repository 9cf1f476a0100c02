-- Each step keeps the rule of a wire.
use Rattle.std.proofs.Common.{◌≡◌, ◌≢◌, ℕ, zero, suc, true, true≢false, List, [], ◌∷◌, ◌++◌, length, slice_get, set, sym, refl, ap, ◌∙◌, subst, ⊎_elim, append_assoc, append-nil, All, Option, None, Some}
use Rattle.std.specs.Prelude.{MatchOption}
use Rattle.std.proofs.lemmas.List.Elements.{All-nil, All-push, All-head, All-tail}
use mathlib.Core.Option.{some, some-ne-none}
use lib.ListN.{get_elem?}
use Rattle.crossbeam_queue.specs.Fifo.{Pushes, Pops, Forks, Merges, Learns}
use Rattle.crossbeam_queue.proofs.Lists.{at_set}
use Rattle.mas_mind.specs.declared.mind.Message.{Message}
use Rattle.mas_mind.specs.Minds.{IsFrom}
use Rattle.mas_sites_wire.specs.declared.wire.Log.{Log}
use Rattle.mas_sites_wire.specs.Wires.{whole, putting, getting, idle, blank, with_put, with_got, AreFrom, Knows, IsWire, HasGot, IsLeft, HasAnswered}

-- ---- the views

abbrev Each : (ℕ → Log → Type 0) → List Log → Type 0
Each F views = (number : ℕ) (v : Log) → get_elem? views number ≡ some v → F number v

each_set : (F : ℕ → Log → Type 0) (views : List Log) (number : ℕ) (w : Log) → F number w → ((j : ℕ) (u : Log) → j ≢ number → get_elem? views j ≡ some u → F j u) → Each F (set views number w)
each_set F views number w mine others j u e = ⊎_elim (λ (x : (j ≡ number) × (w ≡ u)). subst (λ (y : ℕ × Log). F y.0 y.1) (λ i. (sym x.0 i, x.1 i)) mine)
    (λ (x : (j ≢ number) × (get_elem? views j ≡ some u)). others j u x.0 x.1) (at_set views number j w u e)

some_same : (x y : Log) → some x ≡ some y → x ≡ y
some_same x y p = cc

-- one view more
each_more : (F : ℕ → Log → Type 0) (views : List Log) (w : Log) → Each F views → F (length views) w → Each F (views ++ w ∷ [])
each_more F [] w old new zero u e = subst (λ x. F 0 x) (some_same w u e) new
each_more F [] w old new (suc j) u e = absurd (some-ne-none u (sym e))
each_more F (v ∷ views) w old new zero u e = old zero u e
each_more F (v ∷ views) w old new (suc j) u e = each_more (λ n. F (suc n)) views w (λ i x p. old (suc i) x p) new j u e

none : (F : ℕ → Log → Type 0) → Each F []
none F j u e = absurd (some-ne-none u (sym e))

-- an end that may do nothing
idle_knows : (writer reader : ℕ) (put got : List Message) (sender agents number : ℕ) → Knows writer reader put got sender agents number idle
idle_knows writer reader put got sender agents number = record { puts = λ p. absurd (true≢false (sym p)); gets = λ p. absurd (true≢false (sym p)) }

-- ---- the lists

-- what holds of all holds of each
in_all : {X : Type 0} (P : X → Type 0) (xs : List X) (x : X) (ys : List X) → All P (xs ++ x ∷ ys) → P x
in_all P [] x ys h = All-head P x ys h
in_all P (y ∷ xs) x ys h = in_all P xs x ys (All-tail P y (xs ++ x ∷ ys) h)

first_after : (xs : List Message) (x : Message) (ys : List Message) → slice_get (xs ++ x ∷ ys) (length xs) ≡ Some x
first_after [] x ys = refl
first_after (y ∷ xs) x ys = first_after xs x ys

-- ---- a new wire

pub begins : IsWire [] (blank ∷ [])
begins = record {
  writer = 0;
  reader = 0;
  sender = 0;
  agents = 0;
  put = [];
  got = [];
  in_order = refl;
  lawful = All-nil (IsFrom 0 0);
  each = each_more (Knows 0 0 [] [] 0 0) [] blank (none (Knows 0 0 [] [] 0 0)) (record {
    puts = λ _. record { only = refl; all = refl; of = refl; to = refl };
    gets = λ _. record { only = refl; all = refl; of = refl; to = refl };
  });
}

pub addressed : (number sender agents : ℕ) (v : Log) → v ≡ blank → Forks IsWire number v (whole sender agents [] []) idle
addressed number sender agents v e items views h at =
    let mine = h.each number v at in
    let w = mine.puts (ap (λ (x : Log). x.puts) e) in
    let r = mine.gets (ap (λ (x : Log). x.gets) e) in
    let F : ℕ → Log → Type 0 = Knows number number [] [] sender agents in
    let none_put : [] ≡ h.put = sym (ap (λ (x : Log). x.put) e) ∙ w.all in
    let none_got : [] ≡ h.got = sym (ap (λ (x : Log). x.got) e) ∙ r.all in
    let now : Each F (set views number (whole sender agents [] [])) =
    each_set F views number (whole sender agents [] [])
    (record { puts = λ _. record { only = refl; all = refl; of = refl; to = refl }; gets = λ _. record { only = refl; all = refl; of = refl; to = refl } })
    (λ j u other f. record {
      puts = λ p. absurd (other (((h.each j u f).puts p).only ∙ sym w.only));
      gets = λ p. absurd (other (((h.each j u f).gets p).only ∙ sym r.only));
    }) in
    record {
      writer = number;
      reader = number;
      sender = sender;
      agents = agents;
      put = [];
      got = [];
      in_order = none_put ∙ h.in_order ∙ ap (λ l. l ++ items) (sym none_got);
      lawful = All-nil (IsFrom sender agents);
      each = each_more F (set views number (whole sender agents [] [])) idle now (idle_knows number number [] [] sender agents _);
    }

-- ---- messages

of_sender : (s t a b : ℕ) (m : Message) → s ≡ t → a ≡ b → IsFrom s a m → IsFrom t b m
of_sender s t a b m e f h = rw (sym e, sym f) h

pub puts : (n number : ℕ) (v : Log) (m : Message) → v.puts ≡ true → IsFrom v.sender v.agents m → Pushes IsWire n number v m (λ w. w ≡ with_put v m)
puts n number v m may from items views _ h at =
    let mine = h.each number v at in
    let w = mine.puts may in
    let put = h.put ++ m ∷ [] in (
      with_put v m,
      record {
        writer = h.writer;
        reader = h.reader;
        sender = h.sender;
        agents = h.agents;
        put = put;
        got = h.got;
        in_order = ap (λ l. l ++ m ∷ []) h.in_order ∙ append_assoc h.got items (m ∷ []);
        lawful = All-push (IsFrom h.sender h.agents) h.put m h.lawful (of_sender v.sender h.sender v.agents h.agents m w.of w.to from);
        each = each_set (Knows h.writer h.reader put h.got h.sender h.agents) views number (with_put v m)
            (record {
              puts = λ _. record { only = w.only; all = ap (λ l. l ++ m ∷ []) w.all; of = w.of; to = w.to };
              gets = λ p. let r = mine.gets p in record { only = r.only; all = r.all; of = r.of; to = r.to };
            })
            (λ j u other e. record { puts = λ p. absurd (other (((h.each j u e).puts p).only ∙ sym w.only)); gets = (h.each j u e).gets });
      },
      refl,
    )

pub gets : (number : ℕ) (v : Log) → v.gets ≡ true → Pops IsWire number v (HasGot v)
gets number v may m items views h at =
    let mine = h.each number v at in
    let r = mine.gets may in
    let got = h.got ++ m ∷ [] in
    let lies : AreFrom h.sender h.agents (h.got ++ m ∷ items) = subst (λ l. AreFrom h.sender h.agents l) h.in_order h.lawful in (
      with_got v m,
      record {
        writer = h.writer;
        reader = h.reader;
        sender = h.sender;
        agents = h.agents;
        put = h.put;
        got = got;
        in_order = h.in_order ∙ sym (append_assoc h.got (m ∷ []) items);
        lawful = h.lawful;
        each = each_set (Knows h.writer h.reader h.put got h.sender h.agents) views number (with_got v m)
            (record {
              puts = λ p. let w = mine.puts p in record { only = w.only; all = w.all; of = w.of; to = w.to };
              gets = λ _. record { only = r.only; all = ap (λ l. l ++ m ∷ []) r.all; of = r.of; to = r.to };
            })
            (λ j u other e. record { puts = (h.each j u e).puts; gets = λ p. absurd (other (((h.each j u e).gets p).only ∙ sym r.only)) });
      },
      record {
        view = refl;
        from = of_sender h.sender v.sender h.agents v.agents m (sym r.of) (sym r.to) (in_all (IsFrom h.sender h.agents) h.got m items lies);
        oldest = λ p. ap (λ l. slice_get l (length v.got)) ((mine.puts p).all ∙ h.in_order) ∙ ap (λ l. slice_get (h.got ++ m ∷ items) (length l)) r.all ∙ first_after h.got m items;
      },
    )

pub is_left : (number : ℕ) (v : Log) → v.gets ≡ true → Learns IsWire number v (IsLeft v)
is_left number v may items views h at p =
    let mine = h.each number v at in
    (mine.puts p).all ∙ h.in_order ∙ ap (λ l. l ++ items) (sym (mine.gets may).all)

pub none_left : (v : Log) → IsLeft v [] → v.puts ≡ true → v.put ≡ v.got
none_left v h p = h p ∙ append-nil v.got

-- ---- ends

pub parts : (number : ℕ) (v : Log) → v.puts ≡ true → v.gets ≡ true → Forks IsWire number v (putting v.sender v.agents v.put) (getting v.sender v.agents v.got)
parts number v a b items views h at =
    let l : Log = putting v.sender v.agents v.put in
    let r : Log = getting v.sender v.agents v.got in
    let w = (h.each number v at).puts a in
    let g = (h.each number v at).gets b in
    let vs : List Log = set views number l in
    let F : ℕ → Log → Type 0 = Knows h.writer (length vs) h.put h.got h.sender h.agents in
    let now : Each F vs = each_set F views number l
    (record { puts = λ _. record { only = w.only; all = w.all; of = w.of; to = w.to }; gets = λ p. absurd (true≢false (sym p)) })
    (λ j u other e. record { puts = (h.each j u e).puts; gets = λ p. absurd (other (((h.each j u e).gets p).only ∙ sym g.only)) }) in
    record {
      writer = h.writer;
      reader = length vs;
      sender = h.sender;
      agents = h.agents;
      put = h.put;
      got = h.got;
      in_order = h.in_order;
      lawful = h.lawful;
      each = each_more F vs r now (record { puts = λ p. absurd (true≢false (sym p)); gets = λ _. record { only = refl; all = g.all; of = g.of; to = g.to } });
    }

pub joins : (number : ℕ) (v : Log) (other : ℕ) (u : Log) → v.puts ≡ true → u.gets ≡ true → Merges IsWire number v other u (whole v.sender v.agents v.put u.got) idle
joins number v other u a b items views h at two at' =
    let both : Log = whole v.sender v.agents v.put u.got in
    let w = (h.each number v at).puts a in
    let vs : List Log = set views number both in
    let was : get_elem? views other ≡ some u = ⊎_elim (λ x. absurd (two x.0)) (λ x. x.1) (at_set views number other both u at') in
    let g = (h.each other u was).gets b in
    let F : ℕ → Log → Type 0 = Knows h.writer number h.put h.got h.sender h.agents in
    let G : ℕ → Log → Type 0 = λ j y. j ≢ other → F j y in
    let now : Each G vs = each_set G views number both
    (λ _. record { puts = λ _. record { only = w.only; all = w.all; of = w.of; to = w.to }; gets = λ _. record { only = refl; all = g.all; of = w.of; to = w.to } })
    (λ j y _ e apart. record { puts = (h.each j y e).puts; gets = λ p. absurd (apart (((h.each j y e).gets p).only ∙ sym g.only)) }) in
    record {
      writer = h.writer;
      reader = number;
      sender = h.sender;
      agents = h.agents;
      put = h.put;
      got = h.got;
      in_order = h.in_order;
      lawful = h.lawful;
      each = each_set F vs other idle (idle_knows h.writer number h.put h.got h.sender h.agents other) (λ j y apart e. now j y e apart);
    }

-- what a pop tells, by its answer
pub answered : (v w : Log) (r : Option Message) (Rest : Type 0) → MatchOption r ((w ≡ v) × IsLeft v []) (λ m. HasGot v m w × Rest) → HasAnswered v r w
answered v w None Rest h = (h.0, none_left v h.1)
answered v w (Some m) Rest h = h.0
