-- The rule of board and journal at each step.
use Rattle.std.proofs.Common.{◌≡◌, ℕ, zero, suc, ◌<◌, ◌≤◌, true, false, true≢false, Bool, Option, Some, None, List, [], ◌∷◌, ◌++◌, length, set, sym, ap, ◌∙◌}
use Rattle.std.proofs.Common.{subst, refl, ⊎_elim, length-append, append_assoc, arith, Result, Ok, Err}
use mathlib.Core.Option.{some, some-injective, some-ne-none}
use lib.ListN.{get_elem?}
use Rattle.crossbeam_queue.specs.Fifo.{Pushes, Pops, Forks, Merges, Learns}
use Rattle.crossbeam_queue.proofs.Lists.{at_set}
use Rattle.mas_board_lists.specs.Lists.{StartsWith, Each, total}
use Rattle.mas_board_lists.proofs.Sums.{at_total, all_set, all_snoc, each_append, each_map}
use Rattle.mas_board_lists.proofs.Starts.{starts_refl}
use Rattle.mas_record_disk.specs.Disk.{Image, DiskState}
use Rattle.mas_record_disk.specs.Calls.{name_or_none}
use Rattle.mas_record_disk.specs.declared.disk.DiskFail.{DiskFail}
use Rattle.mas_record_journal.specs.declared.journal.Journal.{Journal}
use Rattle.mas_record_journal.specs.Journals.{RecoversEither}
use Rattle.mas_record_journal.specs.Moments.{Ran}
use Rattle.mas_board_turns.specs.declared.turn.Turn.{Turn}
use Rattle.mas_board_turns.specs.declared.view.SideView.{SideView}
use Rattle.mas_board_turns.specs.Views.{Opening}
use Rattle.mas_board_turns.specs.Steps as step
use Rattle.mas_board_turns.specs.Steps.{Sits, IsWhole}
use Rattle.mas_board_turns.specs.Rule.{hand, Playing, Holds, Taken, Told}
use Rattle.mas_board_turns.proofs.Views.{in_one}
use Rattle.mas_board_turns.proofs.Takes.{takes, opens, takes_seat}
use Rattle.mas_board_turns.proofs.Gives.{gives_seat}
use Rattle.mas_board_turns.proofs.Joins.{forks, merges}
use Rattle.mas_board_turns.proofs.Ends.{closes, is_there}
use Rattle.mas_record_disk.specs.PastDisk.{IsOnlyNow}
use Rattle.mas_record.specs.declared.deck.Deck.{Deck}
use Rattle.mas_record.specs.declared.side.DeckView.{DeckView}
use Rattle.mas_record.specs.Rule.{IsKept, showing, shown, opening}
use Rattle.mas_record.specs.Entries.{Appended, NotedIn}
use Rattle.mas_record.specs.Views.{opened, rest_of, one_of, both_of, spent, took, gave}
use Rattle.mas_record.specs.Standing.{RecoversFrom, IsStill, IsStillIn, KeepsStill, Follows, sides, Following, DeckHolds, DeckTaken, DeckMayGive, DeckTold}

-- ---- turns that begin with others

starts_trans : (xs ys zs : List ℕ) → StartsWith xs ys → StartsWith ys zs → StartsWith xs zs
starts_trans xs ys zs h k = (k.0 ++ h.0, h.1 ∙ ap (λ (l : List ℕ). l ++ h.0) k.1 ∙ append_assoc zs k.0 h.0)

from_more : (turns less : List ℕ) (c : Image) → StartsWith turns less → RecoversFrom turns c → RecoversFrom less c
from_more turns less c h r = record { found = r.found; recovers = r.recovers; begins = starts_trans r.found turns less r.begins h }

from_one : (turns : List ℕ) (a : ℕ) (c : Image) → RecoversEither turns a c → RecoversFrom turns c
from_one turns a c r =
    ⊎_elim (λ h. record { found = turns; recovers = h; begins = starts_refl turns }) (λ h. record { found = turns ++ a ∷ []; recovers = h; begins = (a ∷ [], refl) })
    r

-- ---- what becomes of a journal that was given back

module _ {D : Type 0} (state : D → DiskState) where
  ran_still : (old new : Journal D) (a : ℕ) → Ran (RecoversEither old.turns a) (state old.disk) (state new.disk) → StartsWith new.turns old.turns
      → KeepsStill state old new
  ran_still old new a ran more back h = record {
    later = (let l = h.later in let m = ran.moment in omega arith);
    begins = starts_trans new.turns old.turns back.turns more h.begins;
    images = λ told c left.
        let was = sym ran.told ∙ told in
        let there = subst (λ (p : Option (List ℕ)). (state new.disk).left_since (state back.disk).moment (name_or_none p) c) ran.picked left in
        ⊎_elim (λ l. h.images was c l) (λ r. from_more old.turns back.turns c h.begins (from_one old.turns a c r))
        ((ran.leaves was).before (state back.disk).moment c h.later there);
  }

  turns_more : (old new : Journal D) (a : ℕ) (written : Result (Unit {0}) DiskFail) → Appended state a old new written → StartsWith new.turns old.turns
  turns_more old new a (Ok u) n = (a ∷ [], n.ok.turns)
  turns_more old new a (Err f) n = subst (λ (l : List ℕ). StartsWith l old.turns) (sym n.refused.turns) (starts_refl old.turns)

  same_still : (old new : Journal D) → new ≡ old → KeepsStill state old new
  same_still old new e back h = subst (λ (j : Journal D). IsStill state j back) (sym e) h

  pub noted_still : (made : Option Turn) (a : ℕ) (old new : Journal D) (written : Result (Unit {0}) DiskFail) → NotedIn state made a old new written
      → KeepsStill state old new
  noted_still None a old new written n = same_still old new n.0
  noted_still (Some turn) a old new written n = ran_still old new a n.ran (turns_more old new a written n)

  -- another one is given back
  moves : (present met : Option (Journal D)) (z : Journal D) → met ≡ present → ((j : Journal D) → met ≡ Some j → KeepsStill state j z)
      → (back : Journal D) → IsStillIn state present back → IsStill state z back
  moves None met z e k back h = absurd h
  moves (Some j) met z e k back h = k j e back h

  never : (present : Option (Journal D)) (z : Journal D) → present ≡ None → (back : Journal D) → IsStillIn state present back → IsStill state z back
  never present z e back h = absurd (subst (λ (o : Option (Journal D)). IsStillIn state o back) e h)

-- ---- the views of the board

at_side : {D : Type 0} (views : List (DeckView D)) (p : ℕ) (v : DeckView D) → get_elem? views p ≡ some v → get_elem? (sides views) p ≡ some v.side
at_side [] p v e = absurd (some-ne-none v (sym e))
at_side (x ∷ xs) zero v e = ap (λ u. some u.side) (some-injective x v e)
at_side (x ∷ xs) (suc p) v e = at_side xs p v e

side_set : {D : Type 0} (views : List (DeckView D)) (p : ℕ) (w : DeckView D) → sides (set views p w) ≡ set (sides views) p w.side
side_set [] zero w = refl
side_set [] (suc p) w = refl
side_set (x ∷ xs) zero w = refl
side_set (x ∷ xs) (suc p) w = ap (λ (l : List SideView). x.side ∷ l) (side_set xs p w)

side_snoc : {D : Type 0} (views : List (DeckView D)) (w : DeckView D) → sides (views ++ w ∷ []) ≡ sides views ++ w.side ∷ []
side_snoc [] w = refl
side_snoc (x ∷ xs) w = ap (λ (l : List SideView). x.side ∷ l) (side_snoc xs w)

lands : {D : Type 0} (views : List (DeckView D)) (p : ℕ) (s : SideView) (w : DeckView D) → s ≡ w.side → set (sides views) p s ≡ sides (set views p w)
lands views p s w e = ap (λ (u : SideView). set (sides views) p u) e ∙ sym (side_set views p w)

-- ---- board and journal lie in the queue

no_end : {X : Type 0} (items : List X) (x : X) → items ++ x ∷ [] ≡ [] → ⊥
no_end items x e = let n = length-append items (x ∷ []) in let m : length (items ++ x ∷ []) ≡ 0 = ap (λ l. length l) e in omega arith

empty_each : {X : Type 0} (P : X → Type 0) (items : List X) → length items ≡ 0 → Each P items
empty_each P [] e = tt
empty_each P (x ∷ xs) e = absurd (omega arith)

module _ {A D : Type 0} (state : D → DiskState) where
  abbrev Lying : List (Deck A D) → List SideView → Type 0
  Lying items views = Holds (showing {A = A} state) items views

  in_queue : (items : List (Deck A D)) (x : Deck A D) (views : List SideView) → Lying (items ++ x ∷ []) views
      → Playing (showing {A = A} state) (items ++ x ∷ []) views
  in_queue items x views h = ⊎_elim (λ b. absurd (no_end items x b.0)) (λ k. k) h

  nobody : (items : List (Deck A D)) (x : Deck A D) (views : List SideView) → Playing (showing {A = A} state) (items ++ x ∷ []) views
      → (j : ℕ) (u : SideView) → get_elem? views j ≡ some u → u.in_hand ≡ true → ⊥
  nobody items x views k j u e q =
      let c = k.hands in
      let m = at_total hand views j u e in
      let o = in_one u.in_hand q in
      let n = length-append items (x ∷ []) in
      omega arith

  alone : (items : List (Deck A D)) (x : Deck A D) (views : List SideView) → Playing (showing {A = A} state) (items ++ x ∷ []) views → length items ≡ 0
  alone items x views k = let c = k.hands in let n = length-append items (x ∷ []) in omega arith

  pushed : (items : List (Deck A D)) (views : List (DeckView D)) (p : ℕ) (w : DeckView D) (x : Deck A D) → Lying (items ++ x ∷ []) (sides (set views p w))
      → Each (IsStill state x.journal) w.left
      → ((j : ℕ) (u : DeckView D) → get_elem? views j ≡ some u → Each (IsStill state x.journal) u.left)
      → Following state (items ++ x ∷ []) (set views p w)
  pushed items views p w x h mine others =
      let k = in_queue items x (sides (set views p w)) h in
      let P : Deck A D → Type 0 = λ y. ◌≡◌ {A = Option (Journal D)} (Some x.journal) (Some y.journal) in
      record {
        present = Some x.journal;
        lies = each_append P items (x ∷ []) (empty_each P items (alone items x (sides (set views p w)) k)) (refl, tt);
        fits = λ j u e.
            let s = at_side (set views p w) j u e in
            record {
              early = λ q. absurd (true≢false (sym (k.fits j u.side s).running ∙ q));
              hand = λ q. absurd (nobody items x (sides (set views p w)) k j u.side s q);
              still = all_set (λ (v : DeckView D). Each (IsStill state x.journal) v.left) views p w mine (λ i v _ d. others i v d) j u e;
            };
      }

  -- ---- they come

  pub deck_opens : (n p : ℕ) (v : DeckView D) (o : Opening) (x : Deck A D) → v.side.started ≡ false
      → Pushes (Holds (showing {A = A} state)) n p v.side x (λ w. w ≡ step.opened o) → Pushes (DeckHolds {A = A} state) n p v x (λ w. w ≡ opened o)
  deck_opens n p v o x s inner items views room h at =
      let r = inner items (sides views) room h.0 (at_side views p v at) in
      let w : DeckView D = opened o in
      let lying = subst (λ (l : List SideView). Lying (items ++ x ∷ []) l) (lands views p r.0 w r.2) r.1 in
      let f = h.1 in
      let none = (f.fits p v at).early s in
      let others : (j : ℕ) (u : DeckView D) → get_elem? views j ≡ some u → Each (IsStill state x.journal) u.left =
      λ j u e. each_map (IsStillIn state f.present) (IsStill state x.journal) u.left (never state f.present x.journal none) (f.fits j u e).still in
      (w, (lying, pushed items views p w x lying tt others), refl)

  -- ---- they are taken

  taken_out : (x : Deck A D) (items : List (Deck A D)) (views : List (DeckView D)) (p : ℕ) (v : DeckView D) → Following state (x ∷ items) views
      → get_elem? views p ≡ some v → Following state items (set views p (took state v x))
  taken_out x items views p v f at =
      let g = f.fits p v at in
      record {
        present = f.present;
        lies = f.lies.1;
        fits = all_set (Follows state f.present) views p (took state v x) (record { early = g.early; hand = λ _. sym f.lies.0; still = g.still })
            (λ j u _ e. f.fits j u e);
      }

  pub deck_takes : (p : ℕ) (v : DeckView D) → Pops (Holds (showing {A = A} state)) p v.side (Taken (showing {A = A} state) v.side)
      → Pops (DeckHolds {A = A} state) p v (DeckTaken {A = A} state v)
  deck_takes p v inner x items views h at =
      let r = inner x items (sides views) h.0 (at_side views p v at) in
      let w : DeckView D = took state v x in (
        w,
        (subst (λ (l : List SideView). Lying items l) (lands views p r.0 w r.2.is) r.1, taken_out x items views p v h.1 at),
        record { is = refl; taken = subst (Taken (showing {A = A} state) v.side x) r.2.is r.2 },
      )

  -- ---- they are given back

  still_now : (first : Opening) (x : Deck A D) → IsKept state first x → IsOnlyNow (state x.journal.disk) → IsStill state x.journal x.journal
  still_now first x k now = record {
    later = omega arith;
    begins = starts_refl x.journal.turns;
    images = λ told c left.
        let r = k.leaves told c (now (name_or_none (state x.journal.disk).picked) c left) in
        record { found = r.found; recovers = r.recovers; begins = r.begins };
  }

  pub deck_gives : (made : Option Turn) (n p a : ℕ) (v : DeckView D) (x : Deck A D) → v.side.in_hand ≡ true → DeckMayGive {A = A} state made a v x
      → IsOnlyNow (state x.journal.disk) → Pushes (Holds (showing {A = A} state)) n p v.side x (λ w. w ≡ step.gave made v.side (shown x))
      → Pushes (DeckHolds {A = A} state) n p v x (λ w. w ≡ gave state made v x)
  deck_gives made n p a v x inside may now inner items views room h at =
      let r = inner items (sides views) room h.0 (at_side views p v at) in
      let w : DeckView D = gave state made v x in
      let lying = subst (λ (l : List SideView). Lying (items ++ x ∷ []) l) (lands views p r.0 w r.2) r.1 in
      let f = h.1 in
      let met = (f.fits p v at).hand inside in
      let others : (j : ℕ) (u : DeckView D) → get_elem? views j ≡ some u → Each (IsStill state x.journal) u.left =
      λ j u e. each_map (IsStillIn state f.present) (IsStill state x.journal) u.left (moves state f.present v.met x.journal met may.keeps) (f.fits j u e).still in
      (w, (lying, pushed items views p w x lying (still_now v.side.first x may.gives.kept now, others p v at) others), refl)

  -- ---- views are cut in two, and put together

  pub deck_forks : (p : ℕ) (v : DeckView D) → Forks (Holds (showing {A = A} state)) p v.side (step.rest_of v.side) (step.one_of v.side)
      → Forks (DeckHolds {A = A} state) p v (rest_of v) (one_of v)
  deck_forks p v inner items views h at =
      let f = h.1 in
      let g = f.fits p v at in
      let path : set (sides views) p (step.rest_of v.side) ++ step.one_of v.side ∷ [] ≡ sides (set views p (rest_of v) ++ one_of v ∷ []) =
      ap (λ (l : List SideView). l ++ step.one_of v.side ∷ []) (sym (side_set views p (rest_of v))) ∙ sym (side_snoc (set views p (rest_of v)) (one_of v)) in (
        subst (λ (l : List SideView). Lying items l) path (inner items (sides views) h.0 (at_side views p v at)),
        record {
          present = f.present;
          lies = f.lies;
          fits = all_snoc (Follows state f.present) (set views p (rest_of v)) (one_of v) (record { early = g.early; hand = g.hand; still = g.still })
              (all_set (Follows state f.present) views p (rest_of v) (record { early = g.early; hand = g.hand; still = g.still })
              (λ j u _ e. f.fits j u e));
        },
      )

  pub deck_merges : (p : ℕ) (v : DeckView D) (q : ℕ) (w : DeckView D)
      → Merges (Holds (showing {A = A} state)) p v.side q w.side (step.both_of v.side w.side) step.spent
      → Merges (DeckHolds {A = A} state) p v q w (both_of v w) spent
  deck_merges p v q w inner items views h at two at' =
      let both : DeckView D = both_of v w in
      let was : get_elem? views q ≡ some w = ⊎_elim (λ x. absurd (two x.0)) (λ x. x.1) (at_set views p q both w at') in
      let f = h.1 in
      let g = f.fits p v at in
      let there = subst (λ (l : List SideView). get_elem? l q ≡ some w.side) (side_set views p both) (at_side (set views p both) q w at') in
      let path : set (set (sides views) p both.side) q step.spent ≡ sides (set (set views p both) q spent) =
      ap (λ (l : List SideView). set l q step.spent) (sym (side_set views p both)) ∙ sym (side_set (set views p both) q spent) in (
        subst (λ (l : List SideView). Lying items l) path (inner items (sides views) h.0 (at_side views p v at) two there),
        record {
          present = f.present;
          lies = f.lies;
          fits = all_set (Follows state f.present) (set views p both) q spent
              (record { early = λ i. absurd (true≢false i); hand = λ i. absurd (true≢false (sym i)); still = tt })
              (λ j u _ e. all_set (Follows state f.present) views p both
              (record {
                early = g.early;
                hand = g.hand;
                still = each_append (IsStillIn state f.present) v.left w.left g.still (f.fits q w was).still;
              })
              (λ i y _ d. f.fits i y d) j u e);
        },
      )

  -- ---- they are taken for good

  pub deck_closes : (p : ℕ) (v : DeckView D) → v.side.started ≡ true → 0 < length v.side.turns
      → Pops (DeckHolds {A = A} state) p v (λ x w. DeckTold {A = A} state v x)
  deck_closes p v s some_agent x items views h at =
      let there = at_side views p v at in
      let t = takes (showing {A = A} state) p v.side s some_agent x items (sides views) h.0 there in
      let c = closes {r = showing {A = A} state} p v.side s some_agent x items (sides views) h.0 there in
      let w : DeckView D = took state v x in
      let f = h.1 in (
        w,
        (subst (λ (l : List SideView). Lying items l) (lands views p t.0 w t.2) t.1, taken_out x items views p v f at),
        record {
          told = c.2;
          still = each_map (IsStillIn state f.present) (IsStill state x.journal) v.left
              (λ back i. subst (λ (o : Option (Journal D)). IsStillIn state o back) f.lies.0 i) (f.fits p v at).still;
        },
      )

  pub deck_there : (p : ℕ) (v : DeckView D) → v.side.started ≡ true → v.side.in_hand ≡ false → 0 < length v.side.turns → IsWhole v.side
      → Learns (DeckHolds {A = A} state) p v (λ items. length items ≡ 1)
  deck_there p v s out some_agent whole items views h at =
      is_there {r = showing {A = A} state} p v.side s out some_agent whole items (sides views) h.0 (at_side views p v at)

  -- ---- as the calls need it

  pub deck_takes_seat : {a : ℕ} {v : DeckView D} (p : ℕ) → Sits a false v.side → Pops (DeckHolds {A = A} state) p v (DeckTaken {A = A} state v)
  deck_takes_seat {a} {v} p s = deck_takes p v (takes_seat p s)

  pub deck_gives_seat : {a b : ℕ} {u v : DeckView D} {x y : Deck A D} (made : Option Turn) (n p : ℕ) → Sits a true v.side → a ≡ b → v ≡ u → x ≡ y
      → DeckMayGive {A = A} state made b u y → IsOnlyNow (state y.journal.disk) → Pushes (DeckHolds {A = A} state) n p v x (λ w. w ≡ gave state made v x)
  deck_gives_seat {a} {b} {u} {v} {x} {y} made n p s c e d may now =
      let m = subst (λ (t : DeckView D × Deck A D). DeckMayGive {A = A} state made b t.0 t.1) (λ i. (sym e i, sym d i)) may in
      let o = subst (λ (t : Deck A D). IsOnlyNow (state t.journal.disk)) (sym d) now in
      deck_gives made n p b v x s.held m o (gives_seat made n p s c refl refl m.gives)
