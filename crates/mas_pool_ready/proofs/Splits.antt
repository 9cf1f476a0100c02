-- The passes for the workers.
use Rattle.std.proofs.Common.{◌≡◌, ℕ, zero, suc, ◌+◌, ◌<◌, ◌≤◌, List, [], ◌∷◌, ◌++◌, length, sym, ap, ◌∙◌, subst, length-append, append_assoc, append-nil, arith}
use lib.ListN.{get_or}
use Rattle.crossbeam_queue.specs.Passes.{view, IsPassOf, IsSamePass}
use Rattle.mas_board_lists.specs.Lists.{numbers_from}
use Rattle.mas_board_lists.proofs.Sums.{each_append, total_append}
use Rattle.mas_pool_ready.specs.declared.rule.ReadyView.{ReadyView}
use Rattle.mas_pool_ready.specs.declared.queue.Ready.{Ready}
use Rattle.mas_pool_ready.specs.declared.queue.Pass.{Pass}
use Rattle.mas_pool_ready.specs.Rule.{numbers, less, one_part, both_of}
use Rattle.mas_pool_ready.specs.Passes.{ReadyPass, known, IsOf, IsFresh, Splitting, parts_of, all_held, all_kept, Gathered}

pub number_at : {T : Type 0} (number : T → ℕ) (xs : List T) (k n i : ℕ) (d x : T) → numbers number xs ≡ numbers_from k n → i < length xs → x ≡ get_or xs i d → number x ≡ k + i
number_at number [] k n i d x e l g = absurd (omega arith)
number_at number (y ∷ xs) k zero i d x e l g = cc
number_at number (y ∷ xs) k (suc n) zero d x e l g = let h : number y ≡ k = cc in ap number g ∙ h ∙ (let z : k ≡ k + 0 = omega arith in z)
number_at number (y ∷ xs) k (suc n) (suc i) d x e l g =
    let h : numbers number xs ≡ numbers_from (suc k) n = cc in
    number_at number xs (suc k) n i d x h (omega arith) g ∙ (let z : suc k + i ≡ k + suc i = omega arith in z)

module _ {T : Type 0} where
  -- the pass of a ticket is fresh
  fresh : (q : Ready T) (begun t : ReadyPass T) (p : Pass T) (items : ℕ) → p.ticket ≡ t → IsPassOf q.line t → 0 < (view t).parts → (view t).first ≡ (view begun).first → (view t).holds ≡ []
      → p.kept.list ≡ [] → items ≤ p.kept.spare → items ≡ length (view begun).first → IsFresh q (view begun).first p
  fresh q begun t p items e i some first holds kept room n = record {
    of = record { ticket = subst (IsPassOf q.line) (sym e) i; part = subst (λ (u : ReadyPass T). 0 < (view u).parts) (sym e) some };
    first = ap (λ (u : ReadyPass T). (view u).first) e ∙ first;
    holds = ap (λ (u : ReadyPass T). (view u).holds) e ∙ holds;
    kept = kept;
    room = subst (λ (m : ℕ). m ≤ p.kept.spare) n room;
  }

  pub split_next : (q : Ready T) (begun t u other : ReadyPass T) (made items : ℕ) (ps : List (Pass T)) (p : Pass T) → made < 63 → Splitting q begun made t ps → IsSamePass t u → IsPassOf q.line other → view u ≡ less (view t)
      → view other ≡ one_part (view t) → p.ticket ≡ other → p.kept.list ≡ [] → items ≤ p.kept.spare → items ≡ length (view begun).first → Splitting q begun (made + 1) u (ps ++ p ∷ [])
  split_next q begun t u other made items ps p l s same i e d is kept room n =
      let parts = ap (λ (v : ReadyView T). v.parts) e in
      let one = ap (λ (v : ReadyView T). v.parts) d in
      record {
        ticket = (same.0 ∙ s.ticket.0, same.2 ∙ s.ticket.1);
        first = ap (λ (v : ReadyView T). v.first) e ∙ s.first;
        holds = ap (λ (v : ReadyView T). v.holds) e ∙ s.holds;
        parts = let c = s.parts in omega arith;
        count = let c = s.count in let a = length-append ps (p ∷ []) in omega arith;
        fresh = each_append (IsFresh q (view begun).first) ps (p ∷ []) s.fresh
            (fresh q begun other p items is i (omega arith) (ap (λ (v : ReadyView T). v.first) d ∙ s.first) (ap (λ (v : ReadyView T). v.holds) d) kept room n, tt);
        given = let g = s.given in let a = total_append (λ (x : Pass T). (known x).parts) ps (p ∷ []) in let b = ap (λ (x : ReadyPass T). (view x).parts) is in omega arith;
      }

  pub split_last : (q : Ready T) (begun t : ReadyPass T) (made : ℕ) (ps : List (Pass T)) (p : Pass T) → Splitting q begun made t ps → p.ticket ≡ t → parts_of (ps ++ p ∷ []) ≡ 64
  split_last q begun t made ps p s is =
      let g = s.given in let c = s.parts in let a = total_append (λ (x : Pass T). (known x).parts) ps (p ∷ []) in let b = ap (λ (x : ReadyPass T). (view x).parts) is in omega arith

  all_held_snoc : (ps : List (Pass T)) (p : Pass T) → all_held (ps ++ p ∷ []) ≡ all_held ps ++ (known p).holds
  all_held_snoc [] p = append-nil (known p).holds
  all_held_snoc (x ∷ ps) p = ap (λ (l : List ℕ). (known x).holds ++ l) (all_held_snoc ps p) ∙ sym (append_assoc (known x).holds (all_held ps) (known p).holds)

  all_kept_snoc : (ps : List (Pass T)) (p : Pass T) → all_kept (ps ++ p ∷ []) ≡ all_kept ps ++ p.kept.list
  all_kept_snoc [] p = append-nil p.kept.list
  all_kept_snoc (x ∷ ps) p = ap (λ (l : List T). x.kept.list ++ l) (all_kept_snoc ps p) ∙ sym (append_assoc x.kept.list (all_kept ps) p.kept.list)

  pub gathered_next : (q : Ready T) (ps : List (Pass T)) (p old now new : Pass T) (items all more : List T) → Gathered q ps old now items all → IsOf q new → new.kept ≡ now.kept → known new ≡ both_of (known now) (known p)
      → more ≡ all ++ p.kept.list → Gathered q (ps ++ p ∷ []) old new items more
  gathered_next q ps p old now new items all more g i k e m = record {
    of = i;
    kept = k ∙ g.kept;
    first = ap (λ (v : ReadyView T). v.first) e ∙ g.first;
    parts = let a = ap (λ (v : ReadyView T). v.parts) e in let b = g.parts in let c = total_append (λ (x : Pass T). (known x).parts) ps (p ∷ []) in omega arith;
    holds = ap (λ (v : ReadyView T). v.holds) e ∙ ap (λ (l : List ℕ). l ++ (known p).holds) g.holds ∙ append_assoc (known old).holds (all_held ps) (known p).holds
        ∙ ap (λ (l : List ℕ). (known old).holds ++ l) (sym (all_held_snoc ps p));
    items_are = m ∙ ap (λ (l : List T). l ++ p.kept.list) g.items_are ∙ append_assoc items (all_kept ps) p.kept.list ∙ ap (λ (l : List T). items ++ l) (sym (all_kept_snoc ps p));
  }
