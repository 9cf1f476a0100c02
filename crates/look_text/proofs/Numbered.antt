-- Stacks with their numbers.
use Rattle.std.proofs.Common.{ℕ, ◌≡◌, ◌<◌, ◌+◌, List, [], ◌∷◌, ◌++◌, drop, length, get_or, sym, ap, ◌∙◌, arith, append_assoc, append-nil, ◌≤◌}
use Rattle.std.specs.Prelude.{codes}
use Rattle.std.proofs.lemmas.List.{at_drop_more, at_drop_all, length-append}
use Rattle.asl_intend.specs.declared.entry.Means.{Means}
use Rattle.look_lines.specs.Lines.{head}
use Rattle.look_text.specs.Agendas.{intentions_text, running_text, running_from}

pub running_next : (n : ℕ) (stacks : List (List Means)) (k : ℕ) (d : List Means) → k < length stacks
    → running_from n (drop k stacks) ≡ running_text n (get_or stacks k d) ++ running_from (n + 1) (drop (k + 1) stacks)
running_next n stacks k d h = at_drop_more (running_from n) stacks k d h

-- stacks in two lists, one after the other
pub running_joined : (n : ℕ) (front back : List (List Means)) → running_from n (front ++ back) ≡ running_from n front ++ running_from (n + length front) back
running_joined n [] back = let same : n ≡ n + 0 = omega arith in ap (λ k. running_from k back) same
running_joined n (s ∷ front) back =
    let same : n + 1 + length front ≡ n + length (s ∷ front) = omega arith in
    ap (λ t. running_text n s ++ t) (running_joined (n + 1) front back)
    ∙ ap (λ k. running_text n s ++ (running_from (n + 1) front ++ running_from k back)) same
    ∙ sym (append_assoc (running_text n s) (running_from (n + 1) front) (running_from (n + length (s ∷ front)) back))

-- all of them, as they are written in two parts
pub running_whole : (all front back : List (List Means)) (old headed grown new : List ℕ) → all ≡ front ++ back →
    headed ≡ old ++ head (codes "intentions") (length front + length back) → grown ≡ headed ++ running_from 1 front →
    new ≡ grown ++ running_from (length front + 1) back → new ≡ old ++ intentions_text all
running_whole all front back old headed grown new e p q r =
    let name = codes "intentions" in
    let few = length front + length back in
    let first = running_from 1 front in
    let second = running_from (length front + 1) back in
    let number : few ≡ length all = sym (length-append front back) ∙ sym (ap length e) in
    let place : length front + 1 ≡ 1 + length front = omega arith in
    let joined : first ++ second ≡ running_from 1 all =
    ap (λ k. first ++ running_from k back) place ∙ sym (running_joined 1 front back) ∙ sym (ap (running_from 1) e) in
    r ∙ ap (λ x. x ++ second) (q ∙ ap (λ x. x ++ first) p) ∙ append_assoc (old ++ head name few) first second
    ∙ append_assoc old (head name few) (first ++ second) ∙ (λ i. old ++ (head name (number i) ++ joined i))

-- ---- what the loop keeps

pub running_step : (n : ℕ) (stacks : List (List Means)) (k : ℕ) (d : List Means) (out grown total : List ℕ) → k < length stacks →
    grown ≡ out ++ running_text n (get_or stacks k d) → out ++ running_from n (drop k stacks) ≡ total → grown ++ running_from (n + 1) (drop (k + 1) stacks) ≡ total
running_step n stacks k d out grown total h g e =
    ap (λ x. x ++ running_from (n + 1) (drop (k + 1) stacks)) g ∙ append_assoc out (running_text n (get_or stacks k d)) (running_from (n + 1) (drop (k + 1) stacks))
    ∙ sym (ap (λ x. out ++ x) (running_next n stacks k d h)) ∙ e

pub running_end : (n : ℕ) (stacks : List (List Means)) (k : ℕ) (out total : List ℕ) → length stacks ≤ k → out ++ running_from n (drop k stacks) ≡ total → out ≡ total
running_end n stacks k out total h e = sym (append-nil out) ∙ sym (ap (λ x. out ++ running_from n x) (at_drop_all (λ x. x) stacks k h)) ∙ e
