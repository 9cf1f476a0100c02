-- Means that go on a stack under what is bound in it already.
use Rattle.std.proofs.Common.{◌≡◌, ◌≤◌, ◌∙◌, List, [], ◌∷◌, ◌++◌, map, drop, length, reverse, slice_get, Option, Some, None, refl, sym, ap, subst, arith}
use Rattle.std.proofs.lemmas.List.{reverse-append}
use Rattle.std.specs.List.{AllByRecursion}
use Rattle.std.specs.Prelude.{IfSome}
use Rattle.asl_term.specs.declared.syntax.Trigger.{Trigger}
use Rattle.asl_unify.specs.declared.subst.Pair.{Pair}
use Rattle.asl_unify.specs.Applied.{put_trigger}
use Rattle.asl_unify.specs.Matches.{matches}
use Rattle.asl_unify.specs.Puts.{value_of}
use Rattle.asl_unify.specs.Turns.{value_in}
use Rattle.asl_unify.proofs.Twice.{trigger_twice}
use Rattle.asl_intend.specs.declared.entry.Means.{Means}
use Rattle.asl_intend.specs.declared.entry.StackEntry.{StackEntry}
use Rattle.asl_intend.specs.Apart.{bound_to, IsUnder, PushedBy, StaysApart}
use Rattle.asl_intend.specs.Entries.{FirstSince, Since, seen}
use Rattle.asl_intend.specs.Means.{put_means, applied_means}
use Rattle.asl_intend.proofs.Logs.{pushed}
use Rattle.asl_intend.proofs.Standing.{flat_in, raw_match, full_match, means_turn}

-- an entry that is put last, over the same log

pub since_over : (log copy : List (List Pair)) (e : StackEntry) → copy ≡ log → Since (length log) e → Since (length copy) e
since_over log copy e l h = subst (λ z. Since (length z) e) (sym l) h

pub since_pushed : (log other : List (List Pair)) (xs ys : List StackEntry) (e : StackEntry) → log ≡ other → ys ≡ xs ++ e ∷ [] → Since (length other) e
    → AllByRecursion (Since (length log)) (reverse xs) → AllByRecursion (Since (length log)) (reverse ys)
since_pushed log other xs ys e l h a all =
    subst (AllByRecursion (Since (length log))) (sym (ap reverse h ∙ reverse-append xs (e ∷ []))) (since_over other log e l a, all)

pub pushed_same : (log other : List (List Pair)) (xs ys : List StackEntry) (e : StackEntry) → log ≡ other → ys ≡ xs ++ e ∷ []
    → map (seen log) (reverse ys) ≡ seen other e ∷ map (seen log) (reverse xs)
pushed_same log other xs ys e l h = pushed log xs ys e h ∙ ap (λ z. seen z e ∷ map (seen log) (reverse xs)) l

-- the same where there were none
pub alone_over : (log copy : List (List Pair)) (e : StackEntry) (old new : List Means) → length old ≤ 0 → copy ≡ log → new ≡ seen copy e ∷ []
    → new ≡ seen log e ∷ old
alone_over log copy e [] new h l is = is ∙ ap (λ z. seen z e ∷ []) l
alone_over log copy e (m ∷ old) new h l is = absurd (omega (arith, h))

-- what is put in for the first match is what is put in for the only one
pub one_found : (found : List (List Pair)) (s : List Pair) (m : Means) (r : Option Means) → slice_get found 0 ≡ Some s
    → IfSome r (λ made. made ≡ put_means (value_in s []) m) → (t : List Pair) → found ≡ t ∷ [] → IfSome r (λ made. made ≡ applied_means t m)
one_found found s m r f h t e =
    let some : Some s ≡ Some t = sym f ∙ ap (λ l. slice_get l 0) e in
    let same : s ≡ t = cc in subst (λ z. IfSome r (λ made. made ≡ applied_means z m)) same h

-- the same of a trigger that is shown otherwise
pub told_of : (m : Means) (t u : Trigger) (old new : List Means) → t ≡ u → PushedBy m u old new → PushedBy m t old new
told_of m t u old new e p = subst (λ z. PushedBy m z old new) (sym e) p

-- nothing is left to be put into a trigger that is shown

bare_trigger : (own : List Pair) (rest : List (List Pair)) (t : Trigger) → put_trigger (value_in own rest) t ≡ put_trigger (value_of []) (put_trigger (value_in own rest) t)
bare_trigger own rest t = (λ i. put_trigger (λ y. sym (flat_in own rest y) i) t) ∙ trigger_twice (value_of []) (value_in own rest) t

-- means without formulas, of a trigger that is kept
pub bare_seen : (log : List (List Pair)) (e : StackEntry) (old new : List Means)
    → new ≡ seen log (record { trigger = e.trigger; own = e.own; since = e.since; first = None; body = [] }) ∷ old
    → new ≡ applied_means [] (record { trigger = (seen log e).trigger; body = [] }) ∷ old
bare_seen log e old new is = is ∙ (λ i. record { trigger = bare_trigger e.own (drop e.since log) e.trigger i; body = [] } ∷ old)

module _ (m : Means) (e : StackEntry) (log : List (List Pair)) where
  is_entry : (made : Means) → StaysApart m e (drop e.since log) → ((s : List Pair) → matches m.trigger.lit e.trigger.lit [] ≡ s ∷ [] → made ≡ applied_means s m)
      → IsUnder m e log (record { trigger = made.trigger; own = e.own; since = e.since; first = None; body = made.body })
  is_entry made a is =
      let g = m.trigger.lit in
      let l = e.trigger.lit in
      let rest = drop e.since log in
      record {
        one = full_match g l e.own rest a.0;
        means = ap (put_means (value_in e.own rest)) (is (bound_to g.args l.args) (raw_match g l e.own rest a.0)) ∙ means_turn g l e.own rest a.0 m a.1;
        since = refl;
        first = refl;
      }

  pub is_under : (rest : List (List Pair)) (found : Option Means) (made : Means) (entry : StackEntry) → rest ≡ drop e.since log → StaysApart m e rest
      → ((s : List Pair) → matches m.trigger.lit e.trigger.lit [] ≡ s ∷ [] → IfSome found (λ made. made ≡ applied_means s m)) → found ≡ Some made
      → entry ≡ record { trigger = made.trigger; own = e.own; since = e.since; first = None; body = made.body } → IsUnder m e log entry
  is_under rest found made entry r a is some same = subst (IsUnder m e log) (sym same)
      (is_entry made (subst (StaysApart m e) r a) (λ s f. subst (λ o. IfSome o (λ made. made ≡ applied_means s m)) some (is s f)))

  module _ (found : Option StackEntry) (entry : StackEntry) (under : IfSome found (IsUnder m e log)) (is : found ≡ Some entry) where
    this : IsUnder m e log entry
    this = subst (λ o. IfSome o (IsUnder m e log)) is under

    pub under_since : e.since ≤ length log → Since (length log) entry
    under_since h = (subst (λ n. n ≤ length log) (sym this.since) h, subst (FirstSince (length log)) (sym this.first) tt)

    pub put_under : (old new : List Means) → new ≡ seen log entry ∷ old → PushedBy m (seen log e).trigger old new
    put_under old new put = record { one = this.one; stack = put ∙ ap (λ x. x ∷ old) this.means }
