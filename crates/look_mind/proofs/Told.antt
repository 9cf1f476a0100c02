-- What is told of the failures of the run of a project.
use Rattle.std.proofs.Common.{ℕ, ◌≡◌, ◌≤◌, arith, Bool, List, length, Option, None, Some, sym, subst}
use Rattle.std.specs.Prelude.{Result, Ok, Err, MatchResult}
use Rattle.asl_term.specs.declared.syntax.Filed.{Filed}
use Rattle.mas_report.specs.Limits.{defaults}
use Rattle.mas_top_files.specs.Known.{known}
use Rattle.mas_top_files.specs.Sources.{AreRefused}
use Rattle.mas_top_status.specs.declared.status.Status.{Status}
use Rattle.mas_top_status.specs.declared.status.Status.TheVariants.{Memory}
use Rattle.mas_world.specs.Worlds.{Used}
use Rattle.look_answer.specs.declared.answer.Output.{Output}
use Rattle.look_mind.specs.declared.fallen.RunFalls.{RunFalls}
use Rattle.look_mind.specs.Drops.{AreRefusedIn, IsDroppedIn, no_run}
use Rattle.look_mind.specs.Entries.{entries_text, is_some_told}
use Rattle.look_mind.specs.Fallen.{IsFallenIn}
use Rattle.look_mind.specs.Marks.{AreMarked, AreOwn}
use Rattle.look_mind.specs.Stacks.{IsToldIn}

module _ (objects : List Used) (held : Option (List Filed)) (word bytes : List ℕ) where
  pub told : (unhandled : Bool) (r : RunFalls) (own : List (List ℕ)) (marks : List Bool) (before : List (List (List ℕ))) (o : Output) →
      IsFallenIn objects held word bytes (Some r) → AreOwn r.turns (length r.falls) own → AreMarked own r.falls (length r.turns) marks →
      IsToldIn objects held word bytes marks (Some before) → o.found ≡ is_some_told unhandled r.falls → o.text ≡ entries_text unhandled r before own →
      IsDroppedIn objects held word bytes unhandled (Some o)
  told unhandled r own marks before o f t m s a b = record {
    fallen = r;
    falls = f;
    own = own;
    theirs = t;
    marks = marks;
    marked = m;
    before = before;
    stacks = s;
    found = a;
    text = b;
  }

  pub none_fallen : (unhandled : Bool) → IsFallenIn objects held word bytes None → IsDroppedIn objects held word bytes unhandled None
  none_fallen unhandled h = no_run h

  pub refused : (before after : ℕ) (status : Status) → AreRefused (known objects) defaults.cycles held word before after status →
      AreRefusedIn objects held word before after status
  refused before after status h = record { start = before; end = after; begins = omega arith; ends = omega arith; is = h }

  pub starved : (before after : ℕ) (status : Status) → status ≡ Memory → AreRefusedIn objects held word before after status
  starved before after status e =
      subst (λ (x : Status). AreRefusedIn objects held word before after x) (sym e)
      (record { start = before; end = after; begins = omega arith; ends = omega arith; is = tt })

-- the failures for the artifacts that are left
pub fallen_so : (objects others : List Used) (held now : Option (List Filed)) (word bytes : List ℕ) (r : RunFalls) → others ≡ objects → now ≡ held →
    IsFallenIn objects held word bytes (Some r) → IsFallenIn others now word bytes (Some r)
fallen_so objects others held now word bytes r e n h =
    subst (λ (x : Option (List Filed)). IsFallenIn others x word bytes (Some r)) (sym n)
    (subst (λ (x : List Used). IsFallenIn x held word bytes (Some r)) (sym e) h)

-- by them, and from a later state of the shelf
pub later : (objects others : List Used) (held now : Option (List Filed)) (word bytes : List ℕ) (unhandled : Bool) (before between after : ℕ)
    (r : Result (Option Output) Status) → others ≡ objects → now ≡ held → before ≤ between →
    MatchResult r (IsDroppedIn others now word bytes unhandled) (AreRefusedIn others now word between after) →
    MatchResult r (IsDroppedIn objects held word bytes unhandled) (AreRefusedIn objects held word before after)
later objects others held now word bytes unhandled before between after (Ok said) e n l m =
    subst (λ (x : Option (List Filed)). IsDroppedIn objects x word bytes unhandled said) n
    (subst (λ (x : List Used). IsDroppedIn x now word bytes unhandled said) e m)
later objects others held now word bytes unhandled before between after (Err status) e n l m =
    let h = subst (λ (x : Option (List Filed)). AreRefusedIn objects x word between after status) n
    (subst (λ (x : List Used). AreRefusedIn x now word between after status) e m) in
    record { start = h.start; end = h.end; begins = omega (arith, l, h.begins); ends = h.ends; is = h.is }
