-- Which names an action has.
use Rattle.std.proofs.Common.{◌≡◌, ℕ, Bool, true, false, List, cond, codes, Option, Some, None}
use Rattle.std.specs.Option.{option_map}
use Rattle.std.specs.Str.{bytes_eq}
use Rattle.asl_term_actions.specs.declared.action.Action.{Action}
use Rattle.asl_term_actions.specs.declared.action.Action.TheVariants as action
use Rattle.asl_term_actions.specs.declared.action.Collector.{Collector}
use Rattle.asl_term_actions.specs.declared.action.Deed.{Deed}
use Rattle.asl_term_actions.specs.declared.action.Look.{Look}
use Rattle.asl_term_actions.specs.declared.action.Look.TheVariants as look
use Rattle.asl_term_actions.specs.declared.action.Test.{Test}
use Rattle.asl_term_actions.specs.Actions.{collector_named, test_named, look_named, deed_named, or_else, named}

either : {A : Type 0} (P : A → Type 0) (b : Bool) (x y : A) → P x → P y → P (cond b x y)
either P true x y h g = h
either P false x y h g = g

-- ---- another name than `member` is another action

abbrev LooksElse : Option Look → Type 0
LooksElse l = l ≡ Some look.Member → ⊥

abbrev Else : Option Action → Type 0
Else o = o ≡ Some (action.Looks look.Member) → ⊥

first : (b : Bool) (x : Option Look) → b ≡ false → LooksElse x → LooksElse (cond b (Some look.Member) x)
first true x h g e = absurd cc
first false x h g e = g e

tested : (t : Option Test) → LooksElse (option_map look.Passes t)
tested (Some t) e = absurd cc
tested None e = absurd cc

looks : (name : List ℕ) → bytes_eq name (codes "member") ≡ false → LooksElse (look_named name)
looks name h = first (bytes_eq name (codes "member")) _ h (
    either LooksElse (bytes_eq name (codes "length")) _ _ (λ e. absurd cc) (
    either LooksElse (bytes_eq name (codes "nth")) _ _ (λ e. absurd cc) (
    either LooksElse (bytes_eq name (codes "concat")) _ _ (λ e. absurd cc) (
    either LooksElse (bytes_eq name (codes "max")) _ _ (λ e. absurd cc) (
    either LooksElse (bytes_eq name (codes "min")) _ _ (λ e. absurd cc) (
    either LooksElse (bytes_eq name (codes "reverse")) _ _ (λ e. absurd cc) (
    either LooksElse (bytes_eq name (codes "my_name")) _ _ (λ e. absurd cc) (tested (test_named name)))))))))

others : (c : Option Collector) (l : Option Look) (d : Option Deed) → LooksElse l
    → Else (or_else (option_map action.Collects c) (or_else (option_map action.Looks l) (option_map action.Does d)))
others (Some c) l d h e = absurd cc
others None (Some l) d h e = h cc
others None None (Some d) h e = absurd cc
others None None None h e = absurd cc

pub not_member : (name : List ℕ) → bytes_eq name (codes "member") ≡ false → named name ≡ Some (action.Looks look.Member) → ⊥
unfolding named
not_member name h =
    either Else (bytes_eq name (codes "print")) _ _ (λ e. absurd cc) (
    either Else (bytes_eq name (codes "fail")) _ _ (λ e. absurd cc) (
    others (collector_named name) (look_named name) (deed_named name) (looks name h)))
