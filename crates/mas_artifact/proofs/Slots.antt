-- What the table of a slot decides.
use Rattle.std.proofs.Common.{◌≡◌, ℕ, ◌+◌, max, eqb, length, Bool, true, false, ◌&&◌, cond, if◌then◌else◌, List, [], ◌∷◌, ◌++◌, Option, Some, None, refl, ap, sym, ◌∙◌, codes}
use Rattle.std.specs.List.{flat_map}
use Rattle.std.specs.Option.{option_and_then, option_or}
use Rattle.std.specs.Prelude.{Result, Ok, Err, IfOk}
use Rattle.std.specs.Str.{bytes_eq}
use Rattle.asl_term.specs.declared.sequence.Starved.{Starved}
use Rattle.std.proofs.lemmas.Slice.Eq.{bytes_eq-Decides}
use Rattle.asl_term.specs.declared.syntax.LiteralOf.{LiteralOf}
use Rattle.asl_term.specs.declared.syntax.Expr.TheVariants as expr
use Rattle.asl_term.specs.declared.syntax.Term.{Term}
use Rattle.asl_term.specs.declared.syntax.Term.TheVariants as term
use Rattle.asl_unify.specs.declared.subst.Pair.{Pair}
use Rattle.asl_unify.specs.Compare.{Fault, Clash, ask, same_frame, same_sign, Unified, Failed}
use Rattle.asl_unify.specs.Matches.{agreed}
use Rattle.asl_unify.specs.Puts.{IsSubst, put, value_of, only}
use Rattle.asl_unify.specs.Unified.{unified}
use Rattle.asl_unify.proofs.Unified.{unified_general}
use Rattle.mas_mind.specs.declared.mind.Feedback.{Feedback}
use Rattle.mas_mind.specs.declared.mind.Feedback.TheVariants.{Done, Failed as NotDone}
use Rattle.mas_world.specs.declared.acts.Act.{Act}
use Rattle.mas_world.specs.declared.facts.Deed.{Deed}
use Rattle.mas_world.specs.Acts.{deed, decided, done, effect, entered, tried}
use Rattle.mas_world.specs.Facts.{AreFacts}
use Rattle.mas_world.specs.Guards.{first_of, ready, solutions}
use Rattle.mas_world.specs.Worlds.{Segment, after, segment, segment_acted}
use Rattle.mas_world.proofs.Firsts.{held as guard_held}
use Rattle.mas_artifact.specs.Tables.{act, atom, held, idle, literal, named, slot, slot_give, slot_table, slot_take, variable}
use Rattle.mas_artifact.specs.States.{given, slot_acted, slot_facts, taken}
use Rattle.mas_artifact.proofs.Trees.{Small, fits, put_atom, put_one, put_var, ready_one, small_atom, small_one}
use Rattle.mas_artifact.proofs.Exchanges.{deed_is, effect_is, exchange, first_agreed, one_fact, replaced}
use Rattle.mas_artifact.proofs.Steps.{apart, atoms, bare_matches, bound_atom, one_matches, ones}

-- ---- facts

pub slot_facts_are : (h : Option (List ℕ)) → AreFacts (slot_facts h)
slot_facts_are None = one_fact (slot idle) _ _ (small_one (codes "slot") idle _ _ (small_atom (codes "idle")))
slot_facts_are (Some name) = one_fact (slot (held (atom name))) _ _ (small_one (codes "slot") (held (atom name)) _ _ (small_one (codes "held") (atom name) _ _ (small_atom name)))

-- ---- what an act comes to

-- the substitution of an act without variables in its literal
abbrev who : List ℕ → List Pair
who agent = record { var = named (codes "A"); term = atom agent } ∷ []

module _ (agent : List ℕ) where
  bound : unified [] (ask (variable (codes "A")) (atom agent) ∷ []) ≡ Unified (who agent)
  bound = bound_atom [] tt (named (codes "A")) agent refl

  who_is : IsSubst (who agent)
  who_is = (unified_general [] (who agent) (ask (variable (codes "A")) (atom agent) ∷ []) tt bound).is_subst

  put_who : put (value_of (who agent)) (variable (codes "A")) ≡ atom agent
  put_who =
      put_var (value_of (who agent)) (named (codes "A"))
      ∙ put_var (only (named (codes "A")) (put term.Var (atom agent))) (named (codes "A"))
      ∙ put_atom term.Var agent

  bare_entered : (f : List ℕ) (old new : LiteralOf Term) (action : LiteralOf Term) (b : Bool) → same_frame (literal f []) action ≡ b → entered (act (literal f []) old [] new) agent action ≡ cond b (Some (who agent)) None
  bare_entered f old new action true e =
      ap (λ ms. option_and_then (λ s. agreed (unified s (ask (variable (codes "A")) (atom agent) ∷ []))) (first_of ms)) (bare_matches f action true e)
      ∙ ap agreed bound
  bare_entered f old new action false e =
      ap (λ ms. option_and_then (λ s. agreed (unified s (ask (variable (codes "A")) (atom agent) ∷ []))) (first_of ms)) (bare_matches f action false e)

-- the first solution of a guard of one literal over one fact
pub one_solution : (f : List ℕ) (t u v : Term) (s : List Pair) → bytes_eq f f ≡ true → ready s (literal f (t ∷ [])) ≡ Some (literal f (u ∷ []))
    → first_of (solutions (literal f (v ∷ []) ∷ []) (expr.Holds (literal f (t ∷ [])) ∷ []) s) ≡ agreed (unified s (ask u v ∷ []))
one_solution f t u v s h r =
    ap first_of (guard_held (literal f (v ∷ []) ∷ []) (expr.Holds (literal f (t ∷ []))) [] s (literal f (t ∷ [])) (literal f (u ∷ [])) refl (sym r))
    ∙ ap (λ ms. first_of (flat_map (λ r. r ∷ []) (ms ++ []))) (one_matches f u v s h)
    ∙ first_agreed (unified s (ask u v ∷ []))

-- a term that stands for another one under a substitution
record Stands (s : List Pair) (t u : Term) : Type 0 where
  nodes : ℕ
  levels : ℕ
  put_in : put (value_of s) t ≡ u
  small : Small u nodes levels
  fit : fits (1 + (0 + nodes) + 0) (1 + max (max levels 0) 0) ≡ true

ready_is : (s : List Pair) (f : List ℕ) (t u : Term) → Stands s t u → ready s (literal f (t ∷ [])) ≡ Some (literal f (u ∷ []))
ready_is s f t u p = ready_one s f t u p.nodes p.levels p.put_in p.small p.fit

effect_stands : (s : List Pair) (f : List ℕ) (t u : Term) → Stands s t u → effect s (literal f (t ∷ [])) ≡ Some (literal f (u ∷ []))
effect_stands s f t u p = effect_is s (literal f (t ∷ [])) (literal f (u ∷ [])) (ready_is s f t u p) (small_one f u p.nodes p.levels p.small).ground

-- an act without arguments that exchanges the one fact
module _ (agent name f : List ℕ) (t u t' u' v : Term) (same : Bool) (e : Fault) (h : bytes_eq f f ≡ true) where
  abbrev what : Act
  what = act (literal name []) (literal f (t ∷ [])) [] (literal f (t' ∷ []))

  abbrev facts : List (LiteralOf Term)
  facts = literal f (v ∷ []) ∷ []

  abbrev gives : Bool → Option Deed
  gives b = cond b (Some (exchange (literal f (u ∷ [])) (literal f (u' ∷ [])))) None

  solved : (same : Bool) → Stands (who agent) t u → Stands (who agent) t' u' → option_and_then (deed what) (agreed (cond same (Unified (who agent)) (Failed e))) ≡ gives same
  solved true p q = deed_is (who agent) (literal name []) (literal f (t ∷ [])) (literal f (t' ∷ [])) (literal f (u ∷ [])) (literal f (u' ∷ [])) (effect_stands (who agent) f t u p) (effect_stands (who agent) f t' u' q)
  solved false p q = refl

  bare_tried : (action : LiteralOf Term) (b : Bool) → same_frame (literal name []) action ≡ b → Stands (who agent) t u → Stands (who agent) t' u'
      → unified (who agent) (ask u v ∷ []) ≡ cond same (Unified (who agent)) (Failed e) → tried facts what agent action ≡ cond b (gives same) None
  bare_tried action true k p q o =
      ap (option_and_then (λ s. option_and_then (deed what) (first_of (solutions facts what.guard s)))) (bare_entered agent name (literal f (t ∷ [])) (literal f (t' ∷ [])) action true k)
      ∙ ap (option_and_then (deed what)) (one_solution f t u v (who agent) h (ready_is (who agent) f t u p) ∙ ap agreed o)
      ∙ solved same p q
  bare_tried action false k p q o =
      ap (option_and_then (λ s. option_and_then (deed what) (first_of (solutions facts what.guard s)))) (bare_entered agent name (literal f (t ∷ [])) (literal f (t' ∷ [])) action false k)

-- ---- the two acts

idle_stands : (agent : List ℕ) → Stands (who agent) idle idle
idle_stands agent = record { nodes = 1; levels = 1; put_in = put_atom (value_of (who agent)) (codes "idle"); small = small_atom (codes "idle"); fit = refl }

held_stands : (agent : List ℕ) → Stands (who agent) (held (variable (codes "A"))) (held (atom agent))
held_stands agent = record {
  nodes = 2;
  levels = 2;
  put_in = put_one (value_of (who agent)) (codes "held") _ _ (put_who agent);
  small = small_one (codes "held") (atom agent) 1 1 (small_atom agent);
  fit = refl;
}

abbrev take_deed : Option (List ℕ) → List ℕ → Option Deed
take_deed None agent = Some (exchange (slot idle) (slot (held (atom agent))))
take_deed (Some holder) agent = None

abbrev give_deed : Option (List ℕ) → List ℕ → Option Deed
give_deed None agent = None
give_deed (Some holder) agent = cond (bytes_eq agent holder) (Some (exchange (slot (held (atom agent))) (slot idle))) None

take_tried : (h : Option (List ℕ)) (agent : List ℕ) (action : LiteralOf Term) (b : Bool) → same_frame (literal (codes "slot_take") []) action ≡ b → tried (slot_facts h) slot_take agent action ≡ cond b (take_deed h agent) None
take_tried None agent action b k =
    bare_tried agent (codes "slot_take") (codes "slot") idle idle (held (variable (codes "A"))) (held (atom agent)) idle true (Clash 0) refl
    action b k (idle_stands agent) (held_stands agent) (atoms (who agent) (who_is agent) (codes "idle") (codes "idle") true refl)
take_tried (Some holder) agent action b k =
    bare_tried agent (codes "slot_take") (codes "slot") idle idle (held (variable (codes "A"))) (held (atom agent)) (held (atom holder)) false (Clash 0) refl
    action b k (idle_stands agent) (held_stands agent) (apart (who agent) (who_is agent) (literal (codes "idle") []) (literal (codes "held") (atom holder ∷ [])) refl refl refl)

give_tried : (h : Option (List ℕ)) (agent : List ℕ) (action : LiteralOf Term) (b : Bool) → same_frame (literal (codes "slot_give") []) action ≡ b → tried (slot_facts h) slot_give agent action ≡ cond b (give_deed h agent) None
give_tried None agent action b k =
    bare_tried agent (codes "slot_give") (codes "slot") (held (variable (codes "A"))) (held (atom agent)) idle idle idle false (Clash 0) refl
    action b k (held_stands agent) (idle_stands agent) (apart (who agent) (who_is agent) (literal (codes "held") (atom agent ∷ [])) (literal (codes "idle") []) refl refl refl)
give_tried (Some holder) agent action b k =
    bare_tried agent (codes "slot_give") (codes "slot") (held (variable (codes "A"))) (held (atom agent)) idle idle (held (atom holder)) (bytes_eq agent holder) (Clash 1) refl
    action b k (held_stands agent) (idle_stands agent) (ones (who agent) (who_is agent) (codes "held") agent holder (bytes_eq agent holder) refl refl)

-- ---- the whole table

-- no action is both
apart_names : (x : List ℕ) → bytes_eq (codes "slot_take") x ≡ true → bytes_eq (codes "slot_give") x ≡ false
apart_names x e = ap (bytes_eq (codes "slot_give")) (sym ((bytes_eq-Decides (codes "slot_take") x).0 e))

not_both : (action : LiteralOf Term) → same_frame (literal (codes "slot_take") []) action ≡ true → same_frame (literal (codes "slot_give") []) action ≡ false
not_both action e = go action.neg (bytes_eq (codes "slot_take") action.functor) (bytes_eq (codes "slot_give") action.functor) (eqb 0 (length action.args)) e (apart_names action.functor) where
  go : (neg a b c : Bool) → (same_sign false neg && a && c) ≡ true → (a ≡ true → b ≡ false) → (same_sign false neg && b && c) ≡ false
  go true a b c e f = cc
  go false false b c e f = cc
  go false true b c e f = ap (λ z. z && c) (f refl)

abbrev slot_after : Option (List ℕ) → Option Deed → Feedback × Segment
slot_after h d = after (segment slot_table (slot_facts h)) d

-- the segment of what the native state becomes
abbrev seen : Feedback × Option (List ℕ) → Feedback × Segment
seen r = (r.0, segment slot_table (slot_facts r.1))

took : (h : Option (List ℕ)) (agent : List ℕ) → slot_after h (option_or (take_deed h agent) None) ≡ seen (taken h agent)
took None agent = ap (λ fs. (Done, segment slot_table fs)) (replaced (slot idle) (slot (held (atom agent))))
took (Some holder) agent = refl

gave : (h : Option (List ℕ)) (agent : List ℕ) → slot_after h (option_or (give_deed h agent) None) ≡ seen (given h agent)
gave None agent = refl
gave (Some holder) agent = go (bytes_eq agent holder) refl where
  go : (b : Bool) → bytes_eq agent holder ≡ b
      → slot_after (Some holder) (option_or (cond b (Some (exchange (slot (held (atom agent))) (slot idle))) None) None) ≡ seen (if b then (Done, None) else (NotDone, Some holder))
  go true e =
      let is : agent ≡ holder = (bytes_eq-Decides agent holder).0 e in
      ap (λ z. (Done, segment slot_table (done (exchange (slot (held (atom z))) (slot idle)) (slot_facts (Some holder))))) is
      ∙ ap (λ fs. (Done, segment slot_table fs)) (replaced (slot (held (atom holder))) (slot idle))
  go false e = refl

-- what a slot's table does, by its native state
pub slot_acts : (h : Option (List ℕ)) (agent : List ℕ) (action : LiteralOf Term) → segment_acted (segment slot_table (slot_facts h)) agent action ≡ seen (slot_acted h agent action)
slot_acts h agent action = ap (slot_after h) decides ∙ go (same_frame takes action) (same_frame gives action) (not_both action) where
  takes : LiteralOf Term
  takes = literal (codes "slot_take") []

  gives : LiteralOf Term
  gives = literal (codes "slot_give") []

  deeds : Bool → Bool → Option Deed
  deeds a b = option_or (cond a (take_deed h agent) None) (option_or (cond b (give_deed h agent) None) None)

  decides : decided (slot_facts h) slot_table agent action ≡ deeds (same_frame takes action) (same_frame gives action)
  decides =
      ap (λ d. option_or d (decided (slot_facts h) (slot_give ∷ []) agent action)) (take_tried h agent action (same_frame takes action) refl)
      ∙ ap (λ d. option_or (cond (same_frame takes action) (take_deed h agent) None) (option_or d None)) (give_tried h agent action (same_frame gives action) refl)

  go : (a b : Bool) → (a ≡ true → b ≡ false) → slot_after h (deeds a b) ≡ seen (if a then taken h agent else (if b then given h agent else (NotDone, h)))
  go true b f = ap (λ z. slot_after h (option_or (take_deed h agent) (option_or (cond z (give_deed h agent) None) None))) (f refl) ∙ took h agent
  go false true f = gave h agent
  go false false f = refl

pub slot_does : (h new : Option (List ℕ)) (r : Result Feedback Starved) (agent : List ℕ) (action : LiteralOf Term) → IfOk r (λ f. (f, new) ≡ slot_acted h agent action)
    → IfOk r (λ f. (f, segment slot_table (slot_facts new)) ≡ segment_acted (segment slot_table (slot_facts h)) agent action)
slot_does h new (Ok f) agent action e = ap seen e ∙ sym (slot_acts h agent action)
slot_does h new (Err f) agent action e = e
