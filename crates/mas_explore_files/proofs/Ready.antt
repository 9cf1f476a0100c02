-- A source that is ready is an origin.
use Rattle.std.proofs.Common.{ℕ, zero, suc, ◌≡◌, ◌<◌, ◌≤◌, ◌+◌, ◌-◌, ◌^◌, arith, false, List, [], ◌∷◌, All, Option, None, Some, IfSome, length, slice_get, ap, sym, subst, ◌∙◌}
use Rattle.std.specs.Prelude.{Result, Ok, Err, IfOk}
use Rattle.std.proofs.lemmas.List.Elements.{All-nil, All-cons}
use Rattle.std.proofs.lemmas.Option.{same_Some, none-some}
use Rattle.asl_term.specs.declared.syntax.AgentText.{AgentText}
use Rattle.asl_cycle.specs.Agent.{Mindset, agent_kind}
use Rattle.asl_cycle.specs.Trace.{shows_rules}
use Rattle.mas_mind.specs.Minds.{IsAgent}
use Rattle.mas_report.specs.declared.options.Options.{Options}
use Rattle.mas_top_files.specs.declared.sources.Source.{Source}
use Rattle.mas_top_files.specs.Sources.{texts_of}
use Rattle.mas_top_opening.specs.Opening.{Setup, budgets_of, mind_of, minds_from, opening_minds}
use Rattle.mas_top_opening.proofs.Opened.{mind_at, opened_length}
use Rattle.mas_free.specs.Alike.{IsPlain}
use Rattle.mas_free.specs.Covers.{Start}
use Rattle.mas_explore.specs.Origins.{IsFresh, IsOrigin}
use Rattle.mas_explore_agent.proofs.Plain.{opens_plain}
use Rattle.mas_explore_files.specs.Starts.{start_of, IsReady}

plain_from : (o : Options) (names : List (List ℕ)) (a : ℕ) (texts : List AgentText) → shows_rules o.level ≡ false → All (IsPlain agent_kind) (minds_from o names a texts)
plain_from o names a [] e = All-nil (IsPlain agent_kind)
plain_from o names a (t ∷ texts) e =
    All-cons (IsPlain agent_kind) (mind_of o names a t) (minds_from o names (a + 1) texts) (opens_plain a names t (budgets_of o) o.level e) (plain_from o names (a + 1) texts e)

fresh_by : (n a : ℕ) (o : Option Mindset) (m : Mindset) → o ≡ Some m →
    IfSome o (λ m. (m.peers.me ≡ a) × ((length m.peers.names ≡ n) × ((m.cycles ≡ 0) × (m.awaits ≡ false)))) → IsFresh agent_kind n a m
fresh_by n a None m e h = absurd (none-some m e)
fresh_by n a (Some x) m e h =
    subst (λ y. IsFresh agent_kind n a y) (same_Some x m e) (record { me = h.0; agents_are = h.1.0; made = h.1.1.0; awaits = h.1.1.1 })

pub is_origin : (u : Setup) (source : Source) (shared : List (List ℕ)) → IsReady u source shared → IsOrigin agent_kind (start_of u source)
is_origin u source shared r =
    let texts = texts_of source.roles in
    record {
      few = let l = r.can.few in omega arith;
      start = record {
        number = opened_length u.options source.names texts ∙ sym r.can.named;
        plain = plain_from u.options source.names 1 texts r.plain;
      };
      fresh = λ a m i e. fresh_by (length source.names) a (slice_get (opening_minds u.options source) (a - 1)) m e
          (mind_at u.options source.names a texts i.from_one (subst (λ n. a ≤ n) r.can.named i.named));
    }

-- ---- the mind of an agent

at_from : (o : Options) (names : List (List ℕ)) (n i : ℕ) (texts : List AgentText) (t : AgentText) → slice_get texts i ≡ Some t →
    slice_get (minds_from o names n texts) i ≡ Some (mind_of o names (n + i) t)
at_from o names n i [] t e = absurd (none-some t e)
at_from o names n zero (x ∷ texts) t e =
    let k : n ≡ n + 0 = omega arith in
    ap (λ (y : AgentText). Some (mind_of o names n y)) (same_Some x t e) ∙ ap (λ (j : ℕ). Some (mind_of o names j t)) k
at_from o names n (suc i) (x ∷ texts) t e =
    let k : n + 1 + i ≡ n + suc i = omega arith in
    at_from o names (n + 1) i texts t e ∙ ap (λ (j : ℕ). Some (mind_of o names j t)) k

pub mind_is : (u : Setup) (source : Source) (shared : List (List ℕ)) (a : ℕ) (t : AgentText) (m : Mindset) → IsReady u source shared → 1 ≤ a →
    slice_get (texts_of source.roles) (a - 1) ≡ Some t → m ≡ mind_of u.options shared a t → slice_get (opening_minds u.options source) (a - 1) ≡ Some m
mind_is u source shared a t m r l e w =
    let k : 1 + (a - 1) ≡ a = omega arith in
    at_from u.options source.names 1 (a - 1) (texts_of source.roles) t e ∙ ap (λ (j : ℕ). Some (mind_of u.options source.names j t)) k
    ∙ ap (λ (names : List (List ℕ)). Some (mind_of u.options names a t)) (sym r.shared_is) ∙ ap Some (sym w)

pub mind_told : {E : Type 0} (x : Result Mindset E) (u : Setup) (source : Source) (shared : List (List ℕ)) (s : Start Mindset) (a : ℕ) (t : AgentText) →
    s ≡ start_of u source → IsReady u source shared → 1 ≤ a → slice_get (texts_of source.roles) (a - 1) ≡ Some t → IfOk x (λ m. m ≡ mind_of u.options shared a t) →
    IfOk x (λ m. slice_get s.minds (a - 1) ≡ Some m)
mind_told (Ok m) u source shared s a t v r l e w = ap (λ (y : Start Mindset). slice_get y.minds (a - 1)) v ∙ mind_is u source shared a t m r l e w
mind_told (Err e) u source shared s a t v r l f w = tt

get_past : {A : Type 0} (xs : List A) (i : ℕ) → i < length xs → slice_get xs i ≡ None → ⊥
get_past [] i l e = absurd (omega arith)
get_past (x ∷ xs) zero l e = cc
get_past (x ∷ xs) (suc i) l e = get_past xs i (omega arith) e

pub text_there : (u : Setup) (source : Source) (shared : List (List ℕ)) (a : ℕ) → IsReady u source shared → IsAgent (length source.names) a →
    slice_get (texts_of source.roles) (a - 1) ≡ None → ⊥
text_there u source shared a r i e =
    let f = i.from_one in
    let l = subst (λ n. a ≤ n) r.can.named i.named in
    get_past (texts_of source.roles) (a - 1) (omega arith) e
