-- Reading the effects of an act, as a loop does.
use Rattle.std.proofs.Common.{◌≡◌, ℕ, zero, suc, ◌<◌, ◌≤◌, List, [], ◌∷◌, ◌++◌, length, Option, Some, None, refl, sym, ap, ◌∙◌, append_assoc, arith}
use Rattle.std.proofs.lemmas.List.{append-nil}
use Rattle.std.specs.Option.{option_map_or}
use Rattle.asl_parser_tree.specs.declared.lexeme.Lexeme.{Lexeme}
use Rattle.asl_parser_tree.specs.Meanings.{◌>>=◌}
use Rattle.asl_parser_tree.specs.Leaves.{Front, after_comma}
use Rattle.asl_parser_tree.specs.declared.bounded.Bounded.TheVariants.{Within, Past}
use Rattle.asl_parser_tree.specs.Holding.{limited}
use Rattle.env_file.specs.declared.statement.Effect.{Effect}
use Rattle.env_file.specs.Holding.{KeptEffect, KeptEffects, before, put_effect}
use Rattle.env_file.specs.Speaking.{effect_by, effect_list_by}
use Rattle.env_file.proofs.Spoken.{sound_effect}
use Rattle.env_file.proofs.Spelled as spelled

abbrev pub Effects : Type 0
Effects = Front KeptEffects

abbrev pub Item : Type 0
Item = List Lexeme → Front (Option KeptEffect)

-- effects before others
abbrev pub onto : KeptEffects → KeptEffects → KeptEffects
onto (Within es) (Within fs) = Within (es ++ fs)
onto es fs = Past tt

-- what was read before, and what is still read
abbrev pub behind : KeptEffects → Effects → Effects
behind front r = r >>= λ x. Some (onto front x.0, x.1)

pub record EffectsLeft (item : Item) (front : KeptEffects) (ts : List Lexeme) (total : Effects) : Type 0 where
  pub count : ℕ
  pub enough : length ts ≤ count
  pub same : behind front (effect_list_by item count ts) ≡ total

onto_none : (es : KeptEffects) → onto (Within []) es ≡ es
onto_none (Within es) = refl
onto_none (Past u) = refl

behind_none : (r : Effects) → behind (Within []) r ≡ r
behind_none None = refl
behind_none (Some x) = ap (λ (es : KeptEffects). Some (es, x.1)) (onto_none x.0)

pub effects_begin : (item : Item) (ts : List Lexeme) → EffectsLeft item (Within []) ts (effect_list_by item (length ts) ts)
effects_begin item ts = record { count = length ts; enough = omega arith; same = behind_none (effect_list_by item (length ts) ts) }

onto_item : (front : KeptEffects) (f : Option KeptEffect) (es : KeptEffects) → onto front (before f es) ≡ onto (put_effect front f) es
onto_item front None es = refl
onto_item (Within front) (Some (Within f)) (Within es) = ap (λ (fs : List Effect). Within fs) (sym (append_assoc front (f ∷ []) es))
onto_item (Within front) (Some (Within f)) (Past u) = refl
onto_item (Within front) (Some (Past v)) es = refl
onto_item (Past w) (Some (Within f)) (Within es) = refl
onto_item (Past w) (Some (Within f)) (Past u) = refl
onto_item (Past w) (Some (Past v)) es = refl

onto_end : (front : KeptEffects) (f : Option KeptEffect) → onto front (before f (Within [])) ≡ put_effect front f
onto_end (Within front) None = ap (λ (fs : List Effect). Within fs) (append-nil front)
onto_end (Past w) None = refl
onto_end (Within front) (Some (Within f)) = refl
onto_end (Within front) (Some (Past v)) = refl
onto_end (Past w) (Some (Within f)) = refl
onto_end (Past w) (Some (Past v)) = refl

regroup : (front : KeptEffects) (f : Option KeptEffect) (r : Effects) → behind front (r >>= λ x. Some (before f x.0, x.1)) ≡ behind (put_effect front f) r
regroup front f None = refl
regroup front f (Some x) = ap (λ (es : KeptEffects). Some (es, x.1)) (onto_item front f x.0)

pub effects_stop : (item : Item) (front : KeptEffects) (ts : List Lexeme) (total : Effects) → EffectsLeft item front ts total → item ts ≡ None → total ≡ None
unfolding effect_list_by
effects_stop item front ts total h e = sym h.same ∙ go h.count
  where
    go : (k : ℕ) → behind front (effect_list_by item k ts) ≡ None
    go zero = refl
    go (suc k) = rw e refl

item_step : (item : Item) (k : ℕ) (ts : List Lexeme) (f : Option KeptEffect) (us : List Lexeme) (o : Option (List Lexeme)) → item ts ≡ Some (f, us) → after_comma us ≡ o → effect_list_by item (suc k) ts ≡ option_map_or {U = Effects} (λ vs. effect_list_by item k vs >>= λ r. Some (before f r.0, r.1)) o (Some (before f (Within []), us))
unfolding effect_list_by
item_step item k ts f us o e a = rw e refl ∙ ap (λ (o : Option (List Lexeme)). option_map_or {U = Effects} (λ vs. effect_list_by item k vs >>= λ r. Some (before f r.0, r.1)) o (Some (before f (Within []), us))) a

pub effects_more : (item : Item) (front : KeptEffects) (ts : List Lexeme) (f : Option KeptEffect) (us vs : List Lexeme) (total : Effects) → EffectsLeft item front ts total → item ts ≡ Some (f, us) → length vs < length ts → after_comma us ≡ Some vs → EffectsLeft item (put_effect front f) vs total
effects_more item front ts f us vs total h e lt a = go h.count h.enough h.same
  where
    go : (k : ℕ) → length ts ≤ k → behind front (effect_list_by item k ts) ≡ total → EffectsLeft item (put_effect front f) vs total
    go zero le s = absurd (omega arith)
    go (suc k) le s = record { count = k; enough = omega arith; same = sym (regroup front f (effect_list_by item k vs)) ∙ sym (ap (behind front) (item_step item k ts f us (Some vs) e a)) ∙ s }

pub effects_end : (item : Item) (front : KeptEffects) (ts : List Lexeme) (f : Option KeptEffect) (us : List Lexeme) (total : Effects) → EffectsLeft item front ts total → item ts ≡ Some (f, us) → length us < length ts → after_comma us ≡ None → total ≡ Some (put_effect front f, us)
effects_end item front ts f us total h e lt a = go h.count h.enough h.same
  where
    go : (k : ℕ) → length ts ≤ k → behind front (effect_list_by item k ts) ≡ total → total ≡ Some (put_effect front f, us)
    go zero le s = absurd (omega arith)
    go (suc k) le s = sym s ∙ ap (behind front) (item_step item k ts f us None e a) ∙ ap (λ (es : KeptEffects). Some (es, us)) (onto_end front f)

pub effect_shorter : (n : ℕ) (ts : List Lexeme) (f : Option KeptEffect) (us : List Lexeme) → effect_by limited n ts ≡ Some (f, us) → length us < length ts
effect_shorter n ts f us e = spelled.effect_shorter (sound_effect limited n ts us f e).holds
