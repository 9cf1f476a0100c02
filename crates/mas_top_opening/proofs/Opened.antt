-- The agents of a source, one after the other.
use Rattle.std.proofs.Common.{ℕ, zero, suc, ◌≡◌, ◌+◌, ◌-◌, ◌≤◌, ◌<◌, Bool, true, false, ◌&&◌, List, [], ◌∷◌, ◌++◌, length, replicate, IfSome, slice_get, refl, ap, sym, ◌∙◌, subst, append_assoc, append-nil, arith}
use Rattle.std.specs.List.{list_all}
use Rattle.std.proofs.lemmas.List.{length-append, length-replicate}
use Rattle.asl_term.specs.declared.syntax.AgentText.{AgentText}
use Rattle.asl_cycle.specs.Agent.{Mindset}
use Rattle.mas_report.specs.declared.options.Options.{Options}
use Rattle.mas_top_files.specs.declared.sources.Role.{Role}
use Rattle.mas_top_opening.specs.Fits.{is_ground_role}
use Rattle.mas_top_files.specs.Sources.{texts_of}
use Rattle.mas_top_opening.specs.Opening.{mind_of, minds_from}

-- ---- one more

minds_append : (o : Options) (names : List (List ℕ)) (a : ℕ) (ts us : List AgentText) → minds_from o names a (ts ++ us) ≡ minds_from o names a ts ++ minds_from o names (a + length ts) us
minds_append o names a [] us = let e : a ≡ a + 0 = omega arith in ap (λ n. minds_from o names n us) e
minds_append o names a (t ∷ ts) us =
    let e : (a + 1) + length ts ≡ a + suc (length ts) = omega arith in
    ap (λ ms. mind_of o names a t ∷ ms) (minds_append o names (a + 1) ts us ∙ ap (λ n. minds_from o names (a + 1) ts ++ minds_from o names n us) e)

minds_length : (o : Options) (names : List (List ℕ)) (a : ℕ) (ts : List AgentText) → length (minds_from o names a ts) ≡ length ts
minds_length o names a [] = refl
minds_length o names a (t ∷ ts) = ap (λ n. suc n) (minds_length o names (a + 1) ts)

-- ---- the agents of one line: so many are still to come behind those that stand there

pub record LeftOf (o : Options) (names : List (List ℕ)) (left : ℕ) (text : AgentText) (minds whole : List Mindset) : Type 0 where
  pub rest : minds ++ minds_from o names (length minds + 1) (replicate left text) ≡ whole
  pub few : length minds + left ≤ length names

pub count_begins : (o : Options) (names : List (List ℕ)) (role : Role) (minds : List Mindset) → length minds + role.count ≤ length names →
    LeftOf o names role.count role.text minds (minds ++ minds_from o names (length minds + 1) (replicate role.count role.text))
count_begins o names role minds l = record { rest = refl; few = l }

one_more : (o : Options) (names : List (List ℕ)) (left : ℕ) (text : AgentText) (minds whole : List Mindset) → LeftOf o names (suc left) text minds whole →
    LeftOf o names left text (minds ++ mind_of o names (length minds + 1) text ∷ []) whole
one_more o names left text minds whole h =
    let m = mind_of o names (length minds + 1) text in
    let n : length (minds ++ m ∷ []) ≡ length minds + 1 = length-append minds (m ∷ []) in
    record {
      rest = append_assoc minds (m ∷ []) (minds_from o names (length (minds ++ m ∷ []) + 1) (replicate left text))
          ∙ ap (λ k. minds ++ m ∷ minds_from o names (k + 1) (replicate left text)) n ∙ h.rest;
      few = subst (λ k. k + left ≤ length names) (sym n) (let l = h.few in omega arith);
    }

pub count_more : (o : Options) (names : List (List ℕ)) (left next : ℕ) (text : AgentText) (minds whole : List Mindset) (m : Mindset) → LeftOf o names left text minds whole →
    left ≡ suc next → m ≡ mind_of o names (length minds + 1) text → LeftOf o names next text (minds ++ m ∷ []) whole
count_more o names left next text minds whole m h e d =
    subst (λ x. LeftOf o names next text (minds ++ x ∷ []) whole) (sym d) (one_more o names next text minds whole (subst (λ n. LeftOf o names n text minds whole) e h))

-- the same once it was pushed
pub count_pushed : (o : Options) (names : List (List ℕ)) (left : ℕ) (text : AgentText) (minds whole : List Mindset) (m : Mindset) (pushed : List Mindset) (n a : ℕ) →
    LeftOf o names left text minds whole → 0 < left → n ≡ length minds → a ≡ n + 1 → m ≡ mind_of o names a text → pushed ≡ minds ++ m ∷ [] →
    LeftOf o names (left - 1) text pushed whole
count_pushed o names left text minds whole m pushed n a h l e f d p =
    let s : left ≡ suc (left - 1) = omega arith in
    let b : a ≡ length minds + 1 = f ∙ ap (λ k. k + 1) e in
    subst (λ ms. LeftOf o names (left - 1) text ms whole) (sym p)
    (count_more o names left (left - 1) text minds whole m h s (d ∙ ap (λ k. mind_of o names k text) b))

-- ---- those of all lines

pub record RolesLeft (o : Options) (names : List (List ℕ)) (rest : List Role) (minds whole : List Mindset) : Type 0 where
  pub same : minds ++ minds_from o names (length minds + 1) (texts_of rest) ≡ whole
  pub few : length minds + length (texts_of rest) ≡ length names
  pub ground : list_all is_ground_role rest ≡ true

pub roles_begin : (o : Options) (names : List (List ℕ)) (roles : List Role) → length names ≡ length (texts_of roles) → list_all is_ground_role roles ≡ true →
    RolesLeft o names roles [] (minds_from o names 1 (texts_of roles))
roles_begin o names roles e g = record { same = refl; few = let l : 0 + length (texts_of roles) ≡ length (texts_of roles) = omega arith in l ∙ sym e; ground = g }

and_left : (a b : Bool) → (a && b) ≡ true → a ≡ true
and_left true b e = refl
and_left false b e = absurd cc

and_right : (a b : Bool) → (a && b) ≡ true → b ≡ true
and_right true b e = e
and_right false b e = absurd cc

texts_more : (role : Role) (after : List Role) → length (texts_of (role ∷ after)) ≡ role.count + length (texts_of after)
texts_more role after =
    length-append (replicate role.count role.text) (texts_of after) ∙ ap (λ n. n + length (texts_of after)) (length-replicate role.count role.text)

-- what the agents of one more line ask
pub record LineFits (names : List (List ℕ)) (role : Role) (minds : List Mindset) : Type 0 where
  pub few : length minds + role.count ≤ length names
  pub ground : is_ground_role role ≡ true

pub roles_fit : (o : Options) (names : List (List ℕ)) (rest after : List Role) (role : Role) (minds whole : List Mindset) → RolesLeft o names rest minds whole → rest ≡ role ∷ after →
    LineFits names role minds
roles_fit o names rest after role minds whole h e =
    let f = ap (λ r. length (texts_of r)) e ∙ texts_more role after in
    let g = ap (list_all is_ground_role) (sym e) ∙ h.ground in
    record { few = let a = h.few in omega arith; ground = and_left (is_ground_role role) (list_all is_ground_role after) g }

pub roles_more : (o : Options) (names : List (List ℕ)) (rest after : List Role) (role : Role) (minds next whole : List Mindset) → RolesLeft o names rest minds whole →
    rest ≡ role ∷ after → next ≡ minds ++ minds_from o names (length minds + 1) (replicate role.count role.text) → RolesLeft o names after next whole
roles_more o names rest after role minds next whole h e d =
    let these = minds_from o names (length minds + 1) (replicate role.count role.text) in
    let n : length next ≡ length minds + role.count =
    ap length d ∙ length-append minds these
    ∙ ap (λ k. length minds + k) (minds_length o names (length minds + 1) (replicate role.count role.text) ∙ length-replicate role.count role.text) in
    let at : length next + 1 ≡ (length minds + 1) + length (replicate role.count role.text) =
    let r = length-replicate role.count role.text in omega arith in
    let f = ap (λ r. length (texts_of r)) e ∙ texts_more role after in
    record {
      same = ap (λ ms. ms ++ minds_from o names (length next + 1) (texts_of after)) d
          ∙ append_assoc minds these (minds_from o names (length next + 1) (texts_of after))
          ∙ ap (λ k. minds ++ (these ++ minds_from o names k (texts_of after))) at
          ∙ ap (λ ms. minds ++ ms) (sym (minds_append o names (length minds + 1) (replicate role.count role.text) (texts_of after)))
          ∙ ap (λ r. minds ++ minds_from o names (length minds + 1) (texts_of r)) (sym e)
          ∙ h.same;
      few = let a = h.few in omega arith;
      ground = and_right (is_ground_role role) (list_all is_ground_role after) (ap (list_all is_ground_role) (sym e) ∙ h.ground);
    }

pub roles_end : (o : Options) (names : List (List ℕ)) (rest : List Role) (minds whole : List Mindset) → RolesLeft o names rest minds whole → rest ≡ [] → minds ≡ whole
roles_end o names rest minds whole h e =
    sym (append-nil minds) ∙ ap (λ r. minds ++ minds_from o names (length minds + 1) (texts_of r)) (sym e) ∙ h.same

pub count_end : (o : Options) (names : List (List ℕ)) (left : ℕ) (text : AgentText) (minds whole : List Mindset) → LeftOf o names left text minds whole → left ≡ 0 → minds ≡ whole
count_end o names left text minds whole h e =
    sym (append-nil minds) ∙ ap (λ n. minds ++ minds_from o names (length minds + 1) (replicate n text)) (sym e) ∙ h.rest

pub count_next : (o : Options) (names : List (List ℕ)) (left : ℕ) (text : AgentText) (minds whole : List Mindset) → LeftOf o names left text minds whole → 0 < left →
    length minds + 1 ≤ length names
count_next o names left text minds whole h l = let f = h.few in omega arith

-- ---- each of them

pub minds_at : (o : Options) (names : List (List ℕ)) (a i : ℕ) (ts : List AgentText) → i < length ts →
    IfSome (slice_get (minds_from o names a ts) i) (λ m. (m.peers.me ≡ a + i) × ((length m.peers.names ≡ length names) × ((m.cycles ≡ 0) × (m.awaits ≡ false))))
minds_at o names a i [] l = absurd (omega arith)
minds_at o names a zero (t ∷ ts) l = let e : a ≡ a + 0 = omega arith in (e, (refl, (refl, refl)))
minds_at o names a (suc i) (t ∷ ts) l =
    let k : i < length ts = omega arith in
    let e : (a + 1) + i ≡ a + suc i = omega arith in
    subst (λ n. IfSome (slice_get (minds_from o names (a + 1) ts) i) (λ m. (m.peers.me ≡ n) × ((length m.peers.names ≡ length names) × ((m.cycles ≡ 0) × (m.awaits ≡ false))))) e
    (minds_at o names (a + 1) i ts k)

pub mind_at : (o : Options) (names : List (List ℕ)) (a : ℕ) (ts : List AgentText) → 1 ≤ a → a ≤ length ts →
    IfSome (slice_get (minds_from o names 1 ts) (a - 1)) (λ m. (m.peers.me ≡ a) × ((length m.peers.names ≡ length names) × ((m.cycles ≡ 0) × (m.awaits ≡ false))))
mind_at o names a ts f l =
    let k : a - 1 < length ts = omega arith in
    let e : 1 + (a - 1) ≡ a = omega arith in
    subst (λ n. IfSome (slice_get (minds_from o names 1 ts) (a - 1)) (λ m. (m.peers.me ≡ n) × ((length m.peers.names ≡ length names) × ((m.cycles ≡ 0) × (m.awaits ≡ false))))) e
    (minds_at o names 1 (a - 1) ts k)

pub opened_length : (o : Options) (names : List (List ℕ)) (ts : List AgentText) → length (minds_from o names 1 ts) ≡ length ts
opened_length o names ts = minds_length o names 1 ts

-- what the turns of the two loops ask
pub ruleset counted = (count_begins, count_more, count_next, count_end)

pub ruleset by_roles = (roles_begin, roles_more, roles_fit, roles_end)
