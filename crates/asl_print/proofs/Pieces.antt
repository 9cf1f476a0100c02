-- The tokens of an agent's text are cut into those of its clauses.
use Rattle.std.proofs.Common.{◌≡◌, ℕ, Bool, true, false, cond, List, [], ◌∷◌, ◌++◌, map, refl, ap, sym, ◌∙◌, append_assoc}
use Rattle.std.specs.List.{list_all, flat_map, AllByRecursion}
use Rattle.asl_term.specs.declared.syntax.AgentText.{AgentText}
use Rattle.asl_lexer.specs.declared.token.Tok.{Tok}
use Rattle.asl_lexer.specs.Words.{word, is_end, onto, pieces}
use Rattle.asl_lexer.specs.Bare.{Bare, bare, stop}
use Rattle.asl_print.specs.Tokens.{belief_tokens, rule_tokens, goal_tokens, plan_tokens, agent_tokens, clause_tokens}
use Rattle.asl_lexer.specs.Bare.{bare_word}
use Rattle.asl_print.specs.Laws.{ClausesCut}
use Rattle.asl_lexer.proofs.Bytes.{both, not_true}
use Rattle.asl_print.proofs.Nesting.{goes_on, no_end}
use Rattle.asl_print.proofs.NestedClauses.{IsClause, belief_clause, rule_clause, goal_clause, plan_clause}

-- only the last token ends the clause
record Closes (c : List Bare) : Type 0 where
  front : List Bare
  goes : list_all goes_on front ≡ true
  whole : c ≡ front ++ stop ∷ []

closes : {k : ℕ} {c : List Bare} → IsClause k c → Closes c
closes h = record { front = h.front; goes = no_end h.nests; whole = h.whole }

abbrev cuts : List Tok → List (List Bare)
cuts ts = map (map bare) (pieces is_end ts)

map_onto : (t : Tok) (ps : List (List Tok)) (c : List Bare) (cs : List (List Bare)) → map (map bare) ps ≡ c ∷ cs
    → map (map bare) (onto t ps) ≡ (bare t ∷ c) ∷ cs
map_onto t [] c cs e = absurd cc
map_onto t (p ∷ ps) c cs e =
    let first : map bare p ≡ c = cc in
    let rest : map (map bare) ps ≡ cs = cc in
    λ i. (bare t ∷ first i) ∷ rest i

last_of : (t : Tok) (ts : List Tok) → is_end (word t) ≡ true → cuts (t ∷ ts) ≡ (bare t ∷ []) ∷ cuts ts
unfolding pieces
last_of t ts e = ap (λ (b : Bool). map (map bare) (cond b ((t ∷ []) ∷ pieces is_end ts) (onto t (pieces is_end ts)))) e

next_of : (t : Tok) (ts : List Tok) (c : List Bare) (cs : List (List Bare)) → is_end (word t) ≡ false → cuts ts ≡ c ∷ cs
    → cuts (t ∷ ts) ≡ (bare t ∷ c) ∷ cs
unfolding pieces
next_of t ts c cs e h =
    ap (λ (b : Bool). map (map bare) (cond b ((t ∷ []) ∷ pieces is_end ts) (onto t (pieces is_end ts)))) e
    ∙ map_onto t (pieces is_end ts) c cs h

-- what stands behind the first clause
record Behind (front : List Bare) (ts : List Tok) (ys : List Bare) : Type 0 where
  rest : List Tok
  same : map bare rest ≡ ys
  cut : cuts ts ≡ (front ++ stop ∷ []) ∷ cuts rest

first_cut : (front : List Bare) → list_all goes_on front ≡ true → (ts : List Tok) (ys : List Bare) → map bare ts ≡ front ++ stop ∷ ys
    → Behind front ts ys
first_cut [] g [] ys e = absurd cc
first_cut [] g (t ∷ ts) ys e =
    let first : bare t ≡ stop = cc in
    let behind : map bare ts ≡ ys = cc in
    record {
      rest = ts;
      same = behind;
      cut = last_of t ts (ap (λ (x : Bare). is_end (bare_word x)) first)
          ∙ ap (λ (x : Bare). (x ∷ []) ∷ cuts ts) first;
    }
first_cut (x ∷ front) g [] ys e = absurd cc
first_cut (x ∷ front) g (t ∷ ts) ys e =
    let first : bare t ≡ x = cc in
    let behind : map bare ts ≡ front ++ stop ∷ ys = cc in
    let h = both (goes_on x) (list_all goes_on front) g in
    let r = first_cut front h.1 ts ys behind in
    record {
      rest = r.rest;
      same = r.same;
      cut = next_of t ts (front ++ stop ∷ []) (cuts r.rest) (ap (λ (y : Bare). is_end (bare_word y)) first ∙ not_true (is_end (bare_word x)) h.0) r.cut
          ∙ ap (λ (y : Bare). (y ∷ (front ++ stop ∷ [])) ∷ cuts r.rest) first;
    }

abbrev joined : List (List Bare) → List Bare
joined cs = flat_map (λ c. c) cs

all_cut : (cs : List (List Bare)) → AllByRecursion Closes cs → (ts : List Tok) → map bare ts ≡ joined cs → cuts ts ≡ cs
unfolding pieces
all_cut [] h [] e = refl
all_cut [] h (t ∷ ts) e = absurd cc
all_cut (c ∷ cs) h ts e =
    let k = h.0 in
    let parts : map bare ts ≡ k.front ++ stop ∷ joined cs = e ∙ ap (λ z. z ++ joined cs) k.whole ∙ append_assoc k.front (stop ∷ []) (joined cs) in
    let r = first_cut k.front k.goes ts (joined cs) parts in
    r.cut ∙ (λ i. sym k.whole i ∷ all_cut cs h.1 r.rest r.same i)

-- ---- the clauses of an agent

joined_map : {A : Type 0} (f : A → List Bare) (all : List A) (cs : List (List Bare)) → joined (map f all ++ cs) ≡ flat_map f all ++ joined cs
joined_map f [] cs = refl
joined_map f (a ∷ all) cs = ap (λ z. f a ++ z) (joined_map f all cs) ∙ sym (append_assoc (f a) (flat_map f all) (joined cs))

joined_last : {A : Type 0} (f : A → List Bare) (all : List A) → joined (map f all) ≡ flat_map f all
joined_last f [] = refl
joined_last f (a ∷ all) = ap (λ z. f a ++ z) (joined_last f all)

closes_map : {A : Type 0} (f : A → List Bare) → ((a : A) → Closes (f a)) → (all : List A) (cs : List (List Bare)) → AllByRecursion Closes cs
    → AllByRecursion Closes (map f all ++ cs)
closes_map f h [] cs k = k
closes_map f h (a ∷ all) cs k = (h a, closes_map f h all cs k)

closes_last : {A : Type 0} (f : A → List Bare) → ((a : A) → Closes (f a)) → (all : List A) → AllByRecursion Closes (map f all)
closes_last f h [] = tt
closes_last f h (a ∷ all) = (h a, closes_last f h all)

all_close : (a : AgentText) → AllByRecursion Closes (clause_tokens a)
all_close a =
    closes_map belief_tokens (λ l. closes (belief_clause l)) a.beliefs _
    (closes_map rule_tokens (λ r. closes (rule_clause r)) a.rules _
    (closes_map goal_tokens (λ l. closes (goal_clause l)) a.goals _
    (closes_last plan_tokens (λ p. closes (plan_clause p)) a.plans)))

all_joined : (a : AgentText) → joined (clause_tokens a) ≡ agent_tokens a
all_joined a =
    joined_map belief_tokens a.beliefs _
    ∙ ap (λ z. flat_map belief_tokens a.beliefs ++ z)
    (joined_map rule_tokens a.rules _
    ∙ ap (λ z. flat_map rule_tokens a.rules ++ z)
    (joined_map goal_tokens a.goals _ ∙ ap (λ z. flat_map goal_tokens a.goals ++ z) (joined_last plan_tokens a.plans)))

pub clauses_cut : ClausesCut
clauses_cut a ts e = all_cut (clause_tokens a) (all_close a) ts (e ∙ sym (all_joined a))
