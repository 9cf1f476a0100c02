-- What is found is a reading.
use Rattle.std.proofs.Common.{◌≡◌, ℕ, zero, suc, ◌<◌, ◌≤◌, ◌==◌, Bool, true, false, cond, List, [], ◌∷◌, length, Option, Some, None, Ok, refl, sym, ap, subst, arith}
use Rattle.std.specs.Prelude.{codes}
use Rattle.std.specs.Str.{bytes_eq}
use Rattle.std.proofs.lemmas.Slice.Eq.{bytes_eq-Decides}
use Rattle.mas_project.specs.declared.lexeme.ProjectLexeme.{ProjectLexeme}
use Rattle.mas_project.specs.declared.lexeme.ProjectLexeme.TheVariants.{Atom, Var, Str, Suffix, Number, Colon, Semicolon, Hash, OpenBrace, CloseBrace}
use Rattle.mas_project.specs.declared.piece.AgentEntry.{AgentEntry}
use Rattle.mas_project.specs.declared.piece.PieceMeaning.{PieceMeaning}
use Rattle.mas_project.specs.declared.piece.PieceMeaning.TheVariants as said
use Rattle.mas_project.specs.declared.piece.NextPiece.{NextPiece}
use Rattle.mas_project.specs.declared.piece.NextPiece.TheVariants as turn
use Rattle.mas_project.specs.declared.state.Before.{Before}
use Rattle.mas_project.specs.declared.state.Before.TheVariants as before
use Rattle.mas_project.specs.declared.state.State.{State}
use Rattle.mas_project.specs.declared.state.State.TheVariants as state
use Rattle.mas_project.specs.Grammar.{
  asl,
  env,
  infrastructure,
  ReadsFile,
  own_file,
  named_file,
  quoted_file,
  ReadsEntry,
  one_agent,
  some_agents,
  ReadsEnvironment,
  by_atom,
  by_var,
  ReadsOptions,
  no_option,
  infrastructure_alone,
  environment_alone,
  infrastructure_first,
  environment_first,
  Reads,
  title,
  first_entry,
  next_entry,
  last,
}
use Rattle.mas_project.specs.inner.Steps.{begin, said_of, infrastructure_option, environment_option, named_option, step, run}
use Rattle.mas_project.proofs.Machine.{then_run, whole_is}

-- ---- tests of names

same_bytes : (xs ys : List ℕ) → bytes_eq xs ys ≡ true → xs ≡ ys
same_bytes xs ys e = (bytes_eq-Decides xs ys).0 e

-- ---- the end of a piece

whole_end : (m n : PieceMeaning) (ts : List ProjectLexeme) → run (state.Whole m) ts ≡ Ok (state.Whole n) → (ts ≡ []) × (m ≡ n)
unfolding run step
whole_end m n [] e = (refl, whole_is m n e)
whole_end m n (w ∷ ts) e = absurd cc

-- ---- an entry

-- what stands behind a file
data Tail (b : Before) (name file : List ℕ) : List ProjectLexeme → PieceMeaning → Type 0 where
  ends : {m : PieceMeaning} → said_of b (record { name = name; file = file; count = None }) ≡ m → Tail b name file (Semicolon ∷ []) m
  counts : {n : ℕ} {m : PieceMeaning} → 1 ≤ n → said_of b (record { name = name; file = file; count = Some n }) ≡ m
      → Tail b name file (Hash ∷ Number n ∷ Semicolon ∷ []) m

semicolon_end : (m n : PieceMeaning) (ts : List ProjectLexeme) → run (state.Whole m) ts ≡ Ok (state.Whole n) → (Semicolon ∷ ts ≡ Semicolon ∷ []) × (m ≡ n)
semicolon_end m n ts e =
    let w = whole_end m n ts e in
    (ap (λ (x : List ProjectLexeme). Semicolon ∷ x) w.0, w.1)

count_end : (b : Before) (entry : AgentEntry) (ts : List ProjectLexeme) (m : PieceMeaning) → run (state.Semicolon b entry) ts ≡ Ok (state.Whole m)
    → (ts ≡ Semicolon ∷ []) × (said_of b entry ≡ m)
unfolding run step
count_end b entry [] m e = absurd cc
count_end b entry (Semicolon ∷ ts) m e = semicolon_end (said_of b entry) m ts e
count_end b entry (_ ∷ ts) m e = absurd cc

number_end : (b : Before) (name file : List ℕ) (n : ℕ) (ts : List ProjectLexeme) (m : PieceMeaning)
    → run (state.Count b name file) (Number n ∷ ts) ≡ Ok (state.Whole m) → Tail b name file (Hash ∷ Number n ∷ ts) m
unfolding run step
number_end b name file zero ts m e = absurd cc
number_end b name file (suc k) ts m e =
    let c = count_end b (record { name = name; file = file; count = Some (suc k) }) ts m (go (suc k == 0) (grind arith) e) in
    subst (λ (x : List ProjectLexeme). Tail b name file (Hash ∷ Number (suc k) ∷ x) m) (sym c.0) (counts (omega arith) c.1)
  where
    go : (z : Bool) → z ≡ false
        → then_run (cond z None (Some (state.Semicolon b (record {
          name = name;
          file = file;
          count = Some (suc k);
        })))) (Number (suc k)) ts ≡ Ok (state.Whole m)
        → run (state.Semicolon b (record { name = name; file = file; count = Some (suc k) })) ts ≡ Ok (state.Whole m)
    go true z e = absurd cc
    go false z e = e

hash_end : (b : Before) (name file : List ℕ) (ts : List ProjectLexeme) (m : PieceMeaning) → run (state.Count b name file) ts ≡ Ok (state.Whole m)
    → Tail b name file (Hash ∷ ts) m
unfolding run step
hash_end b name file [] m e = absurd cc
hash_end b name file (Number n ∷ ts) m e = number_end b name file n ts m e
hash_end b name file (_ ∷ ts) m e = absurd cc

plain_end : (b : Before) (name file : List ℕ) (ts : List ProjectLexeme) (m : PieceMeaning)
    → run (state.Whole (said_of b (record { name = name; file = file; count = None }))) ts ≡ Ok (state.Whole m) → Tail b name file (Semicolon ∷ ts) m
plain_end b name file ts m e =
    let w = whole_end _ m ts e in
    subst (λ (x : List ProjectLexeme). Tail b name file (Semicolon ∷ x) m) (sym w.0) (ends w.1)

file_end : (b : Before) (name file : List ℕ) (ts : List ProjectLexeme) (m : PieceMeaning) → run (state.File b name file) ts ≡ Ok (state.Whole m) → Tail b name file ts m
unfolding run step
file_end b name file [] m e = absurd cc
file_end b name file (Hash ∷ ts) m e = hash_end b name file ts m e
file_end b name file (Semicolon ∷ ts) m e = plain_end b name file ts m e
file_end b name file (_ ∷ ts) m e = absurd cc

-- a file, and what stands behind it
record Named (b : Before) (name : List ℕ) (ts : List ProjectLexeme) (m : PieceMeaning) : Type 0 where
  file : List ℕ
  us : List ProjectLexeme
  reads : ReadsFile name ts us file
  tail : Tail b name file us m

stem_end : (b : Before) (name stem : List ℕ) (ts : List ProjectLexeme) (m : PieceMeaning) → run (state.Stem b name stem) ts ≡ Ok (state.Whole m)
    → Named b name (Atom stem ∷ ts) m
unfolding run step
stem_end b name stem [] m e = absurd cc
stem_end b name stem (Suffix ∷ ts) m e = record { file = asl stem; us = ts; reads = named_file; tail = file_end b name (asl stem) ts m e }
stem_end b name stem (_ ∷ ts) m e = absurd cc

name_end : (b : Before) (name : List ℕ) (ts : List ProjectLexeme) (m : PieceMeaning) → run (state.Name b name) ts ≡ Ok (state.Whole m) → Named b name ts m
unfolding run step
name_end b name [] m e = absurd cc
name_end b name (Atom stem ∷ ts) m e = stem_end b name stem ts m e
name_end b name (Str file ∷ ts) m e = record { file = file; us = ts; reads = quoted_file; tail = file_end b name file ts m e }
name_end b name (Hash ∷ ts) m e = record { file = asl name; us = Hash ∷ ts; reads = own_file; tail = hash_end b name (asl name) ts m e }
name_end b name (Semicolon ∷ ts) m e = record { file = asl name; us = Semicolon ∷ ts; reads = own_file; tail = plain_end b name (asl name) ts m e }
name_end b name (_ ∷ ts) m e = absurd cc

record IsEntry (b : Before) (ts : List ProjectLexeme) (m : PieceMeaning) : Type 0 where
  entry : AgentEntry
  reads : ReadsEntry ts entry
  same : said_of b entry ≡ m

entry_tail : {b : Before} {name file : List ℕ} {ts us : List ProjectLexeme} {m : PieceMeaning} → ReadsFile name ts us file → Tail b name file us m
    → IsEntry b (Atom name ∷ ts) m
entry_tail f (ends e) = record { entry = _; reads = one_agent f; same = e }
entry_tail f (counts n e) = record { entry = _; reads = some_agents n f; same = e }

entry_end : (b : Before) (name : List ℕ) (ts : List ProjectLexeme) (m : PieceMeaning) → run (state.Name b name) ts ≡ Ok (state.Whole m) → IsEntry b (Atom name ∷ ts) m
entry_end b name ts m e =
    let n = name_end b name ts m e in
    entry_tail n.reads n.tail

-- ---- the options

-- the options that may still come
data Left : Bool → Option (List ℕ) → List ProjectLexeme → List ProjectLexeme → Option (List ℕ) → Type 0 where
  none_left : {seen : Bool} {world : Option (List ℕ)} {us : List ProjectLexeme} → Left seen world us us world
  infrastructure_left : {world file : Option (List ℕ)} {ts us : List ProjectLexeme} → Left true world ts us file → Left false world (infrastructure ts) us file
  environment_left : {seen : Bool} {name : List ℕ} {file : Option (List ℕ)} {ts us vs : List ProjectLexeme} → ReadsEnvironment ts us name
      → Left seen (Some name) us vs file → Left seen None ts vs file

-- in one order or the other
options_are : {file : Option (List ℕ)} {ts us : List ProjectLexeme} → Left false None ts us file → ReadsOptions ts us file
options_are none_left = no_option
options_are (infrastructure_left none_left) = infrastructure_alone
options_are (infrastructure_left (environment_left r none_left)) = infrastructure_first r
options_are (environment_left r none_left) = environment_alone r
options_are (environment_left r (infrastructure_left none_left)) = environment_first r

-- what `agents` may follow, with the first entry
record Opened (seen : Bool) (world : Option (List ℕ)) (ts : List ProjectLexeme) (m : PieceMeaning) : Type 0 where
  us : List ProjectLexeme
  file : Option (List ℕ)
  entry : AgentEntry
  left : Left seen world ts (Atom (codes "agents") ∷ Colon ∷ us) file
  reads : ReadsEntry us entry
  same : said.First file entry ≡ m

first_end : (seen : Bool) (world : Option (List ℕ)) (ts : List ProjectLexeme) (m : PieceMeaning) → run (state.AgentsColon world) ts ≡ Ok (state.Whole m)
    → Opened seen world (Atom (codes "agents") ∷ ts) m
unfolding run step
first_end seen world [] m e = absurd cc
first_end seen world (Colon ∷ []) m e = absurd cc
first_end seen world (Colon ∷ Atom name ∷ ts) m e =
    let f = entry_end (before.First world) name ts m e in
    record { us = Atom name ∷ ts; file = world; entry = f.entry; left = none_left; reads = f.reads; same = f.same }
first_end seen world (Colon ∷ _ ∷ ts) m e = absurd cc
first_end seen world (_ ∷ ts) m e = absurd cc

-- which option a name is
data Chosen (seen : Bool) (world : Option (List ℕ)) (name : List ℕ) (next : State) : Type 0 where
  infrastructure_chosen : name ≡ codes "infrastructure" → seen ≡ false → state.InfrastructureColon world ≡ next → Chosen seen world name next
  environment_chosen : name ≡ codes "environment" → world ≡ None → state.EnvironmentColon seen ≡ next → Chosen seen world name next
  agents_chosen : name ≡ codes "agents" → state.AgentsColon world ≡ next → Chosen seen world name next

chosen : (seen : Bool) (world : Option (List ℕ)) (name : List ℕ) (next : State)
    → named_option (record { infrastructure = seen; world = world }) name ≡ Some next → Chosen seen world name next
chosen seen world name next =
    go (bytes_eq name (codes "infrastructure")) (bytes_eq name (codes "environment")) (bytes_eq name (codes "agents")) seen world refl refl refl
  where
    go : (a b c h : Bool) (w : Option (List ℕ)) → bytes_eq name (codes "infrastructure") ≡ a → bytes_eq name (codes "environment") ≡ b
        → bytes_eq name (codes "agents") ≡ c
        → cond a (infrastructure_option (record {
          infrastructure = h;
          world = w;
        })) (cond b (environment_option h w) (cond c (Some (state.AgentsColon w)) None)) ≡ Some next → Chosen h w name next
    go true b c true w p q r e = absurd cc
    go true b c false w p q r e = infrastructure_chosen (same_bytes _ _ p) refl cc
    go false true c h None p q r e = environment_chosen (same_bytes _ _ q) refl cc
    go false true c h (Some x) p q r e = absurd cc
    go false false true h w p q r e = agents_chosen (same_bytes _ _ r) cc
    go false false false h w p q r e = absurd cc

-- the other option behind one, or the agents
record Goes (seen : Bool) (world : Option (List ℕ)) (ts us : List ProjectLexeme) (m : PieceMeaning) : Type 0 where
  found : run (state.SeenOptions (record { infrastructure = seen; world = world })) us ≡ Ok (state.Whole m)
  shorter : length us < length ts

record InfrastructureEnds (world : Option (List ℕ)) (ts : List ProjectLexeme) (m : PieceMeaning) : Type 0 where
  us : List ProjectLexeme
  parts : ts ≡ Colon ∷ Var (codes "Centralised") ∷ us
  goes : Goes true world ts us m

infrastructure_end : (world : Option (List ℕ)) (ts : List ProjectLexeme) (m : PieceMeaning) → run (state.InfrastructureColon world) ts ≡ Ok (state.Whole m) → InfrastructureEnds world ts m
unfolding run step
infrastructure_end world [] m e = absurd cc
infrastructure_end world (Colon ∷ []) m e = absurd cc
infrastructure_end world (Colon ∷ Var w ∷ ts) m e = go (bytes_eq w (codes "Centralised")) refl e
  where
    go : (b : Bool) → bytes_eq w (codes "Centralised") ≡ b
        → then_run (cond b (Some (state.SeenOptions (record { infrastructure = true; world = world }))) None) (Var w) ts ≡ Ok (state.Whole m)
        → InfrastructureEnds world (Colon ∷ Var w ∷ ts) m
    go true p e = record { us = ts; parts = ap (λ (x : List ℕ). Colon ∷ Var x ∷ ts) (same_bytes _ _ p); goes = record { found = e; shorter = omega arith } }
    go false p e = absurd cc
infrastructure_end world (Colon ∷ _ ∷ ts) m e = absurd cc
infrastructure_end world (_ ∷ ts) m e = absurd cc

record EnvironmentEnds (seen : Bool) (ts : List ProjectLexeme) (m : PieceMeaning) : Type 0 where
  us : List ProjectLexeme
  name : List ℕ
  reads : ReadsEnvironment (Atom (codes "environment") ∷ ts) us name
  goes : Goes seen (Some name) ts us m

environment_end : (seen : Bool) (ts : List ProjectLexeme) (m : PieceMeaning) → run (state.EnvironmentColon seen) ts ≡ Ok (state.Whole m) → EnvironmentEnds seen ts m
unfolding run step
environment_end seen [] m e = absurd cc
environment_end seen (Colon ∷ []) m e = absurd cc
environment_end seen (Colon ∷ Atom name ∷ ts) m e = record {
  us = ts;
  name = env name;
  reads = by_atom;
  goes = record {
    found = e;
    shorter = omega arith;
  };
}
environment_end seen (Colon ∷ Var name ∷ ts) m e = record { us = ts; name = env name; reads = by_var; goes = record { found = e; shorter = omega arith } }
environment_end seen (Colon ∷ _ ∷ ts) m e = absurd cc
environment_end seen (_ ∷ ts) m e = absurd cc

abbrev Opens : ℕ → Type 0
Opens n = (seen : Bool) (world : Option (List ℕ)) (ts : List ProjectLexeme) (m : PieceMeaning) → length ts ≤ n
    → run (state.SeenOptions (record { infrastructure = seen; world = world })) ts ≡ Ok (state.Whole m) → Opened seen world ts m

after_infrastructure : {world : Option (List ℕ)} {ts us : List ProjectLexeme} {m : PieceMeaning} → ts ≡ Colon ∷ Var (codes "Centralised") ∷ us → Opened true world us m
    → Opened false world (Atom (codes "infrastructure") ∷ ts) m
after_infrastructure {world = world} {m = m} p o =
    subst (λ (x : List ProjectLexeme). Opened false world (Atom (codes "infrastructure") ∷ x) m) (sym p) (record {
      us = o.us;
      file = o.file;
      entry = o.entry;
      left = infrastructure_left o.left;
      reads = o.reads;
      same = o.same;
    })

after_environment : {seen : Bool} {name : List ℕ} {ts us : List ProjectLexeme} {m : PieceMeaning} → ReadsEnvironment ts us name → Opened seen (Some name) us m → Opened seen None ts m
after_environment r o = record { us = o.us; file = o.file; entry = o.entry; left = environment_left r o.left; reads = o.reads; same = o.same }

-- the option was found, and what is behind it opens
chosen_end : (n : ℕ) → Opens n → (seen : Bool) (world : Option (List ℕ)) (name : List ℕ) (ts : List ProjectLexeme) (m : PieceMeaning) (next : State)
    → length ts ≤ n → Chosen seen world name next → run next ts ≡ Ok (state.Whole m) → Opened seen world (Atom name ∷ ts) m
chosen_end n opens seen world name ts m next le (infrastructure_chosen p q r) e =
    let h = infrastructure_end world ts m (subst (λ (x : State). run x ts ≡ Ok (state.Whole m)) (sym r) e) in
    let o = opens true world h.us m (omega (arith, h.goes.shorter)) h.goes.found in
    subst (λ (x : List ℕ). Opened seen world (Atom x ∷ ts) m) (sym p) (subst (λ (x : Bool). Opened x world (Atom (codes "infrastructure")
    ∷ ts) m) (sym q) (after_infrastructure h.parts o))
chosen_end n opens seen world name ts m next le (environment_chosen p q r) e =
    let h = environment_end seen ts m (subst (λ (x : State). run x ts ≡ Ok (state.Whole m)) (sym r) e) in
    let o = opens seen (Some h.name) h.us m (omega (arith, h.goes.shorter)) h.goes.found in
    subst (λ (x : List ℕ). Opened seen world (Atom x ∷ ts) m) (sym p) (subst (λ (x : Option (List ℕ)). Opened seen x (Atom (codes "environment")
    ∷ ts) m) (sym q) (after_environment h.reads o))
chosen_end n opens seen world name ts m next le (agents_chosen p r) e =
    subst (λ (x : List ℕ). Opened seen world (Atom x
    ∷ ts) m) (sym p) (first_end seen world ts m (subst (λ (x : State). run x ts ≡ Ok (state.Whole m)) (sym r) e))

opened : (n : ℕ) → Opens n
unfolding run step
opened n seen world [] m le e = absurd cc
opened zero seen world (w ∷ ts) m le e = absurd (omega arith)
opened (suc n) seen world (Atom name ∷ ts) m le e = go (opened n) (named_option (record { infrastructure = seen; world = world }) name) refl e
  where
    go : Opens n → (o : Option State) → named_option (record { infrastructure = seen; world = world }) name ≡ o
        → then_run o (Atom name) ts ≡ Ok (state.Whole m) → Opened seen world (Atom name ∷ ts) m
    go opens None p e = absurd cc
    go opens (Some next) p e = chosen_end n opens seen world name ts m next (omega arith) (chosen seen world name next p) e
opened (suc n) seen world (_ ∷ ts) m le e = absurd cc

-- ---- the pieces

title_end : (ts : List ProjectLexeme) (m : PieceMeaning) → run state.Title ts ≡ Ok (state.Whole m) → Reads turn.Title (Var (codes "MAS") ∷ ts) m
unfolding run step
title_end [] m e = absurd cc
title_end (Atom name ∷ []) m e = absurd cc
title_end (Atom name ∷ OpenBrace ∷ ts) m e =
    let w = whole_end (said.Title name) m ts e in
    subst (λ (x : List ProjectLexeme). Reads turn.Title (Var (codes "MAS") ∷ Atom name ∷ OpenBrace
    ∷ x) m) (sym w.0) (subst (Reads turn.Title (Var (codes "MAS") ∷ Atom name ∷ OpenBrace ∷ [])) w.1 title)
title_end (Atom name ∷ _ ∷ ts) m e = absurd cc
title_end (_ ∷ ts) m e = absurd cc

start_end : (ts : List ProjectLexeme) (m : PieceMeaning) → run state.Start ts ≡ Ok (state.Whole m) → Reads turn.Title ts m
unfolding run step
start_end [] m e = absurd cc
start_end (Var w ∷ ts) m e = go (bytes_eq w (codes "MAS")) refl e
  where
    go : (b : Bool) → bytes_eq w (codes "MAS") ≡ b → then_run (cond b (Some state.Title) None) (Var w) ts ≡ Ok (state.Whole m) → Reads turn.Title (Var w ∷ ts) m
    go true p e = subst (λ (x : List ℕ). Reads turn.Title (Var x ∷ ts) m) (sym (same_bytes _ _ p)) (title_end ts m e)
    go false p e = absurd cc
start_end (_ ∷ ts) m e = absurd cc

later_end : (ts : List ProjectLexeme) (m : PieceMeaning) → run state.Later ts ≡ Ok (state.Whole m) → Reads turn.Later ts m
unfolding run step
later_end [] m e = absurd cc
later_end (Atom name ∷ ts) m e =
    let f = entry_end before.Next name ts m e in
    subst (Reads turn.Later (Atom name ∷ ts)) f.same (next_entry f.reads)
later_end (CloseBrace ∷ ts) m e =
    let w = whole_end said.End m ts e in
    subst (λ (x : List ProjectLexeme). Reads turn.Later (CloseBrace ∷ x) m) (sym w.0) (subst (Reads turn.Later (CloseBrace ∷ [])) w.1 last)
later_end (_ ∷ ts) m e = absurd cc

pub sound : (at : NextPiece) (ts : List ProjectLexeme) (m : PieceMeaning) → run (begin at) ts ≡ Ok (state.Whole m) → Reads at ts m
sound turn.Title ts m e = start_end ts m e
sound turn.First ts m e =
    let o = opened (length ts) false None ts m (omega arith) e in
    subst (Reads turn.First ts) o.same (first_entry (options_are o.left) o.reads)
sound turn.Later ts m e = later_end ts m e
