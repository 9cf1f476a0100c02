-- What is seen of facts are facts.
use Rattle.std.proofs.Common.{arith, ◌≡◌, ◌<◌, ◌≤◌, ◌+◌, ℕ, take, drop, length, get_or, append_assoc, append-nil, subst, Bool, true, false, ◌&&◌, if◌then◌else◌, List, [], ◌∷◌, ◌++◌, map, Option, Some, None, codes, refl, ap, sym, ◌∙◌}
use Rattle.std.specs.List.{AllByRecursion, flat_map, IsDistinct, list_all, list_any}
use Rattle.std.specs.Option.{IfSome}
use Rattle.std.specs.Str.{bytes_eq}
use Rattle.std.proofs.lemmas.Grind.{common_steps}
use Rattle.std.proofs.lemmas.List.{drop_more, take_more}
use Rattle.std.proofs.lemmas.List.Concat.{flat_map-append}
use Rattle.std.proofs.lemmas.Map.Keys.{IsDistinct-head}
use Rattle.asl_term.specs.declared.syntax.LiteralOf.{LiteralOf}
use Rattle.asl_term.specs.declared.syntax.Term.{Term}
use Rattle.asl_term.specs.declared.syntax.Term.TheVariants as term
use Rattle.asl_term.specs.declared.syntax.Term.TheOpen.{Term-F}
use Rattle.asl_term.specs.declared.syntax.Term.TheOpen as layer
use Rattle.asl_term.specs.declared.syntax.Term.TheViews.{out-Term}
use Rattle.asl_term.specs.Exprs.{is_ground_literal}
use Rattle.asl_term.specs.Layers.{made}
use Rattle.asl_term.specs.Trees.{all, is_ground, ground_step}
use Rattle.asl_term.proofs.Terms.{fold_lit, made_out}
use Rattle.mas_mind.specs.Minds.{are_ground}
use Rattle.mas_world.specs.Facts.{AreFacts, is_fact, same_fact, is_settled, is_settled_literal, settled_step, news}
use Rattle.mas_world.specs.Seen.{Private, atom_in, literal_in, private_of, private_args, private_fact, shown_to, shown, seen}
use Rattle.mas_world.specs.inner.Sights.{Agree}
use Rattle.mas_world.specs.Worlds.{HasFacts, Segment, Used, World, facts, used_facts, world}
use Rattle.mas_world.proofs.Settles.{both}
use Rattle.mas_world.proofs.Sound.{all_append, both_all, distinct_drop, fact_equiv, first_of_both, second_of_both, news_are, none_are}

-- a test that a literal passes where all its parts do
module _ (q : Term → Bool) (parts : (l : LiteralOf Term) → q (term.Lit l) ≡ (all (map q l.args) && all (map q l.annots))) where
  abbrev p : LiteralOf Term → Bool
  p l = q (term.Lit l)

  abbrev Told : Option Private → Type 0
  Told o = IfSome o (λ t. p t.fact ≡ true)

  pair : (o : Option (List ℕ)) (f : Term) (y : Term-F Term) → made y ≡ f → q f ≡ true → Told (private_of o (literal_in y))
  pair None f y is h = tt
  pair (Some a) f (layer.Lit m) is h = ap q is ∙ h
  pair (Some a) f (layer.Num n) is h = tt
  pair (Some a) f (layer.Str b) is h = tt
  pair (Some a) f (layer.Var v) is h = tt
  pair (Some a) f (layer.List l) is h = tt
  pair (Some a) f (layer.Op o) is h = tt

  of_args : (ts : List Term) → all (map q ts) ≡ true → Told (private_args ts)
  of_args [] h = tt
  of_args (a ∷ []) h = tt
  of_args (a ∷ f ∷ []) h =
      pair (atom_in (out-Term a)) f (out-Term f) (made_out f) (first_of_both (q f) true (second_of_both (q a) (q f && true) h))
  of_args (a ∷ f ∷ g ∷ more) h = tt

  of_fact : (l : LiteralOf Term) → p l ≡ true → Told (private_fact l)
  of_fact l h = go l.neg (bytes_eq l.functor (codes "for")) where
    go : (neg is : Bool) → Told (if neg then None else (if is then private_args l.args else None))
    go true is = tt
    go false true = of_args l.args (first_of_both (all (map q l.args)) (all (map q l.annots)) (sym (parts l) ∙ h))
    go false false = tt

  to_agent : (agent : List ℕ) (l : LiteralOf Term) (o : Option Private) → p l ≡ true → Told o → list_all p (shown_to agent l o) ≡ true
  to_agent agent l None h t = both (p l) true h refl
  to_agent agent l (Some s) h t = go (bytes_eq s.agent agent) where
    go : (is : Bool) → list_all p (if is then s.fact ∷ [] else []) ≡ true
    go true = both (p s.fact) true t refl
    go false = refl

  one_shown : (hidden : List (List ℕ)) (agent : List ℕ) (l : LiteralOf Term) → p l ≡ true → list_all p (shown hidden agent l) ≡ true
  one_shown hidden agent l h = go (list_any (bytes_eq l.functor) hidden) where
    go : (is : Bool) → list_all p (if is then [] else shown_to agent l (private_fact l)) ≡ true
    go true = refl
    go false = to_agent agent l (private_fact l) h (of_fact l h)

  pub all_shown : (hidden : List (List ℕ)) (agent : List ℕ) (ls : List (LiteralOf Term)) → list_all (λ l. q (term.Lit l)) ls ≡ true → list_all (λ l. q (term.Lit l)) (flat_map (shown hidden agent) ls) ≡ true
  all_shown hidden agent [] h = refl
  all_shown hidden agent (l ∷ ls) h =
      all_append p (shown hidden agent l) (flat_map (shown hidden agent) ls) (one_shown hidden agent l (first_of_both (p l) (list_all p ls) h))
      (all_shown hidden agent ls (second_of_both (p l) (list_all p ls) h))

  pub all_used : (us : List Used) → AllByRecursion (λ u. list_all (λ l. q (term.Lit l)) u.segment.facts ≡ true) us → list_all (λ l. q (term.Lit l)) (used_facts us) ≡ true
  all_used [] a = refl
  all_used (u ∷ us) a = all_append p u.segment.facts (used_facts us) a.0 (all_used us a.1)

each_of : {X : Type 0} (P Q : X → Type 0) → ((x : X) → P x → Q x) → (xs : List X) → AllByRecursion P xs → AllByRecursion Q xs
each_of P Q f [] a = tt
each_of P Q f (x ∷ xs) a = (f x a.0, each_of P Q f xs a.1)

abbrev grounds : (l : LiteralOf Term) → is_ground (term.Lit l) ≡ (all (map is_ground l.args) && all (map is_ground l.annots))
grounds = fold_lit Bool ground_step

abbrev settleds : (l : LiteralOf Term) → is_settled (term.Lit l) ≡ (all (map is_settled l.args) && all (map is_settled l.annots))
settleds = fold_lit Bool settled_step

-- the facts of all segments
pub facts_ground : (w : World) → HasFacts w → are_ground (facts w) ≡ true
facts_ground w h =
    all_append is_ground_literal w.file.facts (used_facts w.used) h.file.grounded
    (all_used is_ground grounds w.used (each_of (λ u. AreFacts u.segment.facts) (λ u. are_ground u.segment.facts ≡ true) (λ u a. a.grounded) w.used h.used))

pub facts_settled : (w : World) → HasFacts w → list_all is_settled_literal (facts w) ≡ true
facts_settled w h =
    all_append is_settled_literal w.file.facts (used_facts w.used) h.file.settled
    (all_used is_settled settleds w.used (each_of (λ u. AreFacts u.segment.facts) (λ u. list_all is_settled_literal u.segment.facts ≡ true) (λ u a. a.settled) w.used h.used))

-- what an agent sees of them
pub seen_are : (w : World) (agent : List ℕ) → HasFacts w → AreFacts (seen w agent)
seen_are w agent h =
    news_are [] (flat_map (shown w.hidden agent) (facts w)) none_are
    (all_shown is_ground grounds w.hidden agent (facts w) (facts_ground w h)) (all_shown is_settled settleds w.hidden agent (facts w) (facts_settled w h))

-- ---- what is seen grows

abbrev Facts : Type 0
Facts = List (LiteralOf Term)

one_split : (b : Bool) (x : LiteralOf Term) (seen xs ys : Facts) → let next : Facts = seen ++ x ∷ [] in
    news seen (xs ++ ys) ≡ news seen xs ++ news (seen ++ news seen xs) ys → news next (xs ++ ys) ≡ news next xs ++ news (next ++ news next xs) ys
    → (if b then news seen (xs ++ ys) else x ∷ news next (xs ++ ys)) ≡ (if b then news seen xs else x ∷ news next xs) ++ news (seen ++ (if b then news seen xs else x ∷ news next xs)) ys
one_split true x seen xs ys h k = h
one_split false x seen xs ys h k =
    let next : Facts = seen ++ x ∷ [] in
    ap (λ z. x ∷ z) k ∙ ap (λ z. x ∷ (news next xs ++ news z ys)) (append_assoc seen (x ∷ []) (news next xs))

-- what is new of two lists, one after the other
news_split : (seen xs ys : Facts) → news seen (xs ++ ys) ≡ news seen xs ++ news (seen ++ news seen xs) ys
news_split seen [] ys = ap (λ z. news z ys) (sym (append-nil seen))
news_split seen (x ∷ xs) ys = one_split (is_fact seen x) x seen xs ys (news_split seen xs ys) (news_split (seen ++ x ∷ []) xs ys)

-- one more item
pub one_more_seen : (f : LiteralOf Term → Facts) (ls old seen new : Facts) (i : ℕ) (l : LiteralOf Term) → i < length ls → l ≡ get_or ls i l → seen ≡ old ++ news old (flat_map f (take i ls)) → new ≡ seen ++ news seen (f l) → new ≡ old ++ news old (flat_map f (take (i + 1) ls))
one_more_seen f ls old seen new i l within at before now =
    let front = flat_map f (take i ls) in
    let all : flat_map f (take (i + 1) ls) ≡ front ++ f l =
    ap (flat_map f) (take_more ls i l within) ∙ flat_map-append f (take i ls) (get_or ls i l ∷ [])
    ∙ ap (λ z. front ++ z) (append-nil (f (get_or ls i l))) ∙ ap (λ z. front ++ f z) (sym at) in
    now ∙ ap (λ z. z ++ news z (f l)) before ∙ append_assoc old (news old front) (news (old ++ news old front) (f l))
    ∙ ap (λ z. old ++ z) (sym (news_split old front (f l))) ∙ ap (λ z. old ++ news old z) (sym all)

-- the state of a walk over distinct facts: what of those to come was seen was told
pub record Seeing (hidden : List (List ℕ)) (agent : List ℕ) (ls : Facts) (i : ℕ) (seen told : Facts) : Type 0 where
  pub seen_is : seen ≡ news [] (flat_map (shown hidden agent) (take i ls))
  pub agree : AllByRecursion (Agree seen told) (drop i ls)

none_agree : (ls : Facts) → AllByRecursion (Agree [] []) ls
none_agree [] = tt
none_agree (l ∷ ls) = (refl, none_agree ls)

pub seeing_begins : (hidden : List (List ℕ)) (agent : List ℕ) (ls : Facts) → Seeing hidden agent ls 0 [] []
seeing_begins hidden agent ls = record { seen_is = refl; agree = none_agree ls }

module _ (hidden : List (List ℕ)) (agent : List ℕ) (ls : Facts) (i : ℕ) (seen told : Facts) (l : LiteralOf Term) (within : i < length ls) (at : l ≡ get_or ls i l) (before : Seeing hidden agent ls i seen told) where
  cut : drop i ls ≡ l ∷ drop (i + 1) ls
  cut = drop_more ls i l within ∙ ap (λ x. x ∷ drop (i + 1) ls) (sym at)

  now : AllByRecursion (Agree seen told) (l ∷ drop (i + 1) ls)
  now = let P : Facts → Type 0 = AllByRecursion (Agree seen told) in subst P cut before.agree

  pub agrees : Agree seen told l
  agrees = now.0

  pub seeing_more : (new news_told : Facts) → AreFacts ls → new ≡ seen ++ news seen (shown hidden agent l) → ((x : LiteralOf Term) → same_fact x l ≡ false → Agree seen told x → Agree new news_told x) → Seeing hidden agent ls (i + 1) new news_told
  seeing_more new news_told are is keeps =
      let D : Facts → Type 0 = IsDistinct same_fact in
      let apart = IsDistinct-head same_fact l (drop (i + 1) ls) (subst D cut (distinct_drop same_fact ls i are.distinct)) in
      record {
        seen_is = one_more_seen (shown hidden agent) ls [] seen new i l within at before.seen_is is;
        agree =
            both_all (Agree seen told) (λ x. same_fact l x ≡ false) (Agree new news_told) (λ x a d. keeps x (fact_equiv.symm x l ∙ d) a) (drop (i + 1) ls) now.1 apart;
      }

-- both parts of what an agent sees
pub seen_parts : (w : World) (agent : List ℕ) (first : Facts) → first ≡ news [] (flat_map (shown w.hidden agent) w.file.facts) → first ++ news first (flat_map (shown w.hidden agent) (used_facts w.used)) ≡ seen w agent
seen_parts w agent first is =
    let f = shown w.hidden agent in
    ap (λ z. z ++ news z (flat_map f (used_facts w.used))) is ∙ sym (news_split [] (flat_map f w.file.facts) (flat_map f (used_facts w.used)))
    ∙ ap (news []) (sym (flat_map-append f w.file.facts (used_facts w.used)))

pub all_seen : (hidden : List (List ℕ)) (agent : List ℕ) (ls : Facts) (i : ℕ) (seen told : Facts) → length ls ≤ i → Seeing hidden agent ls i seen told → seen ≡ news [] (flat_map (shown hidden agent) ls)
all_seen hidden agent ls i seen told h s = s.seen_is ∙ ap (λ z. news [] (flat_map (shown hidden agent) z)) (whole ls i h) where
  whole : (xs : Facts) (n : ℕ) → length xs ≤ n → take n xs ≡ xs
  whole xs n h = grind (arith, common_steps)

-- what the parts of a world give
module _ (file : Segment) (hidden : List (List ℕ)) (us : List Used) (w : World) (is : world file hidden us ≡ w) (agent : List ℕ) where
  pub seen_whole : (own others slice first new : Facts) → own ≡ file.facts → first ≡ news [] (flat_map (shown hidden agent) own) → others ≡ used_facts us → slice ≡ others → new ≡ first ++ news first (flat_map (shown hidden agent) slice) → new ≡ seen w agent
  seen_whole own others slice first new o f u s n =
      n ∙ ap (λ z. first ++ news first (flat_map (shown hidden agent) z)) (s ∙ u)
      ∙ seen_parts (world file hidden us) agent first (f ∙ ap (λ z. news [] (flat_map (shown hidden agent) z)) o) ∙ ap (λ z. seen z agent) is

  pub seen_sound : (new : Facts) → AreFacts file.facts → AllByRecursion (λ u. AreFacts u.segment.facts) us → new ≡ seen w agent → AreFacts new
  seen_sound new f u e =
      let h : HasFacts (world file hidden us) = record { file = f; used = u } in
      subst AreFacts (sym (e ∙ ap (λ z. seen z agent) (sym is))) (seen_are (world file hidden us) agent h)
