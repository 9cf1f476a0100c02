-- Hints, as a loop makes them.
use Rattle.std.proofs.Common.{◌≡◌, ℕ, suc, ◌+◌, ◌≤◌, Bool, List, [], ◌∷◌, ◌++◌, length, length-append, map, refl, subst, sym, ap, ◌∙◌, append_assoc, arith}
use Rattle.std.proofs.lemmas.List.{append-nil}
use Rattle.asl_lexer.specs.declared.token.Place.{Place}
use Rattle.look_pieces.specs.declared.clause.ReadClause.{ReadClause}
use Rattle.look_pieces.specs.declared.goals.PlacedGoal.{PlacedGoal}
use Rattle.look_pieces.specs.declared.findings.Finding.{Finding}
use Rattle.look_hints.specs.declared.hint.Code.{Code}
use Rattle.look_hints.specs.declared.hint.Hint.{Hint}
use Rattle.look_hints.specs.Planless.{spot, spot_of, planless, all_planless, TellsGoals}

map_push : (front : List Hint) (h : Hint) → map spot (front ++ h ∷ []) ≡ map spot front ++ spot h ∷ []
map_push [] h = refl
map_push (x ∷ xs) h = ap (λ (r : List (Place × Code)). spot x ∷ r) (map_push xs h)

pub more : (front : List Hint) (h : Hint) (p : PlacedGoal) (ps : List PlacedGoal) (total : List (Place × Code)) → spot h ≡ spot_of p →
    map spot front ++ map spot_of (p ∷ ps) ≡ total → map spot (front ++ h ∷ []) ++ map spot_of ps ≡ total
more front h p ps total e t =
    ap (λ (r : List (Place × Code)). r ++ map spot_of ps) (map_push front h)
    ∙ (append_assoc (map spot front) (spot h ∷ []) (map spot_of ps)
    ∙ (ap (λ (x : Place × Code). map spot front ++ x ∷ map spot_of ps) e ∙ t))

pub all : (front : List Hint) (ps : List PlacedGoal) (total : List (Place × Code)) → length ps ≡ 0 → map spot front ++ map spot_of ps ≡ total →
    map spot front ≡ total
all front [] total e h = sym (append-nil (map spot front)) ∙ h
all front (p ∷ ps) total e h = absurd (omega arith)

-- ---- all clauses of a source

map_joined : (front hs : List Hint) → map spot (front ++ hs) ≡ map spot front ++ map spot hs
map_joined [] hs = refl
map_joined (x ∷ xs) hs = ap (λ (r : List (Place × Code)). spot x ∷ r) (map_joined xs hs)

pub joined : (front hs : List Hint) (tells_plans : Bool) (cs : List ReadClause) (c : ReadClause) (rest : List ReadClause) (total : List (Place × Code)) →
    map spot hs ≡ planless tells_plans cs c → map spot front ++ all_planless tells_plans cs (c ∷ rest) ≡ total →
    map spot (front ++ hs) ++ all_planless tells_plans cs rest ≡ total
joined front hs tells_plans cs c rest total e t =
    ap (λ (r : List (Place × Code)). r ++ all_planless tells_plans cs rest) (map_joined front hs)
    ∙ (append_assoc (map spot front) (map spot hs) (all_planless tells_plans cs rest)
    ∙ (ap (λ (x : List (Place × Code)). map spot front ++ (x ++ all_planless tells_plans cs rest)) e ∙ t))

pub none_left : (front : List Hint) (tells_plans : Bool) (cs rest : List ReadClause) (total : List (Place × Code)) → length rest ≡ 0 →
    map spot front ++ all_planless tells_plans cs rest ≡ total → map spot front ≡ total
none_left front tells_plans cs [] total e h = sym (append-nil (map spot front)) ∙ h
none_left front tells_plans cs (c ∷ rest) total e h = absurd (omega arith)

length_spots : (hs : List Hint) → length (map spot hs) ≡ length hs
length_spots [] = refl
length_spots (x ∷ xs) = ap (λ (n : ℕ). suc n) (length_spots xs)

pub as_many : (goals others : List Hint) (tells_plans : Bool) (cs : List ReadClause) (shown : List Finding) →
    map spot goals ≡ all_planless tells_plans cs cs → length shown ≡ length (goals ++ others) → TellsGoals tells_plans cs shown
as_many goals others tells_plans cs shown e l =
    omega (arith, l, length-append goals others, length_spots goals, ap length e)
