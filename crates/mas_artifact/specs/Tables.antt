-- The tables of three artifacts.
use Rattle.std.specs.Prelude.{ℕ, pos, false, List, [], ◌∷◌, ◌++◌, map, None, Some, codes}
use Rattle.asl_term.specs.declared.syntax.Expr.{Expr}
use Rattle.asl_term.specs.declared.syntax.Expr.TheVariants as expr
use Rattle.asl_term.specs.declared.syntax.LiteralOf.{LiteralOf}
use Rattle.asl_term.specs.declared.syntax.Op.TheVariants.{Add, Sub}
use Rattle.asl_term.specs.declared.syntax.RelOp.{RelOp}
use Rattle.asl_term.specs.declared.syntax.RelOp.TheVariants.{More, LessEq}
use Rattle.asl_term.specs.declared.syntax.Term.{Term}
use Rattle.asl_term.specs.declared.syntax.Term.TheVariants as term
use Rattle.asl_term.specs.declared.syntax.Var.{Var}
use Rattle.mas_world.specs.declared.acts.Act.{Act}

-- ---- words

-- a variable of a source
abbrev pub named : List ℕ → Var
named name = record { name = name; number = 0 }

abbrev pub variable : List ℕ → Term
variable name = term.Var (named name)

-- f(..), without a sign and without annotations
abbrev pub literal : List ℕ → List Term → LiteralOf Term
literal f args = record { neg = false; functor = f; args = args; annots = [] }

abbrev pub compound : List ℕ → List Term → Term
compound f args = term.Lit (literal f args)

abbrev pub atom : List ℕ → Term
atom name = compound name []

-- [..]
abbrev pub list : List Term → Term
list items = term.List (record { items = items; tail = None })

-- [x|more]
abbrev pub list_before : Term → Term → Term
list_before x more = term.List (record { items = x ∷ []; tail = Some more })

abbrev pub sum : Term → Term → Term
sum a b = term.Op (record { op = Add; left = a; right = b })

abbrev pub difference : Term → Term → Term
difference a b = term.Op (record { op = Sub; left = a; right = b })

abbrev pub related : Term → RelOp → Term → Expr
related a op b = expr.Rel (record { op = op; left = a; right = b })

-- act head by A : old & more -> -old, +new
abbrev pub act : LiteralOf Term → LiteralOf Term → List Expr → LiteralOf Term → Act
act head old more new = record { head = head; by = variable (codes "A"); guard = expr.Holds old ∷ more; dels = old ∷ []; adds = new ∷ []; drops = [] }

-- ---- tally: a number that grows

-- tally(t)
abbrev pub tally : Term → LiteralOf Term
tally t = literal (codes "tally") (t ∷ [])

-- act tally_add(K) by A : tally(N) & K > 0 & N <= 9223372036854775807 - K -> -tally(N), +tally(N + K)
abbrev pub tally_add : Act
tally_add =
    let k = variable (codes "K") in
    let n = variable (codes "N") in
    let most = term.Num (pos 9223372036854775807) in
    act (literal (codes "tally_add") (k ∷ [])) (tally n)
    (related k More (term.Num (pos 0)) ∷ related n LessEq (difference most k) ∷ [])
    (tally (sum n k))

-- rule: the acts of a tally
abbrev pub tally_table : List Act
tally_table = tally_add ∷ []

-- ---- slot: idle, or held by an agent

-- slot(t)
abbrev pub slot : Term → LiteralOf Term
slot t = literal (codes "slot") (t ∷ [])

abbrev pub idle : Term
idle = atom (codes "idle")

-- held(t)
abbrev pub held : Term → Term
held t = compound (codes "held") (t ∷ [])

-- act slot_take by A : slot(idle) -> -slot(idle), +slot(held(A))
abbrev pub slot_take : Act
slot_take = act (literal (codes "slot_take") []) (slot idle) [] (slot (held (variable (codes "A"))))

-- act slot_give by A : slot(held(A)) -> -slot(held(A)), +slot(idle)
abbrev pub slot_give : Act
slot_give = act (literal (codes "slot_give") []) (slot (held (variable (codes "A")))) [] (slot idle)

-- rule: the acts of a slot
abbrev pub slot_table : List Act
slot_table = slot_take ∷ slot_give ∷ []

-- ---- belt: at most four things in a row

-- belt(t)
abbrev pub belt : Term → LiteralOf Term
belt t = literal (codes "belt") (t ∷ [])

-- act belt_put(X) by A : belt([..]) -> -belt([..]), +belt([.., X])
abbrev pub belt_put : List (List ℕ) → Act
belt_put names =
    let x = variable (codes "X") in
    act (literal (codes "belt_put") (x ∷ [])) (belt (list (map variable names))) [] (belt (list (map variable names ++ x ∷ [])))

-- act belt_take(P) by A : belt([P|L]) -> -belt([P|L]), +belt(L)
abbrev pub belt_take : Act
belt_take =
    let p = variable (codes "P") in
    let l = variable (codes "L") in
    act (literal (codes "belt_take") (p ∷ [])) (belt (list_before p l)) [] (belt l)

-- rule: the acts of a belt
abbrev pub belt_table : List Act
belt_table =
    belt_put []
    ∷ belt_put (codes "P" ∷ [])
    ∷ belt_put (codes "P" ∷ codes "Q" ∷ [])
    ∷ belt_put (codes "P" ∷ codes "Q" ∷ codes "R" ∷ [])
    ∷ belt_take ∷ []
