-- What the native states of the artifacts stand for, and what an action makes of them.
use Rattle.std.specs.Option.{option_and_then, option_map}
use Rattle.std.specs.Prelude.{◌≡◌, ℤ, int_lt, ℕ, ltb, Bool, true, false, ◌&&◌, if◌then◌else◌}
use Rattle.std.specs.Prelude.{List, [], ◌∷◌, ◌++◌, length, map, remove, Option, Some, None, is_some, Ok, codes}
use Rattle.std.specs.Str.{bytes_eq}
use Rattle.asl_term.specs.Same.{all_same, same_tree}
use Rattle.asl_term.specs.Trees.{all, is_ground}
use Rattle.asl_term.specs.declared.syntax.ListingOf.{ListingOf}
use Rattle.asl_term.specs.declared.syntax.LiteralOf.{LiteralOf}
use Rattle.asl_term.specs.declared.syntax.Term.{Term}
use Rattle.asl_unify.specs.Applied.{within_literal}
use Rattle.asl_unify.specs.Compare.{same_frame}
use Rattle.asl_unify.specs.Puts.{list_of, put}
use Rattle.mas_mind.specs.declared.mind.Feedback.{Feedback}
use Rattle.mas_mind.specs.declared.mind.Feedback.TheVariants.{Done, Failed}
use Rattle.asl_term.specs.declared.syntax.Term.TheVariants as term
use Rattle.asl_unify.specs.Settling.{each, number_of, settle}
use Rattle.mas_world.specs.Guards.{ready}
use Rattle.mas_artifact.specs.Tables.{atom, belt, held, idle, list, list_before, literal, slot, sum, tally, variable}

-- ---- slot

abbrev pub slot_state : Option (List ℕ) → Term
slot_state None = idle
slot_state (Some holder) = held (atom holder)

abbrev pub slot_facts : Option (List ℕ) → List (LiteralOf Term)
slot_facts holder = slot (slot_state holder) ∷ []

abbrev pub taken : Option (List ℕ) → List ℕ → Feedback × Option (List ℕ)
taken None agent = (Done, Some agent)
taken (Some holder) agent = (Failed, Some holder)

-- only the holder gives it back
abbrev pub given : Option (List ℕ) → List ℕ → Feedback × Option (List ℕ)
given None agent = (Failed, None)
given (Some holder) agent = if bytes_eq agent holder then (Done, None) else (Failed, Some holder)

abbrev pub slot_acted : Option (List ℕ) → List ℕ → LiteralOf Term → Feedback × Option (List ℕ)
slot_acted holder agent action =
    if same_frame (literal (codes "slot_take") []) action then taken holder agent
    else (if same_frame (literal (codes "slot_give") []) action then given holder agent else (Failed, holder))

-- ---- tally

abbrev pub tally_facts : ℤ → List (LiteralOf Term)
tally_facts n = tally (term.Num n) ∷ []

abbrev pub above : ℤ → ℤ → Option ℤ
above n m = if int_lt n m then Some m else None

-- the number in tally(..)
abbrev pub number_in : List Term → Option ℤ
number_in [] = None
number_in (t ∷ more) = number_of t

-- the sum with what is added, where it is ready and greater
abbrev pub tally_sum : ℤ → Term → Option ℤ
tally_sum n t = option_and_then (above n) (option_and_then (λ l. number_in l.args) (ready [] (tally (sum (term.Num n) t))))

abbrev pub args_sum : ℤ → List Term → Option ℤ
args_sum n [] = None
args_sum n (t ∷ more) = tally_sum n t

abbrev pub raised : ℤ → Option ℤ → Feedback × ℤ
raised n None = (Failed, n)
raised n (Some m) = (Done, m)

abbrev pub tally_acted : ℤ → LiteralOf Term → Feedback × ℤ
tally_acted n action = if same_frame (literal (codes "tally_add") (variable (codes "K") ∷ [])) action then raised n (args_sum n action.args) else (Failed, n)

-- ---- belt

-- terms without variables and operations, with their lists merged, which on a belt are within the limits
pub record AreKept (items : List Term) : Type 0 where
  pub ground : all (map is_ground items) ≡ true
  pub flat : map (put term.Var) items ≡ items
  pub settled : each (map settle items) ≡ Ok items
  pub inside : within_literal (belt (list items)) ≡ true

abbrev pub belt_facts : List Term → List (LiteralOf Term)
belt_facts items = belt (list items) ∷ []

abbrev pub items_of : Option (ListingOf Term) → List Term
items_of None = []
items_of (Some l) = l.items

-- the items in belt([..])
abbrev pub items_in : List Term → List Term
items_in [] = []
items_in (t ∷ more) = items_of (list_of t)

-- these items, settled, where belt([..]) is ready
abbrev pub row : List Term → Option (List Term)
row items = option_map (λ l. items_in l.args) (ready [] (belt (list items)))

abbrev pub changed : List Term → Option (List Term) → Feedback × List Term
changed items None = (Failed, items)
changed items (Some new) = (Done, new)

-- one more item goes last, where fewer than four stand there
abbrev pub placed : List Term → Term → Feedback × List Term
placed items t = if ltb (length items) 4 then changed items (row (items ++ t ∷ [])) else (Failed, items)

abbrev pub are_these : List Term → Option (List Term) → Bool
are_these items None = false
are_these items (Some found) = all_same (map same_tree found) items

-- whether belt([t|L]) is ready, and the items are the same with t as the first of them
abbrev pub stands_first : Term → List Term → Bool
stands_first t [] = false
stands_first t (x ∷ more) = is_some (ready [] (belt (list_before t (variable (codes "L"))))) && are_these (x ∷ more) (row (t ∷ more))

-- the first item goes, where it is the one that is asked for
abbrev pub lifted : List Term → Term → Feedback × List Term
lifted items t = if stands_first t items then (Done, remove items 0) else (Failed, items)

abbrev pub moved : List Term → LiteralOf Term → List Term → Feedback × List Term
moved items action [] = (Failed, items)
moved items action (t ∷ more) =
    if same_frame (literal (codes "belt_put") (variable (codes "X") ∷ [])) action then placed items t
    else (if same_frame (literal (codes "belt_take") (variable (codes "P") ∷ [])) action then lifted items t else (Failed, items))

abbrev pub belt_acted : List Term → LiteralOf Term → Feedback × List Term
belt_acted items action = moved items action action.args
