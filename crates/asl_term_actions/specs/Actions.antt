-- The internal actions: their names, how many arguments each takes, and what each is for.
use Rattle.std.specs.Prelude.{ℕ, Bool, true, false, ◌||◌, ◌==◌, nat_le, cond, List, Option, Some, None, codes}
use Rattle.std.specs.Option.{option_map}
use Rattle.std.specs.Str.{bytes_eq}
use Rattle.asl_term_actions.specs.declared.action.Action.{Action}
use Rattle.asl_term_actions.specs.declared.action.Action.TheVariants as action
use Rattle.asl_term_actions.specs.declared.action.Collector.{Collector}
use Rattle.asl_term_actions.specs.declared.action.Collector.TheVariants as collector
use Rattle.asl_term_actions.specs.declared.action.Deed.{Deed}
use Rattle.asl_term_actions.specs.declared.action.Deed.TheVariants as deed
use Rattle.asl_term_actions.specs.declared.action.LiteralDeed.{LiteralDeed}
use Rattle.asl_term_actions.specs.declared.action.LiteralDeed.TheVariants as literal_deed
use Rattle.asl_term_actions.specs.declared.action.Look.{Look}
use Rattle.asl_term_actions.specs.declared.action.Look.TheVariants as look
use Rattle.asl_term_actions.specs.declared.action.Test.{Test}
use Rattle.asl_term_actions.specs.declared.action.Test.TheVariants as test

-- ---- names, which have no dot in front

abbrev pub collector_named : List ℕ → Option Collector
collector_named name = cond (bytes_eq name (codes "findall")) (Some collector.Findall) (cond (bytes_eq name (codes "count")) (Some collector.Count) None)

abbrev pub test_named : List ℕ → Option Test
test_named name =
    cond (bytes_eq name (codes "ground")) (Some test.Ground)
    (cond (bytes_eq name (codes "number")) (Some test.Number)
    (cond (bytes_eq name (codes "string")) (Some test.String)
    (cond (bytes_eq name (codes "list")) (Some test.List)
    (cond (bytes_eq name (codes "atom")) (Some test.Atom)
    (cond (bytes_eq name (codes "literal")) (Some test.Literal) None)))))

abbrev pub look_named : List ℕ → Option Look
look_named name =
    cond (bytes_eq name (codes "member")) (Some look.Member)
    (cond (bytes_eq name (codes "length")) (Some look.Length)
    (cond (bytes_eq name (codes "nth")) (Some look.Nth)
    (cond (bytes_eq name (codes "concat")) (Some look.Concat)
    (cond (bytes_eq name (codes "max")) (Some look.Max)
    (cond (bytes_eq name (codes "min")) (Some look.Min)
    (cond (bytes_eq name (codes "reverse")) (Some look.Reverse)
    (cond (bytes_eq name (codes "my_name")) (Some look.MyName) (option_map look.Passes (test_named name)))))))))

abbrev pub literal_deed_named : List ℕ → Option LiteralDeed
literal_deed_named name =
    cond (bytes_eq name (codes "drop_intention")) (Some literal_deed.DropIntention)
    (cond (bytes_eq name (codes "drop_desire")) (Some literal_deed.DropDesire)
    (cond (bytes_eq name (codes "succeed_goal")) (Some literal_deed.SucceedGoal)
    (cond (bytes_eq name (codes "fail_goal")) (Some literal_deed.FailGoal)
    (cond (bytes_eq name (codes "intend")) (Some literal_deed.Intend)
    (cond (bytes_eq name (codes "desire")) (Some literal_deed.Desire)
    (cond (bytes_eq name (codes "abolish")) (Some literal_deed.Abolish) None))))))

abbrev pub deed_named : List ℕ → Option Deed
deed_named name =
    cond (bytes_eq name (codes "send")) (Some deed.Send)
    (cond (bytes_eq name (codes "broadcast")) (Some deed.Broadcast)
    (cond (bytes_eq name (codes "stopMAS")) (Some deed.StopMas) (option_map deed.OnLiteral (literal_deed_named name))))

-- the first, where there is one
abbrev pub or_else : Option Action → Option Action → Option Action
or_else (Some a) other = Some a
or_else None other = other

-- rule: which internal action a name is (shut, so that proofs above go by actions, and not by names)
unfoldable pub named : List ℕ → Option Action
named name =
    cond (bytes_eq name (codes "print")) (Some action.Print)
    (cond (bytes_eq name (codes "fail")) (Some action.Fail)
    (or_else (option_map action.Collects (collector_named name))
    (or_else (option_map action.Looks (look_named name)) (option_map action.Does (deed_named name)))))

-- ---- how many arguments an action takes

abbrev pub look_takes : Look → ℕ → Bool
look_takes look.Member n = n == 2
look_takes look.Length n = n == 2
look_takes look.Nth n = n == 3
look_takes look.Concat n = nat_le 3 n
look_takes look.Max n = n == 2
look_takes look.Min n = n == 2
look_takes look.Reverse n = n == 2
look_takes look.MyName n = n == 1
look_takes (look.Passes k) n = n == 1

abbrev pub deed_takes : Deed → ℕ → Bool
deed_takes (deed.OnLiteral d) n = n == 1
deed_takes deed.Send n = (n == 3) || (n == 4)
deed_takes deed.Broadcast n = n == 2
deed_takes deed.StopMas n = n == 0

-- rule: how many arguments an action takes
abbrev pub takes : Action → ℕ → Bool
takes (action.Collects collector.Findall) n = n == 3
takes (action.Collects collector.Count) n = n == 2
takes (action.Looks l) n = look_takes l n
takes action.Print n = true
takes action.Fail n = n == 0
takes (action.Does d) n = deed_takes d n

abbrev pub if_takes : Option Action → ℕ → Option Action
if_takes None n = None
if_takes (Some a) n = cond (takes a n) (Some a) None

-- the action of a name, where it takes so many arguments
abbrev pub known : List ℕ → ℕ → Option Action
known name n = if_takes (named name) n

-- ---- where an action stands

-- rule: those that change nothing and say nothing; the others stand in the body of a plan alone
abbrev pub stands_in_formula : Action → Bool
stands_in_formula (action.Collects c) = true
stands_in_formula (action.Looks l) = true
stands_in_formula action.Print = false
stands_in_formula action.Fail = false
stands_in_formula (action.Does d) = false
