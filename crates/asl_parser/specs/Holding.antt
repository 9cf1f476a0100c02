-- What clauses say, kept within the limits of trees while they are read.
use Rattle.std.specs.Prelude.{ℕ, Bool, ◌&&◌, List, [], ◌∷◌, ◌++◌, Option, Some, None, if◌then◌else◌}
use Rattle.std.specs.List.{list_all}
use Rattle.std.specs.Option.{option_map}
use Rattle.asl_term.specs.declared.syntax.LiteralOf.{LiteralOf}
use Rattle.asl_term.specs.declared.syntax.Term.{Term}
use Rattle.asl_term.specs.declared.syntax.Expr.TheVariants as expr
use Rattle.asl_term.specs.declared.syntax.Formula.{Formula}
use Rattle.asl_term.specs.declared.syntax.Formula.TheVariants as formula
use Rattle.asl_term.specs.declared.syntax.Kind.{Kind}
use Rattle.asl_term.specs.declared.syntax.Trigger.{Trigger}
use Rattle.asl_parser_tree.specs.declared.meaning.Meaning.{Meaning}
use Rattle.asl_parser_tree.specs.declared.bounded.Bounded.{Bounded}
use Rattle.asl_parser_tree.specs.declared.bounded.Bounded.TheVariants.{Within, Past}
use Rattle.asl_parser_tree.specs.Holding.{Bounds, bounded, fits_literal, fits_expr, has_small_parts, keep_if, Kept, KeptLiteral, KeptExpr}
use Rattle.asl_parser.specs.declared.sentence.ItemSign.{ItemSign}
use Rattle.asl_parser.specs.declared.sentence.Sentence.{Sentence}
use Rattle.asl_parser.specs.declared.sentence.Sentence.TheVariants as sentence
use Rattle.asl_parser.specs.Sentences.{done, fact}
use Rattle.asl_parser.specs.Sentences as sentences
use Rattle.asl_parser.specs.Limits.{is_within}

abbrev pub KeptTrigger : Type 0
KeptTrigger = Bounded Trigger (Unit {0})

abbrev pub KeptItem : Type 0
KeptItem = Bounded Formula (Unit {0})

abbrev pub KeptBody : Type 0
KeptBody = Bounded (List Formula) (Unit {0})

abbrev pub KeptSentence : Type 0
KeptSentence = Bounded Sentence (Unit {0})

-- ---- what is made of parts

abbrev pub trigger_of : Bool → Kind → KeptLiteral → KeptTrigger
trigger_of add k (Within l) = Within (record { add = add; kind = k; lit = l })
trigger_of add k (Past o) = Past tt

abbrev pub item_with : ItemSign → KeptLiteral → KeptItem
item_with d (Within l) = Within (done d l)
item_with d (Past o) = Past tt

abbrev pub small_item : Meaning → Option (Option KeptItem)
small_item m = option_map (option_map Within) (sentences.item_of m)

-- an item without a sign
abbrev pub item_of : Kept → Option (Option KeptItem)
item_of (Within m) = small_item m
item_of (Past o) = if o.item then Some (Some (Past tt)) else None

-- an item before others, unless it is left out
abbrev pub before : Option KeptItem → KeptBody → KeptBody
before None fs = fs
before (Some (Within f)) (Within fs) = Within (f ∷ fs)
before (Some f) fs = Past tt

-- one more item
abbrev pub put_item : KeptBody → Option KeptItem → KeptBody
put_item fs None = fs
put_item (Within fs) (Some (Within f)) = Within (fs ++ f ∷ [])
put_item fs (Some f) = Past tt

module _ (bs : Bounds) where
  -- ---- keeping

  abbrev pub hold_trigger : Trigger → KeptTrigger
  hold_trigger t = keep_if (has_small_parts bs t.lit) t tt

  -- an item with a sign while each part of its literal is within the limits
  abbrev pub is_small_item : Formula → Bool
  is_small_item (formula.Achieve l) = has_small_parts bs l
  is_small_item (formula.Spawn l) = has_small_parts bs l
  is_small_item (formula.Test l) = has_small_parts bs l
  is_small_item (formula.Add l) = has_small_parts bs l
  is_small_item (formula.Del l) = has_small_parts bs l
  is_small_item (formula.Replace l) = has_small_parts bs l
  is_small_item (formula.Act l) = fits_literal bs l
  is_small_item (formula.Inner c) = fits_expr bs (expr.Inner c)
  is_small_item (formula.Rel r) = fits_expr bs (expr.Rel r)

  abbrev pub hold_item : Formula → KeptItem
  hold_item f = keep_if (is_small_item f) f tt

  abbrev pub hold_body : List Formula → KeptBody
  hold_body fs = keep_if (list_all is_small_item fs) fs tt

  abbrev pub hold_sentence : Sentence → KeptSentence
  hold_sentence s = keep_if (bounded bs (is_within s)) s tt

  -- ---- clauses

  abbrev pub goal_of : KeptLiteral → KeptSentence
  goal_of (Within l) = hold_sentence (sentence.Goal l)
  goal_of (Past o) = Past tt

  abbrev pub fact_of : KeptLiteral → KeptSentence
  fact_of (Within l) = hold_sentence (fact l)
  fact_of (Past o) = Past tt

  abbrev pub rule_with : KeptLiteral → KeptExpr → KeptSentence
  rule_with (Within l) (Within e) = hold_sentence (sentence.Rule (record { head = l; body = e }))
  rule_with l e = Past tt

  abbrev pub plan_with : Option (List ℕ) → KeptTrigger → KeptExpr → KeptBody → KeptSentence
  plan_with label (Within t) (Within e) (Within fs) = hold_sentence (sentence.Plan (record { label = label; trigger = t; context = e; body = fs }))
  plan_with label t e fs = Past tt
