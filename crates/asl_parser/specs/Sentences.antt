-- The grammar of clauses.
use Rattle.std.specs.Prelude.{◌≡◌, ℕ, Bool, true, false, List, [], ◌∷◌, ◌++◌, Option, Some, None, codes, if◌then◌else◌}
use Rattle.std.specs.List.{list_any}
use Rattle.asl_lexer.specs.declared.token.Sign.TheVariants as sign
use Rattle.asl_term.specs.declared.syntax.LiteralOf.{LiteralOf}
use Rattle.asl_term.specs.declared.syntax.Term.{Term}
use Rattle.asl_term.specs.declared.syntax.Expr.{Expr}
use Rattle.asl_term.specs.declared.syntax.Expr.TheVariants as expr
use Rattle.asl_term.specs.declared.syntax.Formula.{Formula}
use Rattle.asl_term.specs.declared.syntax.Formula.TheVariants as formula
use Rattle.asl_term.specs.declared.syntax.Kind.{Kind}
use Rattle.asl_term.specs.declared.syntax.Kind.TheVariants as kind
use Rattle.asl_term.specs.declared.syntax.Trigger.{Trigger}
use Rattle.asl_term.specs.Same.{same_tree}
use Rattle.asl_term.specs.Exprs.{is_ground_literal}
use Rattle.asl_parser_tree.specs.declared.lexeme.Lexeme.{Lexeme}
use Rattle.asl_parser_tree.specs.declared.lexeme.Lexeme.TheVariants.{Atom, Truth, Not, Sign, End}
use Rattle.asl_parser_tree.specs.declared.lexeme.Lexeme.TheVariants as lexeme
use Rattle.asl_parser_tree.specs.declared.meaning.Meaning.{Meaning}
use Rattle.asl_parser_tree.specs.declared.meaning.Meaning.TheVariants as meaning
use Rattle.asl_parser.specs.declared.sentence.ItemSign.{ItemSign}
use Rattle.asl_parser.specs.declared.sentence.ItemSign.TheVariants as deed
use Rattle.asl_parser.specs.declared.sentence.Sentence.{Sentence}
use Rattle.asl_parser.specs.declared.sentence.Sentence.TheVariants as sentence
use Rattle.asl_parser_tree.specs.Meanings.{as_formula, truth_name}
use Rattle.asl_parser_tree.specs.Plain.{is_plain_literal, is_action}
use Rattle.asl_parser_expr.specs.Grammar.{Reads, disjunction, ReadsLiteral}

-- ---- what is said

-- each term once, behind those that are there already
abbrev pub once_behind : List Term → List Term → List Term
once_behind front [] = front
once_behind front (t ∷ ts) = if list_any (same_tree t) front then once_behind front ts else once_behind (front ++ t ∷ []) ts

-- a literal whose own annotations are kept once
abbrev pub kept_once : LiteralOf Term → LiteralOf Term
kept_once l = record { neg = l.neg; functor = l.functor; args = l.args; annots = once_behind [] l.annots }

-- a belief with a variable is a rule with the body `true`
abbrev pub belief_or_rule : LiteralOf Term → Sentence
belief_or_rule l = if is_ground_literal l then sentence.Belief l else sentence.Rule (record { head = l; body = expr.True })

abbrev pub fact : LiteralOf Term → Sentence
fact l = belief_or_rule (kept_once l)

-- any word may be a label
abbrev pub label_of : Lexeme → Option (List ℕ)
label_of (Atom name) = Some name
label_of Not = Some (codes "not")
label_of lexeme.Div = Some (codes "div")
label_of lexeme.Mod = Some (codes "mod")
label_of (Truth b) = Some (truth_name b)
label_of _ = None

-- whether a trigger is about what comes or what goes
abbrev pub adds_of : Lexeme → Option Bool
adds_of (Sign sign.Plus) = Some true
adds_of (Sign sign.Minus) = Some false
adds_of _ = None

-- the signs of items
abbrev pub deed_of : Lexeme → Option ItemSign
deed_of (Sign sign.Bang) = Some deed.Achieve
deed_of (Sign sign.Bangs) = Some deed.Spawn
deed_of (Sign sign.Question) = Some deed.Test
deed_of (Sign sign.Plus) = Some deed.Add
deed_of (Sign sign.Minus) = Some deed.Del
deed_of (Sign sign.MinusPlus) = Some deed.Replace
deed_of _ = None

abbrev pub done : ItemSign → LiteralOf Term → Formula
done deed.Achieve l = formula.Achieve l
done deed.Spawn l = formula.Spawn l
done deed.Test l = formula.Test l
done deed.Add l = formula.Add l
done deed.Del l = formula.Del l
done deed.Replace l = formula.Replace l

-- an item without a sign; `true` is left out of the body
abbrev pub item_of : Meaning → Option (Option Formula)
item_of (meaning.Truth b l) = if b then Some None else None
item_of (meaning.Literal l) = if is_action l then Some (Some (formula.Act l)) else None
item_of (meaning.Term t) = None
item_of (meaning.Relation r) = Some (Some (formula.Rel r))
item_of (meaning.Call c) = Some (Some (formula.Inner c))
item_of (meaning.Formula e) = None

abbrev pub before : Option Formula → List Formula → List Formula
before None fs = fs
before (Some f) fs = f ∷ fs

-- ---- the clauses

-- a formula, as it stands in a context and in the body of a rule
pub data ReadsFormula : ℕ → List Lexeme → List Lexeme → Expr → Type 0 where
  a_formula : {n : ℕ} {xs ys : List Lexeme} {m : Meaning} {e : Expr} → Reads n disjunction xs ys m → as_formula m ≡ Some e → ReadsFormula n xs ys e

-- the literal of a belief, a rule's head, a goal or a trigger
pub data ReadsHead : ℕ → List Lexeme → List Lexeme → LiteralOf Term → Type 0 where
  a_head : {n : ℕ} {xs ys : List Lexeme} {l : LiteralOf Term} → ReadsLiteral n xs ys l → is_plain_literal l ≡ true → ReadsHead n xs ys l

pub data ReadsLabel : List Lexeme → List Lexeme → Option (List ℕ) → Type 0 where
  no_label : {xs : List Lexeme} → ReadsLabel xs xs None
  a_label : {x : Lexeme} {xs : List Lexeme} {name : List ℕ} → label_of x ≡ Some name → ReadsLabel (Sign sign.At ∷ x ∷ xs) xs (Some name)

pub data ReadsKind : List Lexeme → List Lexeme → Kind → Type 0 where
  a_belief : {xs : List Lexeme} → ReadsKind xs xs kind.Belief
  an_achievement : {xs : List Lexeme} → ReadsKind (Sign sign.Bang ∷ xs) xs kind.Achieve
  a_test : {xs : List Lexeme} → ReadsKind (Sign sign.Question ∷ xs) xs kind.Test

pub data ReadsTrigger : ℕ → List Lexeme → List Lexeme → Trigger → Type 0 where
  a_trigger : {n : ℕ} {x : Lexeme} {add : Bool} {k : Kind} {xs ys zs : List Lexeme} {l : LiteralOf Term} → adds_of x ≡ Some add → ReadsKind xs ys k
      → ReadsHead n ys zs l → ReadsTrigger n (x ∷ xs) zs (record { add = add; kind = k; lit = l })

pub data ReadsContext : ℕ → List Lexeme → List Lexeme → Expr → Type 0 where
  no_context : {n : ℕ} {xs : List Lexeme} → ReadsContext n xs xs expr.True
  a_context : {n : ℕ} {xs ys : List Lexeme} {e : Expr} → ReadsFormula n xs ys e → ReadsContext n (Sign sign.Colon ∷ xs) ys e

-- an item of a body, None where it is left out
pub data ReadsItem : ℕ → List Lexeme → List Lexeme → Option Formula → Type 0 where
  with_sign : {n : ℕ} {x : Lexeme} {d : ItemSign} {xs ys : List Lexeme} {l : LiteralOf Term} {f : Formula} → deed_of x ≡ Some d → ReadsLiteral n xs ys l
      → done d l ≡ f → ReadsItem n (x ∷ xs) ys (Some f)
  without_sign : {n : ℕ} {x : Lexeme} {xs ys : List Lexeme} {m : Meaning} {o : Option Formula} → deed_of x ≡ None → Reads n disjunction (x ∷ xs) ys m
      → item_of m ≡ Some o → ReadsItem n (x ∷ xs) ys o

pub data ReadsItemList : ℕ → List Lexeme → List Lexeme → List Formula → Type 0 where
  only_item : {n : ℕ} {xs ys : List Lexeme} {o : Option Formula} {fs : List Formula} → ReadsItem n xs ys o → before o [] ≡ fs → ReadsItemList n xs ys fs
  more_items : {n : ℕ} {xs ys zs : List Lexeme} {o : Option Formula} {fs gs : List Formula} → ReadsItem n xs (Sign sign.Semicolon ∷ ys) o
      → ReadsItemList n ys zs fs → before o fs ≡ gs → ReadsItemList n xs zs gs

pub data ReadsBody : ℕ → List Lexeme → List Lexeme → List Formula → Type 0 where
  no_body : {n : ℕ} {xs : List Lexeme} → ReadsBody n xs xs []
  a_body : {n : ℕ} {xs ys : List Lexeme} {fs : List Formula} → ReadsItemList n xs ys fs → ReadsBody n (Sign sign.LeftArrow ∷ xs) ys fs

-- rule: the tokens are one clause, with its end, that says this
pub data Says : ℕ → List Lexeme → Sentence → Type 0 where
  says_fact : {n : ℕ} {xs : List Lexeme} {l : LiteralOf Term} {s : Sentence} → ReadsHead n xs (End ∷ []) l → fact l ≡ s → Says n xs s
  says_rule : {n : ℕ} {xs ys : List Lexeme} {l : LiteralOf Term} {e : Expr} → ReadsHead n xs (Sign sign.If ∷ ys) l → ReadsFormula n ys (End ∷ []) e
      → Says n xs (sentence.Rule (record { head = l; body = e }))
  says_goal : {n : ℕ} {xs : List Lexeme} {l : LiteralOf Term} → ReadsHead n xs (End ∷ []) l → Says n (Sign sign.Bang ∷ xs) (sentence.Goal l)
  says_plan : {n : ℕ} {xs ys zs us : List Lexeme} {label : Option (List ℕ)} {t : Trigger} {e : Expr} {fs : List Formula} → ReadsLabel xs ys label
      → ReadsTrigger n ys zs t → ReadsContext n zs us e → ReadsBody n us (End ∷ []) fs
      → Says n xs (sentence.Plan (record { label = label; trigger = t; context = e; body = fs }))
