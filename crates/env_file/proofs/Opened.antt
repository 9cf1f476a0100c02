-- The world of a file can be opened.
use Rattle.std.proofs.Common.{◌≡◌, ℕ, Bool, true, false, ◌&&◌, ◌||◌, if◌then◌else◌, List, [], ◌∷◌, ◌++◌, Option, Some, None, Result, Ok, Err, refl, sym, ap, subst, ◌∙◌}
use Rattle.std.specs.List.{list_any, list_all, AllByRecursion, IsDistinct}
use Rattle.asl_lexer.specs.declared.token.Tok.{Tok}
use Rattle.asl_term.specs.declared.syntax.LiteralOf.{LiteralOf}
use Rattle.asl_term.specs.declared.syntax.Term.{Term}
use Rattle.asl_term.specs.declared.syntax.Term.TheVariants as term
use Rattle.asl_term.specs.declared.syntax.Term.TheOpen.{Term-F}
use Rattle.asl_term.specs.declared.syntax.Term.TheOpen as layer
use Rattle.asl_term.specs.declared.syntax.Term.TheFolds.{fold-Term}
use Rattle.asl_term.specs.Names.{with_name}
use Rattle.asl_term.proofs.Terms.{fold_lit}
use Rattle.asl_parser_tree.specs.Plain.{plain_step, is_plain, is_plain_literal}
use Rattle.mas_world.specs.declared.acts.WorldText.{WorldText}
use Rattle.mas_world.specs.Facts.{settled_step, is_settled, is_settled_literal, same_fact, AreFacts}
use Rattle.env_file.specs.declared.fault.WorldFault.{WorldFault}
use Rattle.env_file.specs.declared.fault.WorldFault.TheVariants.{Clause, UnknownArtifact}
use Rattle.env_file.specs.declared.statement.Part.{Part}
use Rattle.env_file.specs.declared.statement.WrittenAct.{WrittenAct}
use Rattle.env_file.specs.declared.statement.Statement.{Statement}
use Rattle.env_file.specs.declared.statement.Statement.TheVariants as statement
use Rattle.env_file.specs.Guards.{said_parts}
use Rattle.env_file.specs.Binding.{unbound}
use Rattle.env_file.specs.Worlds.{has_name, with_use, bound_made, made, Answers, all_read, is_read, IsWorld}
use Rattle.env_file.proofs.Ground.{are_once, read_facts}

-- ---- without arithmetic

same_step : (x : Term-F Bool) → plain_step x ≡ settled_step x
same_step (layer.Num n) = refl
same_step (layer.Str s) = refl
same_step (layer.Var v) = refl
same_step (layer.Lit l) = refl
same_step (layer.List l) = refl
same_step (layer.Op a) = refl

plain_is_settled : (t : Term) → is_plain t ≡ is_settled t
plain_is_settled t = ap (λ (step : Term-F Bool → Bool). fold-Term Bool step t) (λ i x. same_step x i)

settled_lit : (l : LiteralOf Term) → is_settled_literal l ≡ is_plain_literal l
settled_lit l = sym (plain_is_settled (term.Lit l)) ∙ fold_lit Bool plain_step l

all_settled : (ls : List (LiteralOf Term)) → list_all is_plain_literal ls ≡ true → list_all is_settled_literal ls ≡ true
all_settled [] e = refl
all_settled (l ∷ ls) e = ap (λ (b : Bool). b && list_all is_settled_literal ls) (settled_lit l) ∙ rest (is_plain_literal l) e (all_settled ls)
  where
    rest : (b : Bool) → (b && list_all is_plain_literal ls) ≡ true → (list_all is_plain_literal ls ≡ true → list_all is_settled_literal ls ≡ true) → (b && list_all is_settled_literal ls) ≡ true
    rest true e h = h e
    rest false e h = cc

-- ---- each once

none_of : (p : LiteralOf Term → Bool) (ls : List (LiteralOf Term)) → list_any p ls ≡ false → AllByRecursion (λ y. p y ≡ false) ls
none_of p [] e = tt
none_of p (l ∷ ls) e = first (p l) refl e (none_of p ls)
  where
    first : (b : Bool) → p l ≡ b → (b || list_any p ls) ≡ false → (list_any p ls ≡ false → AllByRecursion (λ y. p y ≡ false) ls) → (p l ≡ false) × AllByRecursion (λ y. p y ≡ false) ls
    first false f e h = (f, h e)
    first true f e h = absurd cc

distinct : (ls : List (LiteralOf Term)) → are_once ls ≡ true → IsDistinct same_fact ls
unfolding IsDistinct
distinct [] e = tt
distinct (l ∷ ls) e = apart (list_any (same_fact l) ls) refl e (distinct ls)
  where
    apart : (b : Bool) → list_any (same_fact l) ls ≡ b → ((if b then false else true) && are_once ls) ≡ true → (are_once ls ≡ true → IsDistinct same_fact ls)
        → AllByRecursion (λ y. same_fact l y ≡ false) ls × IsDistinct same_fact ls
    apart false f e h = (none_of (same_fact l) ls f, h e)
    apart true f e h = absurd cc

pub good_facts : (artifacts : List (List ℕ)) (bytes : List ℕ) (text : WorldText) → IsWorld artifacts bytes text → AreFacts text.facts
good_facts artifacts bytes text h =
    let r = read_facts artifacts bytes text h in
    record { grounded = r.ground; settled = all_settled text.facts r.plain; distinct = distinct text.facts r.once }

-- ---- artifacts that are there

abbrev AreKnown : List (List ℕ) → List (List ℕ) → Type 0
AreKnown artifacts names = AllByRecursion (λ name. has_name artifacts name ≡ true) names

abbrev UsesAre : List (List ℕ) → Result WorldText WorldFault → Type 0
UsesAre artifacts (Ok v) = AreKnown artifacts v.uses
UsesAre artifacts (Err fault) = Unit {0}

-- a known name behind known names
one_more : (artifacts names : List (List ℕ)) (name : List ℕ) → AreKnown artifacts names → has_name artifacts name ≡ true → AreKnown artifacts (names ++ name ∷ [])
one_more artifacts [] name h e = (e, tt)
one_more artifacts (n ∷ names) name h e = (h.0, one_more artifacts names name h.1 e)

put_known : (artifacts names : List (List ℕ)) (name : List ℕ) → AreKnown artifacts names → has_name artifacts name ≡ true → AreKnown artifacts (with_name names name)
put_known artifacts names name h e = by_there (has_name names name)
  where
    by_there : (b : Bool) → AreKnown artifacts (if b then names else names ++ name ∷ [])
    by_there true = h
    by_there false = one_more artifacts names name h e

module _ (artifacts : List (List ℕ)) (w : WorldText) (h : AreKnown artifacts w.uses) (k : ℕ) (t : Tok) where
  bound_known : (a : WrittenAct) (ps : List Part) (o : Option (List ℕ)) → UsesAre artifacts (bound_made w k a ps o)
  bound_known a ps None = h
  bound_known a ps (Some name) = tt

  there_known : (name : List ℕ) (b : Bool) → has_name artifacts name ≡ b → UsesAre artifacts (if b then Ok (with_use w name) else Err (UnknownArtifact k name))
  there_known name true e = put_known artifacts w.uses name h e
  there_known name false e = tt

  use_known : (name : List ℕ) (b : Bool) →
      UsesAre artifacts (if b then Err (Clause k t.line t.column) else (if has_name artifacts name then Ok (with_use w name) else Err (UnknownArtifact k name)))
  use_known name true = tt
  use_known name false = there_known name (has_name artifacts name) refl

  made_known : (s : Statement) → UsesAre artifacts (made artifacts w k t s)
  made_known (statement.Fact l) = h
  made_known (statement.Hide name) = h
  made_known (statement.Use name) = use_known name (has_name w.uses name)
  made_known (statement.Act a) = bound_known a (said_parts a.guard) (unbound a (said_parts a.guard))

read_known : {artifacts : List (List ℕ)} {k : ℕ} {w : WorldText} {ps : List (List Tok)} {text : WorldText} → Answers artifacts k w ps (Ok text) →
    AreKnown artifacts w.uses → AreKnown artifacts text.uses
read_known all_read h = h
read_known {artifacts} {k} {w} (is_read {t = t} {s = s} d r e m a) h = read_known a (subst (UsesAre artifacts) m (made_known artifacts w h k t s))

pub uses_known : (artifacts : List (List ℕ)) (bytes : List ℕ) (text : WorldText) → IsWorld artifacts bytes text → AreKnown artifacts text.uses
uses_known artifacts bytes text h = read_known h.answers tt
