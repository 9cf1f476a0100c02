-- Annotations that are kept once.
use Rattle.std.proofs.Common.{◌≡◌, Bool, true, false, cond, List, [], ◌∷◌, ◌++◌, refl, ap, sym, ◌∙◌, append_assoc}
use Rattle.std.specs.List.{list_any}
use Rattle.std.proofs.lemmas.Bool.{and_from}
use Rattle.std.proofs.lemmas.List.{append-nil}
use Rattle.asl_lexer.proofs.Bytes.{both}
use Rattle.asl_term.specs.declared.syntax.LiteralOf.{LiteralOf}
use Rattle.asl_term.specs.declared.syntax.Term.{Term}
use Rattle.asl_term.specs.Same.{same_tree}
use Rattle.asl_parser_tree.specs.declared.meaning.Meaning.{Meaning}
use Rattle.asl_parser_tree.specs.Plain.{is_plain, are_plain, is_plain_literal}
use Rattle.asl_parser.specs.Sentences.{once_behind, kept_once}
use Rattle.asl_print_reread.proofs.Literals.{GoodTerms, terms_none, terms_next, LiteralParts}
use Rattle.asl_print_reread.proofs.Listings.{terms_then}

abbrev next : Bool → List Term → Term → List Term → List Term
next b front t ts = cond b (once_behind front ts) (once_behind (front ++ t ∷ []) ts)

-- ---- what is kept is good

record SomeTerms (ts : List Term) : Type 0 where
  meant : List Meaning
  parts : GoodTerms meant ts

once_good : {ms ns : List Meaning} {front ts : List Term} → GoodTerms ms front → GoodTerms ns ts → SomeTerms (once_behind front ts)
once_good {ms} {ns} {front} {ts} gs terms_none = record { meant = ms; parts = gs }
once_good {front = front} gs (terms_next {t = t} {ts = ts} h hs) =
    go (list_any (same_tree t) front) (once_good gs hs) (once_good (terms_then gs (terms_next h terms_none)) hs)
  where
    go : (b : Bool) → SomeTerms (once_behind front ts) → SomeTerms (once_behind (front ++ t ∷ []) ts) → SomeTerms (next b front t ts)
    go true k m = k
    go false k m = m

plain_then : (ts us : List Term) → are_plain ts ≡ true → are_plain us ≡ true → are_plain (ts ++ us) ≡ true
plain_then [] us e f = f
plain_then (t ∷ ts) us e f = let h = both (is_plain t) (are_plain ts) e in and_from (is_plain t) (are_plain (ts ++ us)) h.0 (plain_then ts us h.1 f)

once_plain : (front ts : List Term) → are_plain front ≡ true → are_plain ts ≡ true → are_plain (once_behind front ts) ≡ true
once_plain front [] e f = e
once_plain front (t ∷ ts) e f =
    let h = both (is_plain t) (are_plain ts) f in
    go (list_any (same_tree t) front) (once_plain front ts e h.1)
    (once_plain (front ++ t ∷ []) ts (plain_then front (t ∷ []) e (and_from (is_plain t) true h.0 refl)) h.1)
  where
    go : (b : Bool) → are_plain (once_behind front ts) ≡ true → are_plain (once_behind (front ++ t ∷ []) ts) ≡ true → are_plain (next b front t ts) ≡ true
    go true k m = k
    go false k m = m

-- ---- what is kept is kept again

abbrev StaysOnce : List Term → Type 0
StaysOnce front = (rest : List Term) → once_behind [] (front ++ rest) ≡ once_behind front rest

stays_next : (front : List Term) (t : Term) → list_any (same_tree t) front ≡ false → StaysOnce front → StaysOnce (front ++ t ∷ [])
stays_next front t e s = λ rest.
    ap (λ (ts : List Term). once_behind [] ts) (append_assoc front (t ∷ []) rest) ∙ s (t ∷ rest) ∙ ap (λ (b : Bool). next b front t rest) e

once_stays : (front ts : List Term) → StaysOnce front → StaysOnce (once_behind front ts)
once_stays front [] s = s
once_stays front (t ∷ ts) s = go (list_any (same_tree t) front) refl (once_stays front ts s) (λ e. once_stays (front ++ t ∷ []) ts (stays_next front t e s))
  where
    go : (b : Bool) → list_any (same_tree t) front ≡ b → StaysOnce (once_behind front ts)
        → (list_any (same_tree t) front ≡ false → StaysOnce (once_behind (front ++ t ∷ []) ts)) → StaysOnce (next b front t ts)
    go true e k m = k
    go false e k m = m e

once_again : (ts : List Term) → once_behind [] (once_behind [] ts) ≡ once_behind [] ts
once_again ts =
    ap (λ (us : List Term). once_behind [] us) (sym (append-nil (once_behind [] ts))) ∙ once_stays [] ts (λ rest. refl) []

-- ---- literals

pub kept_again : (l : LiteralOf Term) → kept_once (kept_once l) ≡ kept_once l
kept_again l = ap (λ (ts : List Term). record { neg = l.neg; functor = l.functor; args = l.args; annots = ts }) (once_again l.annots)

pub kept_plain : (l : LiteralOf Term) → is_plain_literal l ≡ true → is_plain_literal (kept_once l) ≡ true
kept_plain l e =
    let h = both (are_plain l.args) (are_plain l.annots) e in
    and_from (are_plain l.args) (are_plain (once_behind [] l.annots)) h.0 (once_plain [] l.annots refl h.1)

pub kept_parts : (l : LiteralOf Term) → LiteralParts l → LiteralParts (kept_once l)
kept_parts l p =
    let s = once_good terms_none p.annots in
    record { name = p.name; args_mean = p.args_mean; args = p.args; annots_mean = s.meant; annots = s.parts }
