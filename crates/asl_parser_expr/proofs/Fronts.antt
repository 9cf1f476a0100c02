-- Fronts of tokens that are expressions.
use Rattle.std.proofs.Common.{◌≡◌, ℕ, zero, suc, ◌+◌, ◌≤◌, Bool, true, false, leb, List, [], ◌∷◌, length, take, cond, Option, Some, None, Result, Ok, Err, refl, sym, ap, subst, ◌∙◌, arith}
use Rattle.std.proofs.lemmas.Bool.{leb-true, leb-false}
use Rattle.asl_parser_tree.specs.declared.lexeme.Lexeme.{Lexeme}
use Rattle.asl_parser_tree.specs.declared.meaning.Meaning.{Meaning}
use Rattle.asl_parser_tree.specs.declared.meaning.Meaning.TheVariants as meaning
use Rattle.asl_parser_expr.specs.declared.places.Found.{Found}
use Rattle.asl_parser_expr.specs.declared.fault.TextFault.{TextFault}
use Rattle.asl_parser_expr.specs.declared.fault.TextFault.TheVariants.{Limit}
use Rattle.asl_parser_tree.specs.declared.leaves.OperatorLevel.TheVariants as levels
use Rattle.asl_parser_tree.specs.Limits.{too_deep}
use Rattle.asl_parser_tree.specs.Holding.{Kept, limited, hold, is_small, keep_if, outline}
use Rattle.asl_parser_expr.specs.Grammar.{Reads, disjunction}
use Rattle.asl_parser_expr.specs.Reading.{level_by, inside}
use Rattle.asl_parser_expr.specs.Places.{IsFront, NoLonger, IsLongest, IsFound, IsWhole, raw_of, within_raw, found_of, found_of_kept, by_tree, FindsIn}
use Rattle.asl_parser_tree.proofs.Options.{some_is}
use Rattle.asl_parser_expr.proofs.Shorter.{shorter}
use Rattle.asl_parser_expr.proofs.Sound.{sound}
use Rattle.asl_parser_expr.proofs.Complete.{Stops, reads_or}

stops : Stops disjunction []
stops = (refl, (refl, (refl, (refl, (refl, (refl, refl))))))

no_tokens : (ts : List Lexeme) → length ts ≡ 0 → ts ≡ []
no_tokens [] e = refl
no_tokens (t ∷ ts) e = absurd (omega arith)

pub is_whole : (ts rest : List Lexeme) (h : Kept) → level_by limited (inside limited 250) levels.Or ts ≡ Some (h, rest) → length rest ≡ 0 → IsWhole ts (Some h)
is_whole ts rest h e z =
    let r = sound limited 250 ts rest h e in
    record { meaning = r.value; reads = subst (λ (ys : List Lexeme). Reads 250 disjunction ts ys r.value) (no_tokens rest z) r.holds; kept = r.same }

none_some : {A : Type 0} {x : A} → ◌≡◌ {A = Option A} None (Some x) → ⊥
none_some e = cc

pub is_none : (ts : List Lexeme) → level_by limited (inside limited 250) levels.Or ts ≡ None → IsWhole ts None
is_none ts e m r = none_some (sym e ∙ reads_or limited 250 ts [] m r stops)

pub is_less : (ts rest : List Lexeme) (h : Kept) → level_by limited (inside limited 250) levels.Or ts ≡ Some (h, rest) → (length rest ≡ 0 → ⊥) → IsWhole ts None
is_less ts rest h e z k r = z (ap (λ (x : Kept × List Lexeme). length x.1) (some_is {A = Kept × List Lexeme} (h, rest) (hold limited k, []) (sym e ∙ reads_or limited 250 ts [] k r stops)))

pub starts : (ts : List Lexeme) → NoLonger ts (length ts)
starts ts k m lt le r = absurd (omega (arith, lt, le))

pub one_less : (ts : List Lexeme) (count less : ℕ) → count ≡ suc less → NoLonger ts count → IsWhole (take count ts) None → NoLonger ts less
one_less ts count less e h n k m lt le r = go (leb k count) refl
  where
    go : (b : Bool) → leb k count ≡ b → ⊥
    go true c = let same : k ≡ count = omega (arith, e, lt, leb-true k count c) in n m (subst (λ (j : ℕ). IsFront ts j m) same r)
    go false c = h k m (leb-false k count c) le r

no_front : (m : Meaning) → Reads 250 disjunction [] [] m → ⊥
no_front m r = absurd (omega (arith, shorter r))

pub none_at_all : (ts : List Lexeme) (count : ℕ) → count ≡ 0 → NoLonger ts count → IsFound ts None
none_at_all ts count z h zero m le r = no_front m r
none_at_all ts count z h (suc k) m le r = h (suc k) m (omega (arith, z)) le r

pub is_longest : (ts : List Lexeme) (count : ℕ) (h : Kept) → count ≤ length ts → NoLonger ts count → IsWhole (take count ts) (Some h) → IsFound ts (Some (h, count))
is_longest ts count h le n w = record { meaning = w.meaning; longest = record { within = le; front = w.reads; longest = n }; kept = w.kept }

-- ---- what is answered

large_raw : (m : Meaning) → is_small limited m ≡ false → within_raw (raw_of m) ≡ false
large_raw (meaning.Truth v l) h = absurd cc
large_raw (meaning.Literal l) h = h
large_raw (meaning.Term t) h = h
large_raw (meaning.Relation r) h = h
large_raw (meaning.Call c) h = h
large_raw (meaning.Formula e) h = h

abbrev found_if : Bool → Meaning → ℕ → Result (Option Found) TextFault
found_if b m next = cond b (Ok (Some (record { raw = raw_of m; next = next }))) (Err (Limit 0))

found_kept : (m : Meaning) (next : ℕ) → found_of m next ≡ found_of_kept (hold limited m) next
found_kept m next = go (is_small limited m) refl
  where
    go : (b : Bool) → is_small limited m ≡ b → found_of m next ≡ found_of_kept (keep_if b m (outline m)) next
    go true h = refl
    go false h = ap (λ (b : Bool). found_if b m next) (large_raw m h)

finds_if : (ts : List Lexeme) (from count : ℕ) (m : Meaning) → IsLongest ts count m → too_deep 250 0 ts ≡ false → (b : Bool) → within_raw (raw_of m) ≡ b → FindsIn ts from (found_if b m (from + count))
finds_if ts from count m l d true e = record { meaning = m; count = count; longest = l; brackets = d; answered = ap (λ (b : Bool). found_if b m (from + count)) e }
finds_if ts from count m l d false e = (refl, by_tree (record { meaning = m; count = count; longest = l; brackets = d; answered = ap (λ (b : Bool). found_if b m (from + count)) e }))

-- the longest front answers what is kept of its meaning
pub finds : (ts : List Lexeme) (from count : ℕ) (h : Kept) (answer : Result (Option Found) TextFault) → IsFound ts (Some (h, count)) → too_deep 250 0 ts ≡ false → answer ≡ found_of_kept h (from + count) → FindsIn ts from answer
finds ts from count h answer f d e =
    let same : found_of f.meaning (from + count) ≡ answer = found_kept f.meaning (from + count) ∙ ap (λ (k : Kept). found_of_kept k (from + count)) f.kept ∙ sym e in
    subst (FindsIn ts from) same (finds_if ts from count f.meaning f.longest d (within_raw (raw_of f.meaning)) refl)
