-- One meaning.
use Rattle.std.proofs.Common.{◌≡◌, List, [], refl, sym, ap, ◌∙◌}
use Rattle.asl_parser_tree.specs.declared.lexeme.Lexeme.{Lexeme}
use Rattle.asl_parser_tree.specs.declared.meaning.Meaning.{Meaning}
use Rattle.asl_parser_tree.specs.declared.meaning.Meaning.TheVariants as meaning
use Rattle.asl_parser_tree.specs.declared.bounded.Bounded.TheVariants.{Within}
use Rattle.asl_parser_tree.specs.Holding.{Kept, unlimited, hold}
use Rattle.asl_parser_expr.specs.Grammar.{disjunction}
use Rattle.asl_parser_expr.specs.Laws.{OneMeaning}
use Rattle.asl_parser_tree.proofs.Options.{some_is}
use Rattle.asl_parser_expr.proofs.Complete.{Stops, reads_or}

-- without the limits all is kept
kept : (m : Meaning) → hold unlimited m ≡ Within m
kept (meaning.Truth v l) = refl
kept (meaning.Literal l) = refl
kept (meaning.Term t) = refl
kept (meaning.Relation r) = refl
kept (meaning.Call c) = refl
kept (meaning.Formula e) = refl

within_is : (l m : Meaning) → ◌≡◌ {A = Kept} (Within l) (Within m) → l ≡ m
within_is l m e = cc

pub one_meaning : OneMeaning
one_meaning n xs l m r s =
    let stops : Stops disjunction [] = (refl, (refl, (refl, (refl, (refl, (refl, refl)))))) in
    let same : hold unlimited l ≡ hold unlimited m = ap (λ (x : Kept × List Lexeme). x.0) (some_is {A = Kept × List Lexeme} (hold unlimited l, []) (hold unlimited m, []) (sym (reads_or unlimited n xs [] l r stops) ∙ reads_or unlimited n xs [] m s stops)) in
    within_is l m (sym (kept l) ∙ same ∙ kept m)
