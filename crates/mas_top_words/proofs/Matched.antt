-- What clap matched of a simple command.
use Rattle.std.proofs.Common.{◌≡◌, List, true, subst}
use Rattle.std.specs.Prelude.{Result, Ok, IfOk}
use Rattle.clap.specs.Simple.{App, HasMatchesOf, is_simple, matches_of}
use Rattle.clap.specs.Walk.{Text, rows_of}
use Rattle.clap.specs.Matches.{found_of}
use Rattle.clap.specs.declared.parser.matches.ArgMatches.{ArgMatches}

pub matched : {E : Type 0} (a b : App) (words : List Text) (m : ArgMatches) (r : Result ArgMatches E) → r ≡ Ok m → a ≡ b → is_simple b ≡ true →
    IfOk r (HasMatchesOf a words) → rows_of (found_of m) ≡ matches_of b words
matched a b words m r o e s h =
    let k : HasMatchesOf a words m = subst (λ x. IfOk x (HasMatchesOf a words)) o h in
    (subst (λ (x : App). HasMatchesOf x words m) e k s).0
