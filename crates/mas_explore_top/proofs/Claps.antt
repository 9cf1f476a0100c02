-- What clap makes of the words.
use Rattle.std.proofs.Common.{◌≡◌, ◌⊎◌, List, [], ◌∷◌, None, true, false, refl, ap, subst, inl, inr, arith}
use Rattle.std.specs.Prelude.{Result, Ok, Err, IfOk}
use Rattle.clap.specs.Faults.{fault_of, is_simple_and_free}
use Rattle.clap.specs.Kinds.{FailsBy, HasKind, IsAmong, Kinds}
use Rattle.clap.specs.Matches.{found_of}
use Rattle.clap.specs.Simple.{App, HasMatchesOf, is_simple}
use Rattle.clap.specs.Values.{kind_of}
use Rattle.clap.specs.Walk.{Text, is_empty, rows_of}
use Rattle.clap.specs.declared.error.Error.{Error}
use Rattle.clap.specs.declared.error.kind.ErrorKind.{ErrorKind}
use Rattle.clap.specs.declared.error.kind.ErrorKind.TheVariants.{OutOfMemory}
use Rattle.clap.specs.declared.parser.matches.ArgMatches.{ArgMatches}
use Rattle.mas_explore_top.specs.Apps.{explore_app}
use Rattle.mas_explore_top.specs.Asked.{exploring, exploring_among}
use Rattle.mas_explore_top.proofs.Asks.{exploring_taken, exploring_refused}

simple : is_simple explore_app ≡ true
unfolding explore_app
simple = refl

free : is_simple_and_free explore_app ≡ true
unfolding explore_app
free = refl

fails : (a : App) (words : List Text) (r : Result ArgMatches Error) → a ≡ explore_app → (is_simple_and_free a ≡ true → FailsBy (fault_of a words) r) →
    FailsBy (fault_of explore_app words) r
fails a words r e k = subst (λ (x : App). is_simple_and_free x ≡ true → FailsBy (fault_of x words) r) e k free

-- where clap takes the words, what its matches ask for is what the words do
pub taken : (a : App) (words : List Text) (m : ArgMatches) (r : Result ArgMatches Error) → r ≡ Ok m → a ≡ explore_app → IfOk r (HasMatchesOf a words) →
    (is_simple_and_free a ≡ true → FailsBy (fault_of a words) r) → exploring_among (rows_of (found_of m)) ≡ exploring words
taken a words m r o e h k =
    let none : fault_of explore_app words ≡ [] = subst (λ x. FailsBy (fault_of explore_app words) x) o (fails a words r e k) in
    let has : HasMatchesOf a words m = subst (λ x. IfOk x (HasMatchesOf a words)) o h in
    exploring_taken words (rows_of (found_of m)) (ap is_empty none) (subst (λ (x : App). HasMatchesOf x words m) e has simple).0

some_kind : (k : ErrorKind) (kinds : Kinds) → IsAmong k kinds → is_empty kinds ≡ false
some_kind k [] h = absurd h
some_kind k (x ∷ xs) h = grind arith

kind_there : (x : Error) (kinds : Kinds) → (kind_of x ≡ OutOfMemory → ⊥) → HasKind kinds x → is_empty kinds ≡ false
kind_there x kinds n (inl e) = absurd (n e)
kind_there x kinds n (inr h) = some_kind (kind_of x) kinds h

-- where it does not, and memory was not wanting, they ask for nothing
pub refused : (a : App) (words : List Text) (x : Error) (r : Result ArgMatches Error) → r ≡ Err x → a ≡ explore_app → (kind_of x ≡ OutOfMemory → ⊥) →
    (is_simple_and_free a ≡ true → FailsBy (fault_of a words) r) → exploring words ≡ None
refused a words x r o e n k =
    exploring_refused words (kind_there x (fault_of explore_app words) n (subst (λ y. FailsBy (fault_of explore_app words) y) o (fails a words r e k)))
