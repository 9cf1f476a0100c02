-- What clap makes of the words.
use Rattle.std.proofs.Common.{◌≡◌, ◌&&◌, Bool, List, [], ◌∷◌, None, Some, cond, true, false, refl, sym, ap, subst, inl, inr, arith, ◌∙◌}
use Rattle.std.specs.Prelude.{Result, Ok, Err, IfOk}
use Rattle.clap.specs.Faults.{fault_of, is_simple_and_free, is_free_app}
use Rattle.clap.specs.Kinds.{FailsBy, HasKind, IsAmong, Kinds}
use Rattle.clap.specs.Matches.{found_of}
use Rattle.clap.specs.Simple.{App, HasMatchesOf, built, is_simple, matches_of}
use Rattle.clap.specs.Values.{kind_of}
use Rattle.clap.specs.Walk.{Text, is_empty, rows_of}
use Rattle.clap.specs.declared.error.Error.{Error}
use Rattle.clap.specs.declared.error.kind.ErrorKind.{ErrorKind}
use Rattle.clap.specs.declared.error.kind.ErrorKind.TheVariants.{OutOfMemory}
use Rattle.clap.specs.declared.parser.matches.ArgMatches.{ArgMatches}
use Rattle.look_top.specs.Apps.{app_for}
use Rattle.look_top.specs.Asked.{rows_by}
use Rattle.look_top.specs.declared.words.LookVerb.{LookVerb}
use Rattle.look_top.specs.declared.words.LookVerb.TheVariants as verb

-- ---- the commands are simple

command_is : (v : LookVerb) → is_simple_and_free (app_for v) ≡ true
unfolding app_for
command_is verb.Where = refl
command_is verb.Hints = refl
command_is verb.Messages = refl
command_is verb.Mind = refl
command_is verb.Page = refl
command_is verb.Drops = refl

pub command_free : (v : LookVerb) (a : App) → a ≡ app_for v → is_simple_and_free a ≡ true
command_free v a e = ap is_simple_and_free e ∙ command_is v

-- ---- where it takes the words

first_holds : (a b : Bool) → (a && b) ≡ true → a ≡ true
first_holds true b e = refl
first_holds false b e = absurd cc

simple : (a : App) → is_simple_and_free a ≡ true → is_simple a ≡ true
simple a f = first_holds (is_simple a) (is_free_app (built a)) f

pub taken : (a : App) (words : List Text) (m : ArgMatches) (r : Result ArgMatches Error) → r ≡ Ok m → is_simple_and_free a ≡ true → IfOk r (HasMatchesOf a words) →
    (is_simple_and_free a ≡ true → FailsBy (fault_of a words) r) → Some (rows_of (found_of m)) ≡ rows_by a words
unfolding rows_by
taken a words m r o f h k =
    let none : fault_of a words ≡ [] = subst (λ x. FailsBy (fault_of a words) x) o (k f) in
    let has : HasMatchesOf a words m = subst (λ x. IfOk x (HasMatchesOf a words)) o h in
    ap Some (has (simple a f)).0 ∙ sym (ap (λ (b : Bool). cond b (Some (matches_of a words)) None) (ap is_empty none))

-- ---- where it does not, and memory was not wanting

some_kind : (k : ErrorKind) (kinds : Kinds) → IsAmong k kinds → is_empty kinds ≡ false
some_kind k [] h = absurd h
some_kind k (x ∷ xs) h = grind arith

kind_there : (x : Error) (kinds : Kinds) → (kind_of x ≡ OutOfMemory → ⊥) → HasKind kinds x → is_empty kinds ≡ false
kind_there x kinds n (inl e) = absurd (n e)
kind_there x kinds n (inr h) = some_kind (kind_of x) kinds h

pub refused : (a : App) (words : List Text) (x : Error) (r : Result ArgMatches Error) → r ≡ Err x → is_simple_and_free a ≡ true → (kind_of x ≡ OutOfMemory → ⊥) →
    (is_simple_and_free a ≡ true → FailsBy (fault_of a words) r) → None ≡ rows_by a words
unfolding rows_by
refused a words x r o f n k =
    let kinds : HasKind (fault_of a words) x = subst (λ y. FailsBy (fault_of a words) y) o (k f) in
    sym (ap (λ (b : Bool). cond b (Some (matches_of a words)) None) (kind_there x (fault_of a words) n kinds))
