-- Comparisons that come again while no variable is bound.
use Rattle.std.specs.Prelude.{◌≡◌, ℕ, ◌+◌, ◌≤◌, List, [], ◌∷◌, ◌++◌}
use Rattle.std.specs.List.{AllByRecursion}
use Rattle.asl_term.specs.Trees.{capped}
use Rattle.asl_unify.specs.declared.subst.Pair.{Pair}
use Rattle.asl_unify.specs.declared.solve.Pairing.{Pairing}
use Rattle.asl_unify.specs.declared.rounds.LongRound.{LongRound}
use Rattle.asl_unify.specs.declared.rounds.Known.{Known}
use Rattle.asl_unify.specs.Compare.{Question, ask}
use Rattle.asl_unify.specs.inner.Views.{seen, asked, Led}

abbrev pub question : Pairing → Question
question p = ask (seen p.left) (seen p.right)

-- from a count of n or more, the steps lead from the questions u to v, whatever stands behind them, and count so many pairs
abbrev pub Passes : List Pair → ℕ → List Question → ℕ → List Question → Type 0
Passes s n u pairs v = (w : List Question) (k : ℕ) → n ≤ k → capped k ≡ k → Led (u ++ w) s k (v ++ w) s (capped (k + pairs))

-- a comparison that was gone through
abbrev pub IsKnown : List Pair → ℕ → Known → Type 0
IsKnown s n k = Passes s n (question k.question ∷ []) k.pairs []

-- what was set aside, that for the last comparison first
abbrev pub under : List LongRound → List Question → List Question
under [] behind = behind
under (b ∷ up) behind = under up (asked b.rest.items behind)

-- the steps led from a comparison to the questions v and a count of n
pub record Came (s : List Pair) (b : LongRound) (v : List Question) (n : ℕ) : Type 0 where
  pub pairs : ℕ
  pub from : b.count ≤ n
  pub count : n ≡ capped (b.count + pairs)
  pub passes : Passes s b.count (question b.question ∷ []) pairs v

-- each comparison that was begun led to v, before what was set aside for those after it
abbrev pub AllCame : List Pair → List LongRound → List Question → ℕ → Type 0
AllCame s [] v n = Unit {0}
AllCame s (b ∷ up) v n = Came s b (v ++ under up []) n × AllCame s up v n

-- what a round keeps that has come to the questions v and a count of n
pub record Kept (s : List Pair) (begun : List LongRound) (known : List Known) (v : List Question) (n : ℕ) : Type 0 where
  pub came : AllCame s begun v n
  pub finished : AllByRecursion (IsKnown s n) known
  pub fits : capped n ≡ n
