-- Reading word by word.
use Rattle.std.proofs.Common.{◌≡◌, List, [], ◌∷◌, ◌++◌, Option, Some, None, Result, Ok, Err, refl, sym, ap, ◌∙◌}
use Rattle.std.specs.Option.{option_map_or}
use Rattle.mas_project.specs.declared.lexeme.ProjectLexeme.{ProjectLexeme}
use Rattle.mas_project.specs.declared.piece.PieceMeaning.{PieceMeaning}
use Rattle.mas_project.specs.declared.state.State.{State}
use Rattle.mas_project.specs.declared.state.State.TheVariants as state
use Rattle.mas_project.specs.inner.Steps.{step, run}

abbrev pub Run : Type 0
Run = Result State (List ProjectLexeme)

-- what one word gives, before these
abbrev pub then_run : Option State → ProjectLexeme → List ProjectLexeme → Run
then_run o w ws = option_map_or (λ next. run next ws) o (Err (w ∷ ws))

abbrev pub ended : State → Run
ended s = Ok s

abbrev pub stopped : List ProjectLexeme → Run
stopped ws = Err ws

pub ok_is : (s t : State) → ended s ≡ ended t → s ≡ t
ok_is s t e = cc

pub err_is : (xs ys : List ProjectLexeme) → stopped xs ≡ stopped ys → xs ≡ ys
err_is xs ys e = cc

pub ok_err : (s : State) (xs : List ProjectLexeme) → ended s ≡ stopped xs → ⊥
ok_err s xs e = cc

pub whole_is : (s t : PieceMeaning) → ended (state.Whole s) ≡ ended (state.Whole t) → s ≡ t
whole_is s t e = cc

pub run_step : (s t : State) (w : ProjectLexeme) (ws : List ProjectLexeme) → step s w ≡ Some t → run s (w ∷ ws) ≡ run t ws
unfolding run
run_step s t w ws e = ap (λ (o : Option State). then_run o w ws) e

pub run_stop : (s : State) (w : ProjectLexeme) (ws : List ProjectLexeme) → step s w ≡ None → run s (w ∷ ws) ≡ Err (w ∷ ws)
unfolding run
run_stop s w ws e = ap (λ (o : Option State). then_run o w ws) e

pub run_nil : (s : State) → run s [] ≡ Ok s
unfolding run
run_nil s = refl

-- words after words that were read
pub run_on : (s t : State) (front more : List ProjectLexeme) → run s front ≡ Ok t → run s (front ++ more) ≡ run t more
unfolding run
run_on s t [] more e = ap (λ (x : State). run x more) (ok_is s t e)
run_on s t (w ∷ front) more e = go (λ next. run_on next t front more) (step s w) e
  where
    go : ((next : State) → run next front ≡ Ok t → run next (front ++ more) ≡ run t more) → (o : Option State) → then_run o w front ≡ Ok t
        → then_run o w (front ++ more) ≡ run t more
    go rest None e = absurd cc
    go rest (Some next) e = rest next e

-- the word with which no reading goes on
pub record Breaks (s : State) (ws us : List ProjectLexeme) : Type 0 where
  pub front : List ProjectLexeme
  pub word : ProjectLexeme
  pub rest : List ProjectLexeme
  pub at : State
  pub parts : ws ≡ front ++ word ∷ rest
  pub left : us ≡ word ∷ rest
  pub came : run s front ≡ Ok at
  pub none : step at word ≡ None

pub breaks : (s : State) (ws us : List ProjectLexeme) → run s ws ≡ Err us → Breaks s ws us
unfolding run
breaks s [] us e = absurd cc
breaks s (w ∷ ws) us e = go (λ next. breaks next ws us) (step s w) refl e
  where
    go : ((next : State) → run next ws ≡ Err us → Breaks next ws us) → (o : Option State) → step s w ≡ o → then_run o w ws ≡ Err us → Breaks s (w ∷ ws) us
    go later None n e = record { front = []; word = w; rest = ws; at = s; parts = refl; left = sym (err_is (w ∷ ws) us e); came = refl; none = n }
    go later (Some next) n e =
        let b = later next e in
        record {
          front = w ∷ b.front;
          word = b.word;
          rest = b.rest;
          at = b.at;
          parts = ap (λ (x : List ProjectLexeme). w ∷ x) b.parts;
          left = b.left;
          came = run_step s next w b.front n ∙ b.came;
          none = b.none;
        }
