-- What holds while messages are put.
use Rattle.std.proofs.Common.{ℕ, suc, ◌≡◌, ◌+◌, ◌-◌, ◌<◌, arith, All, List, [], ◌∷◌, ◌++◌, length, reverse, slice_get, slice_set, Some, refl, ap, sym, ◌∙◌, subst}
use Rattle.std.proofs.lemmas.List.{reverse-append}
use Rattle.mas_mind.specs.declared.mind.Message.{Message}
use Rattle.mas_mind.specs.Minds.{Kind, IsFrom}
use Rattle.mas_board.specs.Boards.{put_last, posted}
use Rattle.mas_free.specs.Free.{Free}
use Rattle.mas_free.specs.Covers.{Start}
use Rattle.mas_explore_space.specs.declared.held.Held.{Held}
use Rattle.mas_explore_space.specs.declared.row.Row.{Row}
use Rattle.mas_explore_space.specs.Held.{Fits, HasGrown}
use Rattle.mas_explore_space.specs.Rows.{RowHolds, Stands, HasPutOne}
use Rattle.mas_explore_space.proofs.Helds.{grown_same, grown_then}

reverse-twice : {X : Type 0} (xs : List X) → reverse (reverse xs) ≡ xs
reverse-twice [] = refl
reverse-twice {X} (x ∷ xs) =
    let e : reverse (x ∷ xs) ≡ reverse xs ++ x ∷ [] = reverse-append (x ∷ []) xs in
    ap reverse e ∙ reverse-append (reverse xs) (x ∷ []) ∙ ap (λ (ys : List X). x ∷ ys) (reverse-twice xs)

module _ {V : Type 0} (k : Kind V) (s : Start V) where
  -- with these boxes the row stands for the state, and the rest of the messages makes of them what all make of the first ones
  pub record Put (first now : Held) (most : ℕ) (row : Row) (f : Free V) (all rest : List Message) : Type 0 where
    pub boxes : List (List Message)
    pub holds : RowHolds k s now most row (record f { boxes = boxes })
    pub posted_are : posted boxes (reverse rest) ≡ posted f.boxes all

  -- what the putting keeps: the rest of the messages, the last one first
  pub record PutsOn (first now : Held) (most a : ℕ) (begins row : Row) (all rest : List Message) : Type 0 where
    pub grown : HasGrown k s first now
    pub stands : Stands k s now most row
    pub sent : All (IsFrom a (length s.names)) (reverse rest)
    pub puts : (f : Free V) → RowHolds k s first most begins f → Put first now most row f all rest

  pub puts_none : (h : Held) (most a : ℕ) (row : Row) (all rest : List Message) → Fits k s h → Stands k s h most row → All (IsFrom a (length s.names)) all → rest ≡ reverse all →
      PutsOn h h most a row row all rest
  puts_none h most a row all rest fits stands sent e =
      let back : reverse rest ≡ all = ap reverse e ∙ reverse-twice all in
      let P = λ (ms : List Message). All (IsFrom a (length s.names)) ms in
      record {
        grown = grown_same k s h fits;
        stands = stands;
        sent = subst P (sym back) sent;
        puts = λ f x. record { boxes = f.boxes; holds = x; posted_are = ap (posted f.boxes) back };
      }

  turned : (old new : List Message) (m : Message) → old ≡ new ++ m ∷ [] → reverse old ≡ m ∷ reverse new
  turned old new m e = ap reverse e ∙ reverse-append new (m ∷ [])

  pub next_sent : (first now : Held) (most a : ℕ) (begins row : Row) (all old new : List Message) (m : Message) → PutsOn first now most a begins row all old → old ≡ new ++ m ∷ [] → IsFrom a (length s.names) m
  next_sent first now most a begins row all old new m h e =
      let P = λ (ms : List Message). All (IsFrom a (length s.names)) ms in
      subst P (turned old new m e) h.sent 0 m (omega arith)

  pub puts_on : (first now after : Held) (most a : ℕ) (begins row next : Row) (all old new : List Message) (m : Message) → PutsOn first now most a begins row all old → old ≡ new ++ m ∷ [] →
      HasPutOne k s now after most row next m → PutsOn first after most a begins next all new
  puts_on first now after most a begins row next all old new m h e one =
      let t = turned old new m e in
      let P = λ (ms : List Message). All (IsFrom a (length s.names)) ms in
      let sent : P (m ∷ reverse new) = subst P t h.sent in
      record {
        grown = grown_then k s first now after h.grown one.grown;
        stands = record { state = record h.stands.state { boxes = put_last h.stands.state.boxes m }; holds = one.puts h.stands.state h.stands.holds };
        sent = λ i d l. sent (suc i) d (omega arith);
        puts = λ f x.
            (let p = h.puts f x in
            record {
              boxes = put_last p.boxes m;
              holds = one.puts (record f { boxes = p.boxes }) p.holds;
              posted_are = ap (posted p.boxes) (sym t) ∙ p.posted_are;
            });
      }
