-- A site at the start, and the runs of sites.
use Rattle.std.proofs.Common.{◌≡◌, true, List, [], ◌∷◌, length, replicate, slice_get, Option, None, Some, refl, ap, sym, ◌∙◌, subst}
use Rattle.std.proofs.lemmas.List.{length-replicate}
use Rattle.std.proofs.lemmas.List.Elements.{All-head, All-tail}
use Rattle.mas_mind.specs.Minds.{Kind}
use Rattle.mas_board.specs.Boards.{State}
use Rattle.mas_core.specs.Platform.{ended, opening_platform}
use Rattle.mas_sites_stand.specs.declared.seated.Seated.{Seated}
use Rattle.mas_sites_stand.specs.declared.seated.Seated.TheVariants as seat
use Rattle.mas_sites_scripts.specs.Scripts.{with_script, with_scripts}
use Rattle.mas_sites_scripts.specs.Sites.{Sited, opened, IsUsed, IsAlong, IsFresh, AreFresh, Before, After, AreUsedUp, IsClosed, RanWhole}

plain : {V : Type 0} (m : Seated V) → IsFresh m → with_script [] m ≡ m
plain (seat.Own m) h = refl
plain (seat.Stand s) h = ap (λ x. seat.Stand (record s { script = x })) (sym h.0)

pub plain_scripts : {V : Type 0} (minds : List (Seated V)) → AreFresh minds → with_scripts (replicate (length minds) []) minds ≡ minds
plain_scripts [] h = refl
plain_scripts (m ∷ minds) h =
    ap (λ x. x ∷ with_scripts (replicate (length minds) []) minds) (plain m (All-head IsFresh m minds h))
    ∙ ap (λ x. m ∷ x) (plain_scripts minds (All-tail IsFresh m minds h))

used_same : {V : Type 0} (o : Option (Seated V)) → IsUsed o o
used_same None = tt
used_same (Some (seat.Own m)) = tt
used_same (Some (seat.Stand s)) = refl

pub opens : {V : Type 0} (k : Kind V) (board : State) (minds : List (Seated V)) → AreFresh minds → IsAlong k board minds (opened board minds)
opens k board minds h =
    let e : with_scripts (replicate (length minds) []) minds ≡ minds = plain_scripts minds h in
    record {
      number = length-replicate (length minds) [];
      ran = ap (λ x. Some (opening_platform board x)) e;
      used = λ i. subst (λ (x : List (Seated _)). IsUsed (slice_get minds i) (slice_get x i)) (sym e) (used_same (slice_get minds i));
    }

-- ---- a whole run

pub ran_whole : {V : Type 0} (k : Kind V) (before : Before V) (now : Sited V) (after : After V) → IsAlong k before.board before.minds now → AreUsedUp now.platform.minds now.scripts →
    ended now.platform.board.seats ≡ true → IsClosed now after → RanWhole k before after
ran_whole k before now after h u e c = record {
  number = ap length c.scripts ∙ h.number;
  ran = record {
    thoughts = now.platform.thoughts;
    schedule = refl;
    ran = rw (c.board, c.schedule, c.minds, c.scripts) h.ran;
    ended = ap (λ b. ended b.seats) c.board ∙ e;
  };
  used_up = λ i. rw (c.minds, c.scripts) (u i);
}
