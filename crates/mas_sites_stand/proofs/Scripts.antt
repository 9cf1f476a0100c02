-- What holds of a script holds of the rest of it.
use Rattle.std.proofs.Common.{ℕ, ◌≡◌, List, [], ◌∷◌, drop, length, All, Option}
use Rattle.std.proofs.lemmas.List.Elements.{All-nil, All-tail}
use Rattle.mas_mind.specs.declared.mind.Message.{Message}
use Rattle.mas_sites_stand.specs.Stands.{Standing, IsStand, IsEntry}

pub rest : {X : Type 0} (P : X → Type 0) (xs : List X) → All P xs → All P (drop 1 xs)
rest P [] h = All-nil P
rest P (x ∷ xs) h = All-tail P x xs h

-- a stand whose script lost its first entry is a stand
pub one_less : (s : Standing) (made : ℕ) (lines : List ℕ) (script : List (Option Message)) (taken : List Message) → IsStand s → script ≡ drop 1 s.script →
    IsStand (record { me = s.me; names = s.names; made = made; lines = lines; script = script; taken = taken })
one_less s made lines script taken h e = record { agent = h.agent; entries = rw e (rest (IsEntry s.me (length s.names)) s.script h.entries) }
