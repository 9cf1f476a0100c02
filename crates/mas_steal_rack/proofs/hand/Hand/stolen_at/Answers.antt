use Rattle.std.proofs.Common.{◌∙◌, refl, arith}
use Rattle.mas_steal_rack.specs.Hands.{IsKeyOf, hand_home}
use Rattle.mas_steal_rack.proofs.Keys.{both_length, both_at, both_set}
use Rattle.mas_steal_rack.proofs.Hands.{stolen, found_home, found_parts}
use Rattle.mas_steal_rack.proofs.hand.Hand.stolen_at.Goals as goal

pub index_mut-requires : goal.index_mut-requires
index_mut-requires g c = let n = both_length (IsKeyOf (hand_home c.args.self.now)) _ _ c.requires.hand.keys in omega (arith, c.args.self.now.keys.ok.0, c.requires.place)

pub steal-requires-clause-door : goal.steal-requires-clause-door
steal-requires-clause-door g c = let k = both_at (IsKeyOf (hand_home c.args.self.now)) _ _ _ _ _ c.requires.hand.keys c.requires.place c.index.ensures c.index_mut.ensures.value in (k.door_is, k.fifo)

pub steal-requires-clause-open : goal.steal-requires-clause-open
steal-requires-clause-open g c = let k = both_at (IsKeyOf (hand_home c.args.self.now)) _ _ _ _ _ c.requires.hand.keys c.requires.place c.index.ensures c.index_mut.ensures.value in
    record { begun = rw k.home_is c.requires.hand.begun; parts = omega (arith, k.parts) }

pub returns-clause-hand : goal.returns-clause-hand
returns-clause-hand g c =
    let h = c.requires.hand in
    let k = both_at (IsKeyOf (hand_home c.args.self.now)) _ _ _ _ _ h.keys c.requires.place c.index.ensures c.index_mut.ensures.value in
    record {
      place = h.place;
      own = h.own;
      fifo = h.fifo;
      begun = h.begun;
      parts = h.parts;
      few = h.few;
      keys = both_set (IsKeyOf (hand_home c.args.self.now)) _ _ _ _ _ h.keys c.requires.place c.index.ensures record {
        door_is = c.steal.ensures.door;
        fifo = k.fifo;
        home_is = found_home g.T.ReadyAgent.number g.T.ReadyAgent.home g.T.ReadyAgent.ready c.steal.result _ _ c.steal.ensures.rule ∙ k.home_is;
        parts = found_parts g.T.ReadyAgent.number g.T.ReadyAgent.home g.T.ReadyAgent.ready c.steal.result _ _ c.steal.ensures.rule ∙ k.parts;
      };
      list = h.list;
    }

pub returns-clause-took : goal.returns-clause-took
returns-clause-took g c =
    let h = c.requires.hand in
    let n = both_length (IsKeyOf (hand_home c.args.self.now)) _ _ h.keys in
    let k = both_at (IsKeyOf (hand_home c.args.self.now)) _ _ _ _ _ h.keys c.requires.place c.index.ensures c.index_mut.ensures.value in
    stolen g.T.ReadyAgent.number g.T.ReadyAgent.home g.T.ReadyAgent.ready c.steal.result c.args.self.now _ c.args.place c.index_mut.result.now c.steal.new.key refl refl refl refl refl (omega (arith, c.requires.place)) c.index_mut.ensures.value k.home_is
    c.steal.ensures.rule
