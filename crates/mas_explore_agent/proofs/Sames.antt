-- Agents that are the same, but for the number of their cycles and what they have shown, go on alike.
use Rattle.std.proofs.Common.{◌≡◌, false, length, [], ap}
use Rattle.asl_exec_circumstance.specs.declared.peers.Peers.{Peers}
use Rattle.asl_cycle.specs.Agent.{Mindset, agent_kind}
use Rattle.mas_explore_likes.specs.Likes.{GoAlike}
use Rattle.mas_explore_agent.specs.Same.{SameFrame, SameBut}
use Rattle.mas_explore_agent.specs.inner.Likes.{bare, alike}
use Rattle.mas_explore_agent.specs.inner.Still.{heard}

pub same_frame_of : (m n : Mindset) → m.parts.number ≡ n.parts.number → m.asks ≡ n.asks → m.awaits ≡ n.awaits → m.level ≡ n.level → m.budgets ≡ n.budgets → m.kept ≡ n.kept →
    m.peers ≡ n.peers → SameFrame m n
same_frame_of m n number asks awaits level budgets kept peers =
    record { number = number; asks = asks; kept = kept; awaits = awaits; level = level; budgets = budgets; peers = peers }

pub same_but_of : (m n : Mindset) → SameFrame m n → m.parts.beliefs ≡ n.parts.beliefs → m.parts.agenda ≡ n.parts.agenda → m.plans ≡ n.plans → m.rules ≡ n.rules → SameBut m n
same_but_of m n frame beliefs agenda plans rules = record { frame = frame; plans = plans; rules = rules; beliefs = beliefs; agenda = agenda }

same_bare : (m n : Mindset) → SameBut m n → bare m ≡ bare n
same_bare m n h = λ j. record {
  plans = h.plans j;
  rules = h.rules j;
  parts = record { beliefs = h.beliefs j; agenda = h.agenda j; number = h.frame.number j };
  asks = h.frame.asks j;
  kept = heard (h.agenda j).acting (h.frame.kept j);
  awaits = false;
  cycles = 0;
  level = h.frame.level j;
  budgets = h.frame.budgets j;
  peers = h.frame.peers j;
  text = [];
}

pub goes_alike : (m n : Mindset) → SameBut m n → GoAlike agent_kind m n
goes_alike m n h = record {
  one = record {
    me = ap (λ (p : Peers). p.me) h.frame.peers;
    agents = ap (λ (p : Peers). length p.names) h.frame.peers;
    awaits = h.frame.awaits;
  };
  alike = λ v s. alike v m n (record { same = same_bare m n h; whole = s.whole; other_whole = s.other_whole; texts = s.same });
}
