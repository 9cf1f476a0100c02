use Rattle.std.proofs.Common.{◌∙◌}
use Rattle.mas_record_rounds.specs.Dealing.{waits}
use Rattle.mas_record_rounds.proofs.Dealings.{all_wait}
use Rattle.mas_record_rounds.proofs.dealing.wait_all.Goals as goal

pub returns : goal.returns
returns g c =
    all_wait _ _ _ _ _ c.requires c.len.ensures c.in_ok-places.ensures
    (c.from_vec.ensures ∙ c.in_ok-waiting.ensures ∙ (λ i. waits (c.into_vec.ensures i) (c.into_vec-2.ensures i) (c.into_vec-3.ensures i)))
