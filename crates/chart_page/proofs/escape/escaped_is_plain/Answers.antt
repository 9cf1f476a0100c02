use Rattle.chart_page.proofs.Plain.{escaped_is_plain}
use Rattle.chart_page.proofs.escape.escaped_is_plain.Goals as goal

pub returns : goal.returns
returns c = escaped_is_plain
