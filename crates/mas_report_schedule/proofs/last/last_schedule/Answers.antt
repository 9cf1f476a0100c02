use Rattle.mas_report_schedule.proofs.Ends.{last_none}
use Rattle.mas_report_schedule.proofs.last.last_schedule.Goals as goal

pub returns-in-Err-BadLine : goal.returns-in-Err-BadLine
returns-in-Err-BadLine c =
    last_none c.args.bytes.now c.last_two.result.now c.in-Err-BadLine.field-0 c.in-Err-BadLine.field-0-0 c.last_two.ensures c.in-Err-BadLine.field-0-is c.in-Err-BadLine.ensures.err
