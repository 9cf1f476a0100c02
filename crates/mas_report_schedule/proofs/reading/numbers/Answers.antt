use Rattle.std.proofs.Common.{◌≡◌, ◌++◌, ◌<◌, length, replicate, arith, rules, sym, subst}
use Rattle.mas_report_schedule.proofs.Fronts.{IsFront}
use Rattle.mas_report_schedule.proofs.Passing.{Passed, nothing_passed, entry_passed, entry_few, line_passed, more_passed, none_passed}
use Rattle.mas_report_schedule.proofs.reading.numbers.Goals as goal

pub entries-init : goal.entries-init
entries-init c =
    subst (λ names. Passed c.args.count c.args.bytes.now names c.args.count c.args.bytes.now) (sym c.new-names.ensures) (nothing_passed c.args.count c.args.bytes.now)

pub returns-in_default-clause-err : goal.returns-in_default-clause-err
returns-in_default-clause-err c =
    none_passed c.args.count c.args.bytes.now c.entries.names c.entries.left c.entries.rest.now c.requires c.entries-test.true c.in_default.ensures c.entries.invariant

pub entries-smaller : goal.entries-smaller
entries-smaller c =
    let front = c.in-Some.front in
    let f : IsFront c.entries.left c.entries.rest.now front.entry front.behind.now = entry_few c.entries.left c.entries.rest.now front.entry front.behind.now c.in-Some.ensures in
    let some = f.times.0 in
    let few = f.few in
    omega arith

pub entries-preserved : goal.entries-preserved
entries-preserved c =
    let front = c.in-Some.front in
    let e : c.spread.new.names ≡ c.entries.names ++ replicate front.entry.times front.entry.agent = search rules in
    entry_passed c.args.count c.args.bytes.now c.entries.names c.entries.left c.entries.rest.now front.entry front.behind.now c.spread.new.names
    c.entries-test.true c.entries.invariant c.in-Some.ensures e

pub returns-then-is_empty-clause-ok : goal.returns-then-is_empty-clause-ok
returns-then-is_empty-clause-ok c =
    let none : length c.entries.rest.now ≡ 0 = search rules in
    line_passed c.args.count c.args.bytes.now c.entries.names c.entries.left c.entries.rest.now c.requires c.entries-test.false none c.entries.invariant

pub returns-else-is_empty-clause-err : goal.returns-else-is_empty-clause-err
returns-else-is_empty-clause-err c =
    let some : 0 < length c.entries.rest.now = search rules in
    more_passed c.args.count c.args.bytes.now c.entries.names c.entries.left c.entries.rest.now c.requires c.entries-test.false some c.entries.invariant
