use Rattle.conduct.proofs.ConductLaws.{level_read, too_few, not_level, log_full, none_pending, none_met}
use Rattle.conduct.proofs.find_level.Goals as goal

pub returns-then-running-numbers-clause-settled : goal.returns-then-running-numbers-clause-settled
returns-then-running-numbers-clause-settled c = let t = c.args.memory.now in
    let found = c.find_running-running.ensures t.orders.now t.ballots.now in too_few _ _ found.1 c.if-running-numbers.true

pub returns-then-not-is_level-clause-settled : goal.returns-then-not-is_level-clause-settled
returns-then-not-is_level-clause-settled c = let t = c.args.memory.now in
    let found = c.find_running-running.ensures t.orders.now t.ballots.now in
    let level = level_read _ _ c.is_level.ensures c.to_read.ensures in
    not_level _ _ found.1 c.if-running-numbers.false found.2 level c.if-not-is_level.true

pub returns-then-numbers-running-clause-settled : goal.returns-then-numbers-running-clause-settled
returns-then-numbers-running-clause-settled c = let t = c.args.memory.now in
    let found = c.find_running-running.ensures t.orders.now t.ballots.now in
    let level = level_read _ _ c.is_level.ensures c.to_read.ensures in
    log_full _ _ found.1 c.if-running-numbers.false found.2 level c.if-not-is_level.false c.if-numbers-running.true

pub returns-then-tag-eq0-clause-settled : goal.returns-then-tag-eq0-clause-settled
returns-then-tag-eq0-clause-settled c = let t = c.args.memory.now in
    let found = c.find_running-running.ensures t.orders.now t.ballots.now in
    let level = level_read _ _ c.is_level.ensures c.to_read.ensures in
    none_pending _ _ found.1 c.if-running-numbers.false found.2 level c.if-not-is_level.false c.if-numbers-running.false
    (c.common_tag-tag.ensures t.ballots.now) c.if-tag-eq0.true

pub returns-clause-settled : goal.returns-clause-settled
returns-clause-settled c = let t = c.args.memory.now in
    let found = c.find_running-running.ensures t.orders.now t.ballots.now in
    let level = level_read _ _ c.is_level.ensures c.to_read.ensures in
    none_met _ _ found.1 c.if-running-numbers.false found.2 level c.if-not-is_level.false c.if-numbers-running.false
    (c.common_tag-tag.ensures t.ballots.now) c.if-tag-eq0.false

pub returns-clause-seen : goal.returns-clause-seen
returns-clause-seen c = let t = c.args.memory.now in
    let found = c.find_running-running.ensures t.orders.now t.ballots.now in record {
      running = found.0;
      lacking = c.find_lacking-lacking.ensures t.ballots.now;
      slot = found.2;
      below = c.if-numbers-running.false;
      tag = c.common_tag-tag.ensures t.ballots.now;
    }
