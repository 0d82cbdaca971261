-- What the check does not find alone for `has_copy_partial_init_tracker_coverage`.
use Rattle.std.proofs.Common.{sym}
use Rattle.rule_init_ranges.specs.Init.{is_partial_cover}
use Rattle.rule_init_ranges.proofs.Alike.{same_all}
use Rattle.rule_init_ranges.proofs.has_copy_partial_init_tracker_coverage.Goals as goal

pub returns : goal.returns
unfolding is_partial_cover
returns c = rw (sym (same_all c.args.t.view.aspect)) cc
