-- What the check does not find alone for `handle_buffer_init`.
use Rattle.conditions.proofs.Rules.{flag_lines}
use Rattle.rule_init_ranges.specs.Init.{buffer_init}
use Rattle.rule_init_ranges.proofs.handle_buffer_init.Goals as goal

pub returns-then-is_outward : goal.returns-then-is_outward
unfolding buffer_init
returns-then-is_outward c = search flag_lines depth 8

pub returns : goal.returns
unfolding buffer_init
returns c = search flag_lines depth 8
