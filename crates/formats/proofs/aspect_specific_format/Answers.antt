-- What the check does not find alone for `aspect_specific_format`.
use Rattle.conditions.proofs.Rules.{flag_lines}
use Rattle.formats.specs.Aspects.{aspect_specific_format}
use Rattle.formats.proofs.aspect_specific_format.Goals as goal

pub returns-then-is_multi_planar_format : goal.returns-then-is_multi_planar_format
unfolding aspect_specific_format
returns-then-is_multi_planar_format c = search flag_lines depth 8

pub returns : goal.returns
unfolding aspect_specific_format
returns c = search flag_lines depth 8
