-- What the check does not find alone for `parts_of`.
use Rattle.conditions.proofs.Rules.{flag_lines}
use Rattle.plan_textures.specs.Plan.{parts_of}
use Rattle.plan_textures.proofs.parts_of.Goals as goal

pub returns-then-is_combined_depth_stencil_format : goal.returns-then-is_combined_depth_stencil_format
unfolding parts_of
returns-then-is_combined_depth_stencil_format c = search flag_lines depth 8

pub returns-then-is_multi_planar_format : goal.returns-then-is_multi_planar_format
unfolding parts_of
returns-then-is_multi_planar_format c = search flag_lines depth 8

pub returns : goal.returns
unfolding parts_of
returns c = search flag_lines depth 8
