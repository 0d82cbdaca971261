-- What the check does not find alone for `offset_alignment`.
use mathlib.Core.Path.{◌≡◌, sym, ap, ◌∙◌}
use borrow.Author.Rules.{rules}
use Rattle.measures.specs.Measure.{or_else}
use Rattle.formats.specs.Aspects.{block_copy_size}
use Rattle.rule_formats.specs.Rules.{offset_alignment}
use Rattle.rule_formats.proofs.Alignment.{some as above}
use Rattle.rule_formats.proofs.offset_alignment.Goals as goal

pub returns-then-is_depth_stencil_format : goal.returns-then-is_depth_stencil_format
unfolding offset_alignment
returns-then-is_depth_stencil_format c = record { value = rw (sym c.is_depth_stencil_format.ensures ∙ c.if-is_depth_stencil_format.true); some = search rules }

pub returns : goal.returns
unfolding offset_alignment
returns c =
    let a = c.args in
    let block : c.or_else-block.result ≡ or_else (block_copy_size a.format a.aspect) 1 = c.or_else-block.ensures ∙ ap (λ o. or_else o 1) c.block_copy_size.ensures in
    record { value = rw (sym c.is_depth_stencil_format.ensures ∙ c.if-is_depth_stencil_format.false) block; some = rw block (above a.format a.aspect) }
