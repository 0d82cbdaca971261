-- What the check does not find alone for `block_dimensions`.
use mathlib.Core.Path.{◌≡◌, ap}
use Prim.Native.Nat.{ℕ, ◌≤◌, ◌<◌}
use Rattle.measures.specs.declared.BlockDimensions.{BlockDimensions}
use Rattle.formats.specs.Table.{block_of, block_dimensions}
use Rattle.formats.specs.Laws.{max_block_side}
use Rattle.formats.proofs.Rows.{every_format}
use Rattle.formats.proofs.block_dimensions.Goals as goal

Bounded : BlockDimensions → Type 0
Bounded r = (0 < r.width.0) × (r.width.0 ≤ max_block_side) × (0 < r.height.0) × (r.height.0 ≤ max_block_side)

bounded : (r : BlockDimensions) (format : ℕ) → r ≡ block_dimensions format → Bounded r
unfolding Bounded
bounded r format e = let f = every_format format in rw e (f.width_some, f.width_few, f.height_some, f.height_few)

pub new-requires : goal.new-requires
unfolding block_dimensions
new-requires c = rw c.format_row-row.ensures (every_format c.args.format).width_some

pub new-requires-2 : goal.new-requires-2
unfolding block_dimensions
new-requires-2 c = rw c.format_row-row.ensures (every_format c.args.format).height_some

pub returns : goal.returns
unfolding block_dimensions Bounded
returns c =
    let row = ap block_of c.format_row-row.ensures in
    let e : ◌≡◌ {A = BlockDimensions} (record { width = c.new.result; height = c.new-2.result }) (block_dimensions c.args.format) = rw (c.new.ensures, c.new-2.ensures) row in
    record { value = e; sides = bounded _ _ e }
