-- Asking a plan of a copy between textures for its next region.
use Rattle.std.specs.Prelude.{ℕ, ◌-◌, eqb, Some, None}
use Rattle.conditions.specs.Conditions.{pick, stop_if, ◌$◌}
use Rattle.measures.specs.Measure.{divided_by}
use Rattle.flags.specs.FormatAspects.{DEPTH, STENCIL, PLANE_0, PLANE_1}
use Rattle.rule_copy_range.specs.declared.CopyExtent.{CopyExtent}
use Rattle.rule_selectors.specs.declared.TextureCopyBase.{TextureCopyBase}
use Rattle.rule_selectors.specs.Selector.{next_layer}
use Rattle.plan_textures.specs.declared.CopyParts.{CopyParts}
use Rattle.plan_textures.specs.declared.CopyParts.TheVariants.{Whole, DepthStencil, Planes}
use Rattle.plan_textures.specs.declared.TextureCopy.{TextureCopy}
use Rattle.plan_textures.specs.declared.TexturePlan.{TexturePlan}
use Rattle.plan_asked.specs.declared.Asked.{Asked}

-- a base with other aspects, and with x and y divided
unfoldable pub base_as : TextureCopyBase → ℕ → ℕ → TextureCopyBase
base_as b aspects factor =
    record {
      mip_level = b.mip_level;
      array_layer = b.array_layer;
      origin = record { x = divided_by b.origin.x factor; y = divided_by b.origin.y factor; z = b.origin.z };
      aspect = record { 0 = aspects };
    }

unfoldable pub size_by : CopyExtent → ℕ → CopyExtent
size_by e factor = record { width = divided_by e.width factor; height = divided_by e.height factor; depth = e.depth }

-- both sides with one part's aspects, halved downwards for plane 1
unfoldable pub region_as : TexturePlan → ℕ → ℕ → TextureCopy
region_as p aspects factor = record { src = base_as p.src aspects factor; dst = base_as p.dst aspects factor; size = size_by p.size factor }

-- depth, then stencil; plane 0, then plane 1
unfoldable pub region_of : CopyParts → TexturePlan → TextureCopy
region_of Whole p = record { src = p.src; dst = p.dst; size = p.size }
region_of DepthStencil p = pick (eqb p.part 0) (region_as p DEPTH 1) (region_as p STENCIL 1)
region_of Planes p = pick (eqb p.part 0) (region_as p PLANE_0 1) (region_as p PLANE_1 2)

abbrev pub plan_at : TexturePlan → TextureCopyBase → TextureCopyBase → ℕ → TexturePlan
plan_at p src dst part =
    record { src = src; dst = dst; size = p.size; parts = p.parts; part = part; left = p.left - 1; ranges = p.ranges }

-- the next part of the layer, or the next layer's first
unfoldable pub other_part : TexturePlan → TexturePlan
other_part p = plan_at p p.src p.dst 1

unfoldable pub other_layer : TexturePlan → TexturePlan
other_layer p = plan_at p (next_layer p.src) (next_layer p.dst) 0

unfoldable pub advanced : CopyParts → TexturePlan → TexturePlan
advanced Whole p = other_layer p
advanced DepthStencil p = pick (eqb p.part 0) (other_part p) (other_layer p)
advanced Planes p = pick (eqb p.part 0) (other_part p) (other_layer p)

-- none left, and the plan unchanged; else its region beside the advanced plan
unfoldable pub next_of : TexturePlan → Asked TextureCopy TexturePlan
next_of p =
    stop_if (eqb p.left 0) (record { answer = None; plan = p }) $
    record { answer = Some (region_of p.parts p); plan = advanced p.parts p }
