-- What callers use of an accepted copy between textures.
use Rattle.std.specs.Prelude.{◌≡◌, true, false, ◌+◌, ◌≤◌, eqb, Result, Ok}
use Rattle.flags.specs.TextureUsages as TextureUsages
use Rattle.flags.specs.Flags.{contains}
use Rattle.formats.specs.Table.{aspects_of, remove_srgb}
use Rattle.records.specs.Bounds.{texture_in_bounds}
use Rattle.rule_copy_range.specs.Laws.{RangeLaws}
use Rattle.rule_selectors.specs.Selector.{overlaps}
use Rattle.plan_textures.specs.declared.TexturePlan.{TexturePlan}
use Rattle.copy_textures.specs.Copy.{BetweenTextures, is_one_texture, splits, plane_width, plane_height, chosen, layers, plan_for}
use Rattle.copy_textures.specs.Plan.{texture_to_texture}
use Rattle.refusals.specs.declared.TransferError.{TransferError}

pub record Accepted (c : BetweenTextures) : Type 0 where
  -- both records are within their bounds
  pub src_bounds : texture_in_bounds c.src.texture ≡ true
  pub dst_bounds : texture_in_bounds c.dst.texture ≡ true
  -- the formats are alike but for srgb, unless a plane is split off
  pub formats : splits c ≡ false → remove_srgb c.src.texture.format ≡ remove_srgb c.dst.texture.format
  -- each range lies inside its texture, and inside the plane that is split off
  pub src_range : RangeLaws c.src.view c.src.texture c.size
  pub dst_range : RangeLaws c.dst.view c.dst.texture c.size
  pub plane_x : splits c ≡ true → c.src.view.origin.x.0 + c.size.width.0 ≤ (plane_width c.src).0
  pub plane_y : splits c ≡ true → c.src.view.origin.y.0 + c.size.height.0 ≤ (plane_height c.src).0
  -- within one texture they are apart
  pub apart : is_one_texture c ≡ true → overlaps c.src.view c.dst.view c.src.texture.format (layers c) ≡ false
  -- each side chooses aspects, and but for the split all that its format has
  pub src_chosen : eqb (chosen c.src) 0 ≡ false
  pub dst_chosen : eqb (chosen c.dst) 0 ≡ false
  pub src_aspects : splits c ≡ false → chosen c.src ≡ aspects_of c.src.texture.format
  pub dst_aspects : chosen c.dst ≡ aspects_of c.dst.texture.format
  pub samples : c.src.texture.sample_count ≡ c.dst.texture.sample_count
  -- COPY_SRC, COPY_DST
  pub src_usage : contains c.src.texture.usage.0 TextureUsages.COPY_SRC ≡ true
  pub dst_usage : contains c.dst.texture.usage.0 TextureUsages.COPY_DST ≡ true

abbrev pub planned : BetweenTextures → Result TexturePlan TransferError
planned c = texture_to_texture c.src_index c.src c.dst_index c.dst c.size

-- a copy is accepted exactly where these hold, and then this is its plan
pub record CopyLaw (c : BetweenTextures) : Type 0 where
  pub has_plan : Accepted c → planned c ≡ Ok (plan_for c)
  pub is_accepted : (p : TexturePlan) → planned c ≡ Ok p → Accepted c × (plan_for c ≡ p)

abbrev pub EveryCopyLaw : Type 0
EveryCopyLaw = (c : BetweenTextures) → CopyLaw c
