-- Plans from their words (`buffer_words`, `buffer_texture_words`, `texture_words`), which leave the ranges out.
use Rattle.std.specs.Prelude.{ℕ, ◌-◌, ◌%◌, ◌^◌, List, eqb, get_or, Option, Some, None}
use Rattle.conditions.specs.Conditions.{pick}
use Rattle.measures.specs.Measure.{texels}
use Rattle.rule_copy_range.specs.declared.CopyExtent.{CopyExtent}
use Rattle.rule_selectors.specs.declared.TextureCopyBase.{TextureCopyBase}
use Rattle.plan_buffers.specs.declared.BufferPlan.{BufferPlan}
use Rattle.plan_buffer_texture.specs.declared.BufferTexturePlan.{BufferTexturePlan}
use Rattle.plan_textures.specs.Numbers.{parts_from}
use Rattle.plan_textures.specs.declared.TexturePlan.{TexturePlan}

-- a number of 32 bits; a plan's word of one has no more
abbrev pub low : ℕ → ℕ
low word = word % 2 ^ 32

-- the last number of 64 bits stands for an absent value
unfoldable pub option_from : ℕ → Option ℕ
option_from word = pick (eqb word (2 ^ 64 - 1)) None (Some (low word))

-- level, layer, x, y, z, aspect bits
unfoldable pub base_from : ℕ → ℕ → ℕ → ℕ → ℕ → ℕ → TextureCopyBase
base_from level layer x y z aspect =
    record {
      mip_level = low level;
      array_layer = low layer;
      origin = record { x = texels (low x); y = texels (low y); z = low z };
      aspect = record { 0 = low aspect };
    }

abbrev pub extent_from : ℕ → ℕ → ℕ → CopyExtent
extent_from width height depth = record { width = texels (low width); height = texels (low height); depth = low depth }

unfoldable pub buffers_from : List ℕ → BufferPlan
buffers_from w =
    record {
      region = record { src_offset = get_or w 2 0; dst_offset = get_or w 3 0; size = get_or w 4 0 };
      left = low (get_or w 0 0);
      dst_range = None;
      src_range = None;
      bytes_checked = get_or w 1 0;
    }

unfoldable pub buffer_texture_from : List ℕ → BufferTexturePlan
buffer_texture_from w =
    record {
      region =
          record {
            offset = get_or w 3 0;
            bytes_per_row = option_from (get_or w 4 0);
            rows_per_image = option_from (get_or w 5 0);
            base = base_from (get_or w 6 0) (get_or w 7 0) (get_or w 8 0) (get_or w 9 0) (get_or w 10 0) (get_or w 11 0);
            size = extent_from (get_or w 12 0) (get_or w 13 0) (get_or w 14 0);
          };
      stride = get_or w 2 0;
      left = low (get_or w 0 0);
      ranges = None;
      bytes_checked = get_or w 1 0;
    }

unfoldable pub textures_from : List ℕ → TexturePlan
textures_from w =
    record {
      src = base_from (get_or w 3 0) (get_or w 4 0) (get_or w 5 0) (get_or w 6 0) (get_or w 7 0) (get_or w 8 0);
      dst = base_from (get_or w 9 0) (get_or w 10 0) (get_or w 11 0) (get_or w 12 0) (get_or w 13 0) (get_or w 14 0);
      size = extent_from (get_or w 15 0) (get_or w 16 0) (get_or w 17 0);
      parts = parts_from (get_or w 1 0);
      part = low (get_or w 2 0);
      left = low (get_or w 0 0);
      ranges = None;
    }
