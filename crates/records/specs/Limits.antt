-- The limits of the records, in the planner's definitions each named here alone.
use Rattle.std.specs.Prelude.{ℕ}

abbrev pub max_buffer_size : ℕ
max_buffer_size = 268435456

abbrev pub max_buffer_usage : ℕ
max_buffer_usage = 1023

abbrev pub max_texture_usage : ℕ
max_texture_usage = 31

-- a side in 1D and 2D, a side in 3D, the layers of a 2D texture
abbrev pub max_side : ℕ
max_side = 8192

abbrev pub max_side3d : ℕ
max_side3d = 2048

abbrev pub max_layers : ℕ
max_layers = 256

-- the most levels that a side within its limit has
abbrev pub max_levels : ℕ
max_levels = 14
