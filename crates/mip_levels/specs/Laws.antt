-- What callers use of `halved`, `side_at` and `max_mip_levels` in place of their text; and what the list in the code says.
use Rattle.std.specs.Prelude.{◌≡◌, ◌↔◌, ℕ, ◌/◌, ◌^◌, ◌≤◌, ◌<◌, length, slice_index_or}
use Rattle.mip_levels.specs.Level.{halved, side_at, max_mip_levels}
use Rattle.mip_levels.specs.declared.TheConstants.{LEVEL_THRESHOLDS}

pub record LevelLaws : Type 0 where
  -- halving as many times divides by that power of two
  pub halves : (n level : ℕ) → halved n level ≡ n / 2 ^ level
  -- a side of a level is at least 1, and no larger than the texture's
  pub some : (n level : ℕ) → 0 < side_at n level
  pub fewer : (n level : ℕ) → 0 < n → side_at n level ≤ n
  -- a texture may have a level exactly where its largest side is not halved away
  pub counted : (n level : ℕ) → 0 < n → (level < max_mip_levels n) ↔ (0 < halved n level)
  -- and so there are at most as many levels as the largest side has binary digits
  pub few : (n digits : ℕ) → n < 2 ^ digits → 0 < digits → max_mip_levels n ≤ digits

-- each threshold of the list in the code is its power of two: 1, 2, 4 and so on
abbrev pub ThresholdLaw : Type 0
ThresholdLaw = (i : ℕ) → i < length LEVEL_THRESHOLDS → slice_index_or LEVEL_THRESHOLDS i 0 ≡ 2 ^ i
