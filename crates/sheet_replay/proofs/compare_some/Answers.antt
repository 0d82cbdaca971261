-- What the check does not find alone for `compare_some`.
use mathlib.Core.Path.{refl, sym, ◌∙◌}
use Rattle.sheet_replay.specs.Replay.{starts}
use Rattle.sheet_replay.proofs.Lists.{compares}
use Rattle.sheet_replay.proofs.compare_some.Goals as goal

pub returns-then-not-starts_with : goal.returns-then-not-starts_with
unfolding starts
returns-then-not-starts_with c =
    let f = c.fill-filled.ensures in
    record {
      after = _;
      count = _;
      compared = compares _ _ _ _ _ _ _ refl f.fills f.count_in_bounds f.ends (sym c.if-not-starts_with.true ∙ c.starts_with.ensures.value);
    }

pub returns : goal.returns
unfolding starts
returns c =
    let f = c.fill-filled.ensures in
    compares _ _ _ _ _ _ _ refl f.fills f.count_in_bounds f.ends (sym c.if-not-starts_with.false ∙ c.starts_with.ensures.value)
