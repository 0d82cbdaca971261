-- What the check does not find alone for `write_left`.
use Rattle.std.specs.Prelude.{None}
use mathlib.Core.Path.{◌∙◌, ap}
use mathlib.Core.List.{List}
use Prim.Native.Nat.{ℕ}
use lib.Seq.{sets}
use Rattle.plan_kinds.specs.Regions.{left_of, fields_of}
use Rattle.plan_writer.specs.Writing.{numbers_left}
use Rattle.plan_writer.proofs.Writes.{numbers_from_with, restored}
use Rattle.plan_writer.proofs.TexturePlanWriteRegions.write_left.Goals as goal

pub write_each-behind-requires : goal.write_each-behind-requires
unfolding left_of fields_of
write_each-behind-requires c = c.requires

pub returns : goal.returns
unfolding left_of numbers_left
returns c =
    let e = c.write_each-behind.ensures in
    record {
      value = restored c.args.self.left c.args.self c.write_each-behind.result.0 e.value;
      out_after = e.out_after ∙ ap (λ (ns : List ℕ). sets c.args.out.now 0 ns) (numbers_from_with None c.args.self.left c.args.self);
    }
