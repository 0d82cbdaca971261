-- What the check does not find alone for `check_textures`.
use mathlib.Core.Path.{sym, ◌∙◌}
use Rattle.refusals.specs.Order.{decided, mapped}
use Rattle.records.specs.Bounds.{texture_in_bounds, both_texture_checks}
use Rattle.conditions.proofs.Rules.{and_passes}
use Rattle.records.proofs.Checked.{recorded}
use Rattle.records.proofs.check_textures.Goals as goal

pub returns-then-not-fields_in_bounds : goal.returns-then-not-fields_in_bounds
unfolding both_texture_checks decided mapped texture_in_bounds
returns-then-not-fields_in_bounds c = search recorded depth 10

pub returns-then-not-fields_agree : goal.returns-then-not-fields_agree
unfolding both_texture_checks decided mapped texture_in_bounds
returns-then-not-fields_agree c = search recorded depth 10

pub returns-then-not-fields_in_bounds-2 : goal.returns-then-not-fields_in_bounds-2
unfolding both_texture_checks decided mapped texture_in_bounds
returns-then-not-fields_in_bounds-2 c = search recorded depth 10

pub returns-then-not-fields_agree-2 : goal.returns-then-not-fields_agree-2
unfolding both_texture_checks decided mapped texture_in_bounds
returns-then-not-fields_agree-2 c = search recorded depth 10

pub returns : goal.returns
unfolding both_texture_checks decided mapped texture_in_bounds
returns c = search recorded depth 10

pub invariant_of-from : goal.invariant_of-from
unfolding texture_in_bounds
invariant_of-from c = record { in_bounds = sym (search recorded depth 10) }

pub invariant_of-to : goal.invariant_of-to
unfolding texture_in_bounds
invariant_of-to c =
    let fields = sym c.fields_in_bounds-2.ensures ∙ c.if-not-fields_in_bounds-2.false in
    record { in_bounds = sym (and_passes _ _ _ fields (sym c.if-not-fields_agree-2.false ∙ c.fields_agree-2.ensures)) }
