-- What the check does not find alone for `block_bytes`.
use mathlib.Core.Path.{◌≡◌, ap, ◌∙◌}
use native.Mathlib.Omega.{arith}
use Rattle.measures.specs.Measure.{or_else}
use Rattle.rule_linear_data.proofs.Sums.{bytes_few}
use Rattle.rule_linear_data.specs.Linear.{block_bytes}
use Rattle.rule_linear_data.proofs.block_bytes.Goals as goal

pub returns : goal.returns
unfolding block_bytes
returns c =
    let a = c.args in
    let e : c.or_else.result ≡ block_bytes a.format a.aspect = c.or_else.ensures ∙ ap (λ o. or_else o 0) c.block_copy_size.ensures in
    record { value = e; few = omega (arith, e, bytes_few a.format a.aspect) }
