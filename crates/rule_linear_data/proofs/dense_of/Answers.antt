-- What the check does not find alone for `dense_of`.
use borrow.Author.Rules.{rules}
use Rattle.rule_linear_data.proofs.Sums.{row_fits}
use Rattle.rule_linear_data.specs.Linear.{dense_of}
use Rattle.rule_linear_data.proofs.dense_of.Goals as goal

pub overflow_mul-result : goal.overflow_mul-result
unfolding dense_of
overflow_mul-result c = record { fits = row_fits _ _ (search rules) c.block_bytes.ensures.few }

pub returns : goal.returns
unfolding dense_of
returns c = cc
