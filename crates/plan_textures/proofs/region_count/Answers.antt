-- What the check does not find alone for `region_count`.
use borrow.Author.Rules.{rules}
use Rattle.plan_textures.proofs.Rules.{regions_fit}
use Rattle.plan_textures.proofs.region_count.Goals as goal

pub overflow_mul-result : goal.overflow_mul-result
overflow_mul-result c = record { fits = regions_fit _ _ (search rules) c.part_count-count.ensures.few }
