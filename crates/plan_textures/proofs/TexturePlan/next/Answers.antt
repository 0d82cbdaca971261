-- What the check does not find alone for `next`.
use Rattle.plan_asked.proofs.Left.{one_fewer, none_left}
use Rattle.plan_textures.specs.Asking.{next_of}
use Rattle.plan_textures.proofs.TexturePlan.next.Goals as goal

pub returns-in-Some : goal.returns-in-Some
unfolding next_of
returns-in-Some c = one_fewer _ _ _ _ _ _ c.checked_sub.ensures c.in-Some.is (λ e. rw (c.region.ensures, c.advance.ensures e))

pub returns-in-None : goal.returns-in-None
unfolding next_of
returns-in-None c = none_left _ _ _ _ c.checked_sub.ensures c.in-None.is
