-- What the check does not find alone for `list_part`.
use Prim.Native.Nat.{ℕ}
use lib.ListN.{length-replicate}
use Rattle.c_listing.proofs.Parts.{lists}
use Rattle.c_listing.proofs.list_part.Goals as goal

pub returns : goal.returns
returns c =
    let f = c.fill-filled.ensures in
    let p = c.put_front-next.ensures in
    lists _ _ _ _ _ _ _ _ _ (length-replicate {A = ℕ} 16384 0) f.fills f.count_in_bounds c.if-count-eq0.false p.value p.out_after
