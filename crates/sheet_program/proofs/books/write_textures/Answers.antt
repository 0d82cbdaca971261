use mathlib.Core.Path.{refl}
use Rattle.sheet_program.proofs.Parts.{delivered_err}
use Rattle.sheet_program.proofs.Copies.{sent_text, texturing_end, texturing_stop, texturing_on}
use Rattle.sheet_calls.proofs.WrittenParts.{onto_start}
use Rattle.sheet_program.proofs.books.write_textures.Goals as goal

pub loop-i-init : goal.loop-i-init
loop-i-init g c =
    onto_start _

pub loop-i-preserved : goal.loop-i-preserved
loop-i-preserved g c =
    texturing_on _ _ c.loop-i.invariant c.loop-i-test.true _ _ refl (sent_text c.put_texture-n.ensures.put c.put_texture-n.ensures.within c.in_ok-send.ensures)

pub returns-in_err-send : goal.returns-in_err-send
returns-in_err-send g c =
    delivered_err _ c.from_residual.ensures.0 (texturing_stop _ _ c.loop-i.invariant c.loop-i-test.true _ _ refl (sent_text c.put_texture-n.ensures.put c.put_texture-n.ensures.within c.in_err-send.ensures))

pub returns : goal.returns
returns g c =
    texturing_end _ _ c.loop-i.invariant c.loop-i-test.false
