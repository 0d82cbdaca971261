use Rattle.std.proofs.Common.{false, true}
use mathlib.Core.Path.{sym, ap, ◌∙◌}
use lib.ListN.{length}
use Rattle.sheet_program.proofs.Copies.{on_err, good_count, copies_broken, textures_written, all_filled, some_missing}
use Rattle.sheet_program.proofs.books.write_good.Goals as goal

pub returns-in_err-write_copies-clause-broken : goal.returns-in_err-write_copies-clause-broken
returns-in_err-write_copies-clause-broken g c =
    on_err _ (copies_broken c.args.s.now c.args.p c.requires.good _ _ _ _ (c.as_slice-places.ensures ∙ c.requires.places) (c.as_slice.ensures ∙ c.find-buffers.ensures) c.device_at.ensures c.create.ensures c.in_err-write_copies.ensures.delivered)

pub returns-in_err-write_textures-clause-broken : goal.returns-in_err-write_textures-clause-broken
returns-in_err-write_textures-clause-broken g c =
    on_err _ (textures_written c.args.s.now c.args.p c.requires.good _ _ _ _ (c.as_slice-places.ensures ∙ c.requires.places) (c.as_slice.ensures ∙ c.find-buffers.ensures) c.device_at.ensures c.create.ensures _ c.in_ok-write_copies.ensures.delivered c.in_ok-write_copies.ensures.books_then false c.in_err-write_textures.ensures)

pub returns-then-are_filled-clause-whole : goal.returns-then-are_filled-clause-whole
returns-then-are_filled-clause-whole g c =
    (all_filled c.args.s.now c.args.p c.requires.good _ _ _ _ (c.as_slice-places.ensures ∙ c.requires.places) (c.as_slice.ensures ∙ c.find-buffers.ensures) c.device_at.ensures c.create.ensures _ c.in_ok-write_copies.ensures.delivered c.in_ok-write_copies.ensures.books_then _ _ c.are_filled.ensures c.if-are_filled.true c.find_outcome.ensures, textures_written c.args.s.now c.args.p c.requires.good _ _ _ _ (c.as_slice-places.ensures ∙ c.requires.places) (c.as_slice.ensures ∙ c.find-buffers.ensures) c.device_at.ensures c.create.ensures _ c.in_ok-write_copies.ensures.delivered c.in_ok-write_copies.ensures.books_then true c.in_ok-write_textures.ensures)

pub returns-clause-whole : goal.returns-clause-whole
returns-clause-whole g c =
    (some_missing c.args.s.now c.args.p c.requires.good _ _ _ _ (c.as_slice-places.ensures ∙ c.requires.places) (c.as_slice.ensures ∙ c.find-buffers.ensures) c.device_at.ensures c.create.ensures _ c.in_ok-write_copies.ensures.delivered c.in_ok-write_copies.ensures.books_then _ c.are_filled.ensures c.if-are_filled.false, textures_written c.args.s.now c.args.p c.requires.good _ _ _ _ (c.as_slice-places.ensures ∙ c.requires.places) (c.as_slice.ensures ∙ c.find-buffers.ensures) c.device_at.ensures c.create.ensures _ c.in_ok-write_copies.ensures.delivered c.in_ok-write_copies.ensures.books_then true c.in_ok-write_textures.ensures)

pub create-requires : goal.create-requires
create-requires g c =
    c.requires.room ∙ sym (good_count c.args.s.now c.args.p c.requires.good) ∙ sym (ap length (c.as_slice-places.ensures ∙ c.requires.places))
