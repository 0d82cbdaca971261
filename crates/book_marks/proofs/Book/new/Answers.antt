use mathlib.Core.Path.{sym, ap, ◌∙◌}
use Rattle.book_marks.specs.Book.{layer_count}
use Rattle.book_marks.proofs.Queries.{created_blank}
use Rattle.book_marks.proofs.Book.new.Goals as goal

pub returns : goal.returns
returns c =
    created_blank c.args.t _ (sym c.if-not-texture_in_bounds.ensures) (c.layer_count.ensures ∙ ap (λ d. layer_count d c.args.t.size) c.from.ensures)
