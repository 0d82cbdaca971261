use Rattle.std.proofs.Common.{◌≡◌}
use Rattle.std.specs.List.{range_with_len, list_all}
use Rattle.book_marks.specs.Book.{is_marked}
use Rattle.book_marks.proofs.Queries.{all_left}
use Rattle.book_marks.proofs.is_level_filled.Given as goal

abbrev pub invariant-loop-layer : goal.invariant-loop-layer
invariant-loop-layer l = all_left (λ layer. is_marked l.marks l.level layer) l.layer l.layer_count ≡ list_all (λ layer. is_marked l.marks l.level layer) (range_with_len 0 l.layer_count)
