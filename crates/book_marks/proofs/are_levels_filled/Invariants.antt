use Rattle.std.proofs.Common.{◌≡◌}
use Rattle.std.specs.List.{range_with_len, list_all}
use Rattle.book_marks.specs.Book.{is_level_filled}
use Rattle.book_marks.proofs.Queries.{all_left}
use Rattle.book_marks.proofs.are_levels_filled.Given as goal

abbrev pub invariant-loop-level : goal.invariant-loop-level
invariant-loop-level l = all_left (λ level. is_level_filled l.marks l.layer_count level) l.level l.level_count ≡ list_all (λ level. is_level_filled l.marks l.layer_count level) (range_with_len 0 l.level_count)
