-- The lines of a listing as bytes.
use Rattle.std.specs.Prelude.{ℕ, true, false, List, [], ◌∷◌, ◌++◌, Result, Ok, Err, Option, Some, None}
use Rattle.refusals.specs.declared.TransferError.{TransferError}
use Rattle.sheet_text.specs.Text.{spaced, line_text}
use Rattle.plan_rows.specs.Rows.{texture_range_numbers, buffer_range_numbers, refusal_numbers}
use Rattle.plan_kinds.specs.declared.Plan.{Plan}
use Rattle.copy_kinds.specs.declared.InitRange.{InitRange}
use Rattle.copy_kinds.specs.declared.InitRange.TheVariants.{Texture, Buffer}
use Rattle.copy_kinds.specs.declared.Ranges.{Ranges}
use Rattle.copy_kinds.specs.Ranges.{range_at, count_of}
use Rattle.plan_kinds.specs.Regions.{left_of, checked_bytes_of, region_numbers}

-- the words `sheet`, `copy`, ` ok`, ` refused`
abbrev pub sheet_word : List ℕ
sheet_word = 115 ∷ 104 ∷ 101 ∷ 101 ∷ 116 ∷ []

abbrev pub copy_word : List ℕ
copy_word = 99 ∷ 111 ∷ 112 ∷ 121 ∷ []

abbrev pub ok_word : List ℕ
ok_word = 32 ∷ 111 ∷ 107 ∷ []

abbrev pub refused_word : List ℕ
refused_word = 32 ∷ 114 ∷ 101 ∷ 102 ∷ 117 ∷ 115 ∷ 101 ∷ 100 ∷ []

-- the words `t`, `b`, `r`
abbrev pub texture_word : List ℕ
texture_word = 116 ∷ []

abbrev pub buffer_word : List ℕ
buffer_word = 98 ∷ []

abbrev pub region_word : List ℕ
region_word = 114 ∷ []

-- `sheet n`
unfoldable pub sheet_text : ℕ → List ℕ
sheet_text n = line_text sheet_word false (n ∷ [])

-- `t` or `b` and its numbers
unfoldable pub range_text : Option InitRange → List ℕ
range_text (Some (Texture i r)) = line_text texture_word false (texture_range_numbers i r)
range_text (Some (Buffer i r)) = line_text buffer_word false (buffer_range_numbers i r)
range_text None = []

unfoldable pub ranges_text : Ranges → List ℕ
ranges_text r = range_text (range_at r 0) ++ (range_text (range_at r 1) ++ (range_text (range_at r 2) ++ range_text (range_at r 3)))

-- `copy k`
unfoldable pub copy_text : ℕ → List ℕ
copy_text k = copy_word ++ spaced false (k ∷ [])

-- `copy k ok`, regions, ranges, bytes checked; then the ranges
unfoldable pub plan_text : ℕ → Plan → Ranges → List ℕ
plan_text k p r = copy_text k ++ (line_text ok_word false (left_of p ∷ count_of r ∷ checked_bytes_of p ∷ []) ++ ranges_text r)

-- `copy k refused` and its six numbers
unfoldable pub refusal_text : ℕ → TransferError → List ℕ
refusal_text k why = copy_text k ++ line_text refused_word false (refusal_numbers why)

unfoldable pub answer_text : ℕ → Result (Plan × Ranges) TransferError → List ℕ
answer_text k (Ok (p, r)) = plan_text k p r
answer_text k (Err why) = refusal_text k why

-- `r` and the next region's numbers, `-` where one is absent
unfoldable pub region_text : Plan → List ℕ
region_text p = line_text region_word true (region_numbers p)

-- room for the lines of any answer, and for any other line
abbrev pub piece_bytes : ℕ
piece_bytes = 1024
