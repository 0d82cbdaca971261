-- The books of a sheet's textures, as copies are executed in their order, and what is said of them in lines.
use Rattle.std.specs.Prelude.{ℕ, ◌+◌, ◌*◌, false, Bool, min, List, [], ◌∷◌, ◌++◌, get_or, set, replicate, eqb, Option, Some, None, Result, Ok, Err}
use Rattle.std.specs.List.{range_with_len, flat_map, list_all}
use Rattle.std.specs.Result.{result_unwrap_or}
use Rattle.conditions.specs.Conditions.{pick}
use Rattle.records.specs.Limits.{max_levels}
use Rattle.refusals.specs.declared.TransferError.{TransferError}
use Rattle.rule_init_ranges.specs.declared.TextureInitRange.{TextureInitRange}
use Rattle.plan_kinds.specs.declared.Plan.{Plan}
use Rattle.copy_kinds.specs.declared.InitRange.{InitRange}
use Rattle.copy_kinds.specs.declared.InitRange.TheVariants.{Texture, Buffer}
use Rattle.copy_kinds.specs.declared.Ranges.{Ranges}
use Rattle.book_marks.specs.declared.Book.{Book}
use Rattle.book_marks.specs.declared.BookError.{BookError}
use Rattle.book_marks.specs.Book.{blank, created, is_filled}
use Rattle.book_marks.specs.Update.{Updated, updated, missing, book_after}
use Rattle.sheet_text.specs.Text.{spaced, line_text}
use Rattle.sheet_lines.specs.Lines.{ok_word, refused_word, copy_text, refusal_text}
use Rattle.sheet_sections.specs.Rows.{textures, section_line}
use Rattle.sheet_records.specs.Records.{texture_of}

-- the words `clear`, `missing`, `texture`, ` filled`, ` missing`
abbrev pub clear_word : List ℕ
clear_word = 99 ∷ 108 ∷ 101 ∷ 97 ∷ 114 ∷ []

abbrev pub missing_word : List ℕ
missing_word = 109 ∷ 105 ∷ 115 ∷ 115 ∷ 105 ∷ 110 ∷ 103 ∷ []

abbrev pub texture_word : List ℕ
texture_word = 116 ∷ 101 ∷ 120 ∷ 116 ∷ 117 ∷ 114 ∷ 101 ∷ []

abbrev pub is_filled_word : List ℕ
is_filled_word = 32 ∷ 102 ∷ 105 ∷ 108 ∷ 108 ∷ 101 ∷ 100 ∷ []

abbrev pub is_missing_word : List ℕ
is_missing_word = 32 ∷ missing_word

-- ---- places

-- place k of those whose levels and layers are given: a word, texture, level, layer
abbrev pub place_text : List ℕ → ℕ → List ℕ → ℕ → List ℕ
place_text word texture numbers k =
    line_text word false (texture ∷ get_or numbers (2 * k) 0 ∷ get_or numbers (2 * k + 1) 0 ∷ [])

unfoldable pub places_text : List ℕ → ℕ → List ℕ → ℕ → List ℕ
places_text word texture numbers n = flat_map (place_text word texture numbers) (range_with_len 0 n)

-- those that a book has answered; a refusal has none
unfoldable pub answered_text : List ℕ → ℕ → Result ℕ BookError → List ℕ → List ℕ
answered_text word texture (Ok n) numbers = places_text word texture numbers n
answered_text word texture (Err e) numbers = []

-- room for every layer of a range
abbrev pub room : List ℕ
room = replicate 512 0

-- ---- a copy: its ranges are applied in their order, each to its texture's book

abbrev pub book_of : List Book → ℕ → Book
book_of books texture = get_or books texture (blank 0 0)

abbrev pub update_of : List Book → ℕ → TextureInitRange → Updated
update_of books texture r = updated (book_of books texture) r room

unfoldable pub update_text : List Book → ℕ → TextureInitRange → List ℕ
update_text books texture r = answered_text clear_word texture (update_of books texture r).answer (update_of books texture r).out

unfoldable pub update_books : List Book → ℕ → TextureInitRange → List Book
update_books books texture r = set books texture (book_after (book_of books texture) (update_of books texture r))

-- a range of a buffer has no book
unfoldable pub slot_text : List Book → Option InitRange → List ℕ
slot_text books (Some (Texture i r)) = update_text books i r
slot_text books (Some (Buffer i r)) = []
slot_text books None = []

unfoldable pub slot_books : List Book → Option InitRange → List Book
slot_books books (Some (Texture i r)) = update_books books i r
slot_books books (Some (Buffer i r)) = books
slot_books books None = books

unfoldable pub slots_text : List Book → List (Option InitRange) → List ℕ
slots_text books [] = []
slots_text books (slot ∷ slots) = slot_text books slot ++ slots_text (slot_books books slot) slots

unfoldable pub slots_books : List Book → List (Option InitRange) → List Book
slots_books books [] = books
slots_books books (slot ∷ slots) = slots_books (slot_books books slot) slots

-- `copy k ok` and the places that have to be cleared before it, or its refusal
unfoldable pub copy_text_with : List Book → ℕ → Result (Plan × Ranges) TransferError → List ℕ
copy_text_with books k (Ok (p, r)) = copy_text k ++ (line_text ok_word false [] ++ slots_text books r.slots)
copy_text_with books k (Err why) = refusal_text k why

-- a refused copy changes no book
unfoldable pub copy_books : List Book → Result (Plan × Ranges) TransferError → List Book
copy_books books (Ok (p, r)) = slots_books books r.slots
copy_books books (Err why) = books

-- ---- a texture: its line, and every level and layer of it that is not written

-- `refused` and the numbers of 2 for a record out of its bounds, else `filled` or `missing`, levels and layers
unfoldable pub verdict_text : Book → List ℕ
verdict_text b =
    pick (eqb b.mip_level_count 0) (line_text refused_word false (2 ∷ 0 ∷ 0 ∷ 0 ∷ 0 ∷ 0 ∷ []))
    (line_text (pick (is_filled b) is_filled_word is_missing_word) false (b.mip_level_count ∷ b.array_layer_count ∷ []))

unfoldable pub head_text : ℕ → Book → List ℕ
head_text texture b = texture_word ++ (spaced false (texture ∷ []) ++ verdict_text b)

unfoldable pub level_text : ℕ → Book → ℕ → List ℕ
level_text texture b level = answered_text missing_word texture (missing b level room).answer (missing b level room).out

unfoldable pub texture_text : ℕ → Book → List ℕ
texture_text texture b = head_text texture b ++ flat_map (level_text texture b) (range_with_len 0 (min b.mip_level_count max_levels))

-- ---- all books

-- the book of the texture whose line begins at a place, of which nothing is written
unfoldable pub book_at : List ℕ → ℕ → Book
book_at s place = result_unwrap_or (created (texture_of (section_line s textures place))) (blank 0 0)

unfoldable pub are_filled : List Book → Bool
are_filled books = list_all is_filled books
