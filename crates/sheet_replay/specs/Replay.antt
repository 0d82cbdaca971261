-- A list of sheets with their listings, and what it means that it is replayed.
-- Among bytes 10 is a newline and 32 a space.
use Rattle.std.specs.Prelude.{◌≡◌, Bool, true, false, not, List, [], ◌∷◌, ◌++◌, ◌↔◌, ℕ, ◌+◌, ◌-◌, ◌^◌, Option, None, Some, option_and_then, unwrap_or, Result, Ok, Err, nat_eq, bytes_eq, ltb, length, take, drop}
use Rattle.conditions.specs.Conditions.{pick, stop_if, ◌$◌}
use Rattle.std.specs.List.{starts_with}
use Rattle.sheet_fields.specs.declared.FieldKind.TheVariants.{Word}
use Rattle.sheet_fields.specs.Field.{field_of}
use Rattle.sheet_text.specs.Text.{decimal, line_text}
use Rattle.sheet_listing.specs.Listing.{listing_of}
use Rattle.sheet_replay.specs.declared.Counts.{Counts}
use Rattle.sheet_replay.specs.declared.IllItem.{IllItem}
use Rattle.sheet_replay.specs.declared.Item.{Item}
use Rattle.sheet_replay.specs.declared.Message.{Message}
use Rattle.sheet_replay.specs.declared.Message.TheVariants.{ItemDiffers, ItemsRead, ItemIll}

-- what is read goes on, and the first ill field ends it
infixr 10 ◌>>=◌
abbrev ◌>>=◌ : {A B : Type 0} → Option A → (A → Option B) → Option B
o >>= f = option_and_then f o

-- ---- bytes

-- a text stands at the start of a list
unfoldable pub starts : List ℕ → List ℕ → Bool
starts text l = starts_with nat_eq l text

unfoldable pub same : List ℕ → List ℕ → Bool
same a b = bytes_eq a b

-- that it is equality
abbrev pub SameLaw : Type 0
SameLaw = (a b : List ℕ) → (same a b ≡ true) ↔ (a ≡ b)

-- ---- one item

-- the listing of a sheet is another than the recorded one
unfoldable pub differs : List ℕ → List ℕ → Bool
differs s recorded = not (same (listing_of s) recorded)

-- some of what was left of a listing was compared with the record's start; nothing only where nothing was left
pub record Compares (before after recorded : List ℕ) (count : ℕ) (agrees : Bool) : Type 0 where
  pub text : List ℕ
  pub left : before ≡ text ++ after
  pub counted : count ≡ length text
  pub is : agrees ≡ starts text recorded
  pub ends : count ≡ 0 → before ≡ []

-- some of what was left is not what the record goes on with
pub record Differs (before recorded : List ℕ) : Type 0 where
  pub after : List ℕ
  pub count : ℕ
  pub compared : Compares before after recorded count false

-- ---- the list

-- a list has fewer bytes
abbrev pub list_bytes : ℕ
list_bytes = 2 ^ 18

-- `sheet `
unfoldable pub replay_word : List ℕ
replay_word = 115 ∷ 104 ∷ 101 ∷ 101 ∷ 116 ∷ 32 ∷ []

-- `end`, and a newline
unfoldable pub end_line : List ℕ
end_line = 101 ∷ 110 ∷ 100 ∷ 10 ∷ []

-- an item whose head ends at a place of so many bytes, of n and m bytes, where so many bytes are there
unfoldable pub item_of : ℕ → ℕ → ℕ → ℕ → Option Item
item_of bytes first n m =
    stop_if (ltb (bytes - first) n) None $
    stop_if (ltb (bytes - (first + n)) m) None $
    Some (record { sheet = first; listing = first + n; next = first + n + m })

-- the item that the rest of a list begins with: `sheet N M`, N bytes, M bytes
unfoldable pub head_of : List ℕ → Option Item
head_of l =
    stop_if (not (starts replay_word l)) None $
    (field_of l 6 Word 32 >>= λ n. field_of l n.next Word 10 >>= λ m. item_of (length l) m.next (unwrap_or n.value 0) (unwrap_or m.value 0))

-- an item's sheet and its recorded listing
abbrev pub sheet_in : List ℕ → Item → List ℕ
sheet_in l i = take (i.listing - i.sheet) (drop i.sheet l)

abbrev pub recorded_in : List ℕ → Item → List ℕ
recorded_in l i = take (i.next - i.listing) (drop i.listing l)

-- the counts, of all items or of those before an ill one
abbrev pub counts_of : Result Counts IllItem → Counts
counts_of (Ok c) = c
counts_of (Err e) = e.before

-- the rest of a list, after so many items of which so many differ
pub data Replays : List ℕ → ℕ → ℕ → Result Counts IllItem → Type 0 where
  ended : {l : List ℕ} {items differ : ℕ} → same end_line l ≡ true → Replays l items differ (Ok (record { items = items; differ = differ }))
  broken : {l : List ℕ} {items differ : ℕ} → same end_line l ≡ false → head_of l ≡ None → Replays l items differ (Err (record { before = record { items = items; differ = differ } }))
  replayed :
      {l : List ℕ} {items differ : ℕ} {i : Item} {v : Result Counts IllItem} → same end_line l ≡ false → head_of l ≡ Some i
      → Replays (drop i.next l) (items + 1) (pick (differs (sheet_in l i) (recorded_in l i)) (differ + 1) differ) v
      → Replays l items differ v

-- ---- what is printed

-- room for any line
abbrev pub text_bytes : ℕ
text_bytes = 64

-- `item K differs`
unfoldable pub differs_text : ℕ → List ℕ
differs_text k = (105 ∷ 116 ∷ 101 ∷ 109 ∷ 32 ∷ []) ++ (decimal k ++ (32 ∷ 100 ∷ 105 ∷ 102 ∷ 102 ∷ 101 ∷ 114 ∷ 115 ∷ 10 ∷ []))

-- `N sheets, D differ`
unfoldable pub counts_text : ℕ → ℕ → List ℕ
counts_text items differ =
    (decimal items ++ (32 ∷ 115 ∷ 104 ∷ 101 ∷ 101 ∷ 116 ∷ 115 ∷ 44 ∷ 32 ∷ []))
    ++ (decimal differ ++ (32 ∷ 100 ∷ 105 ∷ 102 ∷ 102 ∷ 101 ∷ 114 ∷ 10 ∷ []))

-- `ill list at item K`
unfoldable pub ill_text : ℕ → List ℕ
ill_text k = line_text (105 ∷ 108 ∷ 108 ∷ 32 ∷ 108 ∷ 105 ∷ 115 ∷ 116 ∷ 32 ∷ 97 ∷ 116 ∷ 32 ∷ 105 ∷ 116 ∷ 101 ∷ 109 ∷ []) false (k ∷ [])

unfoldable pub message_text : Message → List ℕ
message_text (ItemDiffers k) = differs_text k
message_text (ItemsRead counts) = counts_text counts.items counts.differ
message_text (ItemIll k) = ill_text k
