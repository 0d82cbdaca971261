-- The listing's text of a copy, as bytes: 01, the job sheet. Decimal text, one space between fields, no leading zeros, a
-- newline after every line; `-` is an absent number.
use Rattle.std.specs.Prelude.{ℕ, zero, suc, ◌+◌, ◌/◌, ◌%◌, cond, ltb, length, take, Option, Some, None}
use Prim.Native.Char.{code}
use Prim.Native.String as S
use mathlib.Core.List.{List, [], ◌∷◌, ◌++◌, flat_map}
use Rattle.rule_init_ranges.specs.declared.MemoryInitKind.{MemoryInitKind}
use Rattle.rule_init_ranges.specs.declared.MemoryInitKind.TheVariants.{ImplicitlyInitialized, NeedsInitializedMemory}
use Rattle.refusals.specs.declared.TransferError.{TransferError}
use Rattle.refusals.specs.Numbers.{numbers_of}
use Rattle.plan_kinds.specs.declared.Plan.{Plan}
use Rattle.plan_kinds.specs.declared.Plan.TheVariants.{Buffers, BufferTexture, Textures}
use Rattle.copy_kinds.specs.declared.InitRange.{InitRange}
use Rattle.copy_kinds.specs.declared.InitRange.TheVariants.{Texture, Buffer}
use Rattle.copy_kinds.specs.declared.Ranges.{Ranges}
use Rattle.claim_region_output.specs.Asking.{Region}
use Rattle.claim_region_output.specs.Numbers.{Number, given, absent, numbers}

-- the bytes of a text
unfoldable pub text : S.String → List ℕ
text S.[] = []
text (S.◌∷◌ c cs) = code c ∷ text cs

-- the decimal digits of n, before other bytes
unfoldable pub digits : ℕ → ℕ → List ℕ → List ℕ
digits zero n rest = rest
digits (suc most) n rest = cond (ltb n 10) ((48 + n) ∷ rest) (digits most (n / 10) ((48 + n % 10) ∷ rest))

-- a number of 64 bits has at most twenty
unfoldable pub shown : Number → List ℕ
shown (given n) = digits 20 n []
shown absent = text "-"

unfoldable pub spaced : List Number → List ℕ
spaced ns = flat_map (λ (n : Number). text " " ++ shown n) ns

unfoldable pub line : S.String → List Number → List ℕ
line word ns = text word ++ (spaced ns ++ text "\n")

-- `r` lines
unfoldable pub region_lines : List Region → List ℕ
region_lines rs = flat_map (λ (r : Region). line "r" (numbers r)) rs

-- `t`: texture, level, first layer, end layer, kind. `b`: buffer, start, end, kind. A kind is 0 implicitly initialised, 1 needs memory.
unfoldable pub kind : MemoryInitKind → ℕ
kind ImplicitlyInitialized = 0
kind NeedsInitializedMemory = 1

unfoldable pub range_line : Option InitRange → List (List ℕ)
range_line (Some (Texture i r)) = line "t" (given i ∷ given r.mip_level ∷ given r.layers.start ∷ given r.layers.end ∷ given (kind r.kind) ∷ []) ∷ []
range_line (Some (Buffer i r)) = line "b" (given i ∷ given r.start ∷ given r.end ∷ given (kind r.kind) ∷ []) ∷ []
range_line None = []

-- of the four slots
abbrev pub range_lines : Ranges → List (List ℕ)
range_lines r = flat_map range_line (take 4 r.slots)

-- bytes checked, 0 between textures
unfoldable pub checked_bytes_of : Plan → ℕ
checked_bytes_of (Buffers p) = p.bytes_checked
checked_bytes_of (BufferTexture p) = p.bytes_checked
checked_bytes_of (Textures p) = 0

-- `copy k ok`, regions, ranges, bytes checked; then each range's line; then each region's
unfoldable pub accepted : ℕ → Plan → Ranges → List Region → List ℕ
accepted k p r rs =
    text "copy" ++ (spaced (given k ∷ []) ++ (line " ok" (given (length rs) ∷ given (length (range_lines r)) ∷ given (checked_bytes_of p) ∷ [])
    ++ (flat_map (λ (l : List ℕ). l) (range_lines r) ++ region_lines rs)))

-- `copy k refused` and its six numbers
unfoldable pub refused : ℕ → TransferError → List ℕ
refused k e =
    let n = numbers_of e in
    text "copy" ++ (spaced (given k ∷ []) ++ line " refused" (given n.number ∷ given n.side ∷ given n.dimension ∷ given n.start ∷ given n.end ∷ given n.limit ∷ []))
